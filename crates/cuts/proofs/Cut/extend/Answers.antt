use Rattle.std.proofs.Common.{length, rules, lt-ltb, le-ltb}
use Rattle.cuts.proofs.Storing.{extended}
use Rattle.cuts.proofs.Cut.extend.Goals as goal
use Rattle.cuts.proofs.Cut.extend.Goals.{then-n-more, else-n-more}

pub returns : goal.returns
returns c =
    let a = c.args in
    let n = c.min-n.result in
    extended a.self.now.bytes a.more.now _ a.self.now.len _ n _ (search rules) c.min-from.ensures c.min-n.ensures c.copy_from_slice.ensures.after
    (elim c.if-n-more.branch [
      | then-n-more w ↦ rw (lt-ltb n (length a.more.now) w.if-n-more.true) w.self-is
      | else-n-more w ↦ rw (le-ltb n (length a.more.now) w.if-n-more.false) w.self-is
    ])
