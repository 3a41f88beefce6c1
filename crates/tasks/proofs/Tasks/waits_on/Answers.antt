use Rattle.std.proofs.Common.{◌≡◌, ◌∙◌, arith}
use Rattle.tasks.proofs.Columns.{Full}
use Rattle.tasks.proofs.Lengths.{full_of}
use Rattle.tasks.proofs.WalkTurns.{waited_is}
use Rattle.tasks.proofs.Tasks.waits_on.Goals as goal

pub returns : goal.returns
returns c =
    let a = c.args in
    let f : Full a.self = search full_of in
    let e : c.loop-i.i ≡ 16 = omega arith in
    rw e at c.loop-i.invariant ∙ waited_is a.self f a.o
