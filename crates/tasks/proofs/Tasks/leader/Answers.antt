use Rattle.std.proofs.Common.{◌∙◌, sym}
use Rattle.order.specs.Order.{listed}
use Rattle.tasks.proofs.Heads.{head_found}
use Rattle.tasks.proofs.Tasks.leader.Goals as goal

pub returns : goal.returns
returns c =
    let a = c.args in
    c.unwrap_or.ensures ∙ rw (c.head.ensures, c.top.ensures) (sym (head_found a.self _ (listed a.o) a.u))
