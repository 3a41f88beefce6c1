use Rattle.std.proofs.Common.{◌∙◌}
use Rattle.order.specs.Order.{listed}
use Rattle.tasks.proofs.Heads.{heads_is}
use Rattle.tasks.proofs.Tasks.heads.Goals as goal

pub returns : goal.returns
returns c =
    let a = c.args in
    c.eq.ensures ∙ rw (c.head.ensures, c.level.ensures) (heads_is a.self a.u (listed a.o))
