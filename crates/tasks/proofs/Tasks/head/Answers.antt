use Rattle.std.proofs.Common.{◌∙◌}
use Rattle.order.specs.Order.{listed}
use Rattle.tasks.proofs.Heads.{found_in}
use Rattle.tasks.proofs.Tasks.head.Goals as goal

pub returns : goal.returns
returns c =
    let a = c.args in
    c.first_in_line.ensures ∙ rw c.among.ensures (found_in a.self a.p (listed a.o))
