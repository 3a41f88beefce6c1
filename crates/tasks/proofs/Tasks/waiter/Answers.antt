use Rattle.std.proofs.Common.{sym, ◌∙◌}
use Rattle.order.specs.Order.{listed}
use Rattle.tasks.proofs.Columns.{Full}
use Rattle.tasks.proofs.Lengths.{full_of}
use Rattle.tasks.proofs.Heads.{none_waited}
use Rattle.tasks.proofs.Tasks.waiter.Goals as goal

pub returns-else-waits_on : goal.returns-else-waits_on
returns-else-waits_on c =
    let a = c.args in
    let f : Full a.self = search full_of in
    none_waited a.self f a.x (sym c.waits_on.ensures ∙ c.if-waits_on.false) (listed a.o)
