-- How the highest occupied line is found.
use Rattle.order.specs.Order.{listed}
use Rattle.heights.specs.declared.Lines.{Lines}
use Rattle.heights.specs.Heights.{occupied}
use Rattle.slots.specs.Places.{is_ready}
use Rattle.slots.specs.Values.{task_at}
use Rattle.rules.specs.Types.{State}
use Rattle.rules.specs.Lines.{level}

-- "Form the 32-bit word of occupied lines and find the highest with the processor's count of leading zeros." (request 2): the lines that the ready tasks of the order stand in
unfoldable pub lines_of : State → Lines
lines_of k = occupied (λ t. is_ready (task_at k.tasks t).place) (level k.tasks) (listed k.order)
