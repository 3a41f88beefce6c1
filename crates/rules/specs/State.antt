-- What the rules speak of: the two tables in words, the one order of the listed tasks, who runs, tick, hold and pended, and how often each slot was given up.
use Rattle.std.specs.Prelude.{ℕ, List}
use Rattle.numbers.specs.declared.TaskSlot.{TaskSlot}
use Rattle.calls.specs.declared.Uses.{Uses}
use Rattle.order.specs.declared.Order.{Order}
use Rattle.slots.specs.declared.Task.{Task}
use Rattle.slots.specs.declared.Object.{Object}

pub record State : Type 0 where
  pub tasks : List Task
  pub objects : List Object
  pub order : Order
  pub running : TaskSlot
  pub tick : ℕ
  pub hold : ℕ
  pub pended : ℕ
  pub uses : Uses

-- where a sent item goes: to the first waiting receiver, into the queue, or to the slip of the caller, who waits
pub data Outlet : Type 0 where
  to_waiter : TaskSlot → Outlet
  to_queue to_caller : Outlet
