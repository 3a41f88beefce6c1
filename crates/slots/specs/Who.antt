-- Which tasks are meant.
use Rattle.std.specs.Prelude.{ℕ}
use Rattle.numbers.specs.declared.ObjSlot.{ObjSlot}

-- the ready ones, those that wait on an object, or those of them that its bits satisfy
pub data Who : Type 0 where
  all_ready : Who
  waiters_of : ObjSlot → Who
  those_satisfied_on : ObjSlot → ℕ → Who
