-- Demand 3 "speaks of the task by its full number": a slot used again is another task because its number is another.
use Rattle.std.specs.Prelude.{ℕ, ◌≡◌, true, false}
use Rattle.calls.specs.Named.{task_of, object_of}
use Rattle.calls.specs.Door.{task_slot, obj_slot, task_no, obj_no}
use Rattle.slots.specs.Kinds.{is_unused, kind_at}
use Rattle.histories.specs.Types.{TaskSlot, ObjSlot, State}
use Rattle.histories.specs.Moments.{exists}
use Rattle.histories.specs.Again.{names_task, names_object}

-- the slot that the number names in that kernel; where it names none, one that no table has
abbrev pub slot_of : State → ℕ → TaskSlot
slot_of k n = task_slot k.uses (task_of n)

-- each task that exists has one number, which names it, and so has each object: what is said of a task in its slot is said of the task of that number
pub record Numbered (k : State) : Type 0 where
  pub task_named : (t : TaskSlot) → exists k t ≡ true → slot_of k (task_no k.uses t).0 ≡ t
  pub task_number : (n : ℕ) → names_task k n ≡ true → (task_no k.uses (slot_of k n)).0 ≡ n
  pub object_named : (o : ObjSlot) → is_unused (kind_at k.objects o) ≡ false → obj_slot k.uses (obj_no k.uses o) ≡ o
  pub object_number : (n : ℕ) → names_object k n ≡ true → (obj_no k.uses (obj_slot k.uses (object_of n))).0 ≡ n
