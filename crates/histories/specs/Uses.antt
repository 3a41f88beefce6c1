-- "where a slot's use starts at 0 and goes up by one at each delete or remove": the use of a slot, in the request's words, and how often it was given up.
use Rattle.std.specs.Prelude.{ℕ, ◌+◌, ◌*◌, ◌≤◌, ◌≡◌, Bool, true, false, not, ◌&&◌, List, length, if◌then◌else◌}
use Rattle.lists.specs.Lists.{kept}
use Rattle.numbers.specs.Numbers.{same_task, same_object}
use Rattle.calls.specs.Door.{use_in, task_no, obj_no}
use Rattle.calls.specs.Behind.{asked}
use Rattle.slots.specs.Places.{is_free, takes_task}
use Rattle.slots.specs.Values.{task_at}
use Rattle.slots.specs.Kinds.{is_unused, takes_object, kind_at}
use Rattle.rows.specs.Asking.{is}
use Rattle.rules.specs.Trace.{Moment, CallMade}
use Rattle.promises.specs.History.{reached}
use Rattle.histories.specs.Types.{TaskSlot, ObjSlot, State}
use Rattle.histories.specs.Moments.{moments, exists, not_refused}

-- "A slot given up at use 65,535 then has use 65,536 and is not used again": nothing stands in it, and no create or make takes it; of any other slot, the use that is kept
abbrev pub use_of : Bool → Bool → ℕ → ℕ
use_of empty takes u = if empty && not takes then 65536 else u

abbrev pub task_use : State → TaskSlot → ℕ
task_use k t = use_of (is_free (task_at k.tasks t).place) (takes_task (task_at k.tasks t).place) (use_in k.uses.tasks t.0)

abbrev pub object_use : State → ObjSlot → ℕ
object_use k o = use_of (is_unused (kind_at k.objects o)) (takes_object (kind_at k.objects o)) (use_in k.uses.objects o.0)

-- an accepted delete of the task in the slot, an accepted remove of the object
abbrev pub deletes : TaskSlot → Moment CallMade → Bool
deletes t m = not_refused m && (is 2 (asked m.before.uses m.made.call) && same_task (asked m.before.uses m.made.call).task t)

abbrev pub removes : ObjSlot → Moment CallMade → Bool
removes o m = not_refused m && (is 12 (asked m.before.uses m.made.call) && same_object (asked m.before.uses m.made.call).object o)

-- at how many of some moments
abbrev pub times : (Moment CallMade → Bool) → List (Moment CallMade) → ℕ
times p ms = length (kept p ms)

-- after these calls from the fresh kernel
pub record UsesCount (ms : List CallMade) : Type 0 where
  pub tasks : (t : TaskSlot) → task_use (reached ms) t ≡ times (deletes t) (moments ms)
  pub objects : (o : ObjSlot) → object_use (reached ms) o ≡ times (removes o) (moments ms)
  -- "a use is at most 65,536, in a taken slot 65,535"
  pub task_most : (t : TaskSlot) → task_use (reached ms) t ≤ 65536
  pub object_most : (o : ObjSlot) → object_use (reached ms) o ≤ 65536
  pub task_taken : (t : TaskSlot) → exists (reached ms) t ≡ true → task_use (reached ms) t ≤ 65535
  pub object_taken : (o : ObjSlot) → is_unused (kind_at (reached ms).objects o) ≡ false → object_use (reached ms) o ≤ 65535
  -- "each number slot + 16 × use"
  pub task_number : (t : TaskSlot) → exists (reached ms) t ≡ true → (task_no (reached ms).uses t).0 ≡ t.0 + 16 * task_use (reached ms) t
  pub object_number : (o : ObjSlot) → is_unused (kind_at (reached ms).objects o) ≡ false → (obj_no (reached ms).uses o).0 ≡ o.0 + 16 * object_use (reached ms) o
