-- Waits: how a task is made ready, and how the caller begins to wait.
use Rattle.std.specs.Prelude.{ℕ, ◌+◌, ◌%◌, ◌^◌, leb, if◌then◌else◌}
use Rattle.slots.specs.Values.{placed, task_at}
use Rattle.slots.specs.Wants.{wait_on}
use Rattle.rules.specs.Types.{TaskSlot, ObjSlot, Want, Wake, Never, At, Place, Waiting, State}
use Rattle.rules.specs.Tables.{with_task}
use Rattle.rules.specs.Lines.{to_tail}

-- "The wake tick is the tick count plus the wait, wrapped at 2^32"
abbrev pub later : ℕ → ℕ → ℕ
later now n = (now + n) % 2 ^ 32

-- "1 to 4,294,967,294 means that many ticks; 4,294,967,295 means for ever"; "a wait for ever has no wake tick"
abbrev pub wake_of : ℕ → ℕ → Wake
wake_of now w = if leb 4294967295 w then Never else At (later now w)

-- "Made ready means put at the tail of the line"; a list is "in order of arrival"; "A delay or wait sets it to 0 as it begins": the task t goes to the place p, with the outcome n, and stands last
unfoldable pub arrives : State → TaskSlot → Place → ℕ → State
arrives k t p n = to_tail (with_task k t (placed (task_at k.tasks t) p n)) t

-- "the caller waits" on an object, for its turn or for bits
unfoldable pub wait_for : State → ObjSlot → Want → ℕ → State
wait_for k o x w = arrives k k.running (Waiting (wait_on o x) (wake_of k.tick w)) 0
