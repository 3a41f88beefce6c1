-- The two kinds of number that callers write and read. "Both kinds of number begin at 0, so a task number must never be usable where an object number is meant."
use Rattle.std.specs.Prelude.{ℕ}
use Rattle.calls.specs.Types.{TaskNo, ObjNo}

abbrev pub task_of : ℕ → TaskNo
task_of n = record { 0 = n }

abbrev pub object_of : ℕ → ObjNo
object_of n = record { 0 = n }
