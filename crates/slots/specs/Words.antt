-- The rules' words for what may be none.
use Rattle.std.specs.Prelude.{ℕ, Option}
use Rattle.numbers.specs.declared.TaskSlot.{TaskSlot}

-- when a wait ends by itself: never, or at a tick count
abbrev pub Wake : Type 0
Wake = Option ℕ

-- who holds a mutex: nobody, or a task
abbrev pub Holder : Type 0
Holder = Option TaskSlot
