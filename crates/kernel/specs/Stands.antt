-- Which kernel value stands for a state, and which state a kernel value stands for.
use Rattle.std.specs.Prelude.{Bool, ◌&&◌, [], if◌then◌else◌}
use Rattle.tasks.specs.Columns.{tasks_of, rows_of as task_rows}
use Rattle.tasks.specs.Known.{canonical as plain_tasks}
use Rattle.objects.specs.Columns.{objects_of, rows_of as object_rows, canonical as plain_objects}
use Rattle.rules.specs.State.{State, Outlet as WhereTo, to_waiter, to_queue, to_caller}
use Rattle.calls.specs.Door.{fresh_uses}
use Rattle.rules.specs.Sound.{sound}
use Rattle.kernel.specs.Types.{Core, Kernel, Uses, Outlet, Waiter, InRing, Caller}

-- the value that stands for a state, but for its uses
unfoldable pub core_of : State → Core
core_of s = record { tasks = tasks_of s.tasks; objects = objects_of s.objects; order = s.order; running = s.running; tick = s.tick; hold = s.hold; pended = s.pended }

-- the kernel value that stands for a state
abbrev pub kernel_of : State → Kernel
kernel_of s = record { core = core_of s; uses = s.uses }

-- "a number that a state does not use is 0"
unfoldable pub plain : Core → Bool
plain k = plain_tasks k.tasks && plain_objects k.objects

-- what its tables read as
abbrev pub as_rows : Core → Uses → State
as_rows k us = record { tasks = task_rows k.tasks; objects = object_rows k.objects; order = k.order; running = k.running; tick = k.tick; hold = k.hold; pended = k.pended; uses = us }

-- no tables at all, which no sound state has
abbrev pub without_tables : Core → Uses → State
without_tables k us = record { tasks = []; objects = []; order = k.order; running = k.running; tick = k.tick; hold = k.hold; pended = k.pended; uses = us }

-- the state that a value stands for. Where an unused number is not 0, it stands for none, and what is shown is not sound
unfoldable pub shown_with : Core → Uses → State
shown_with k us = if plain k then as_rows k us else without_tables k us

abbrev pub shown : Kernel → State
shown k = shown_with k.core k.uses

-- the same with fresh uses, which no rule behind the door looks at
abbrev pub shown_core : Core → State
shown_core k = shown_with k fresh_uses

-- the kernel value afterwards: that of the state s, where the one that came is sound; else the one that came
abbrev pub standing : Kernel → State → Kernel
standing k s = if sound (shown k) then kernel_of s else k

-- the rules' word for where an item goes
abbrev pub outlet_of : Outlet → WhereTo
outlet_of (Waiter t) = to_waiter t
outlet_of InRing = to_queue
outlet_of Caller = to_caller
