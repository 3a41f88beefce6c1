-- A queue's numbers, when an item comes or goes.
use Rattle.std.specs.Prelude.{◌+◌, ◌-◌, ◌%◌, ltb, if◌then◌else◌}
use Rattle.rules.specs.Types.{Ring, Outlet, to_queue, to_caller}

-- an item "is appended"; the oldest is taken and "first moves on one place"
abbrev pub one_more : Ring → Ring
one_more q = record { capacity = q.capacity; size = q.size; first = q.first; count = q.count + 1 }

abbrev pub one_less : Ring → Ring
one_less q = record { capacity = q.capacity; size = q.size; first = (q.first + 1) % q.capacity; count = q.count - 1 }

-- "Else, if there is room, the item is appended. Else the item goes to the caller's slip and the caller waits."
abbrev pub room_or : Ring → Outlet
room_or q = if ltb q.count q.capacity then to_queue else to_caller
