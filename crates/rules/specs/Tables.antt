-- The fresh state, what its two tables say, and a state with one part changed.
use Rattle.std.specs.Prelude.{ℕ, Bool, List, [], ◌∷◌, set, replicate}
use Rattle.lists.specs.Lists.{index, any}
use Rattle.numbers.specs.Numbers.{idle}
use Rattle.calls.specs.Door.{fresh_uses}
use Rattle.order.specs.Order.{ordered}
use Rattle.slots.specs.Places.{takes_task}
use Rattle.slots.specs.Values.{free_task, ready_at}
use Rattle.slots.specs.Kinds.{unused, takes_object, held_by}
use Rattle.rules.specs.Types.{TaskSlot, ObjSlot, Order, Uses, Task, Kind, Object, State}

-- "The fresh kernel has idle alone, tick 0, hold 0, no objects."
unfoldable pub fresh : State
fresh = record { tasks = ready_at 0 ∷ replicate 15 free_task; objects = replicate 16 unused; order = ordered (idle ∷ []); running = idle; tick = 0; hold = 0; pended = 0; uses = fresh_uses }

-- the task holds a mutex
unfoldable pub holds : List Object → TaskSlot → Bool
holds os t = any (λ (x : Object). held_by t x.kind) os

-- the "lowest free slot", the "lowest free object", of those that are not spent; 16 where there is none
unfoldable pub free_slot : List Task → ℕ
free_slot ts = index (λ (x : Task). takes_task x.place) ts

unfoldable pub free_object : List Object → ℕ
free_object os = index (λ (x : Object). takes_object x.kind) os

-- a state with one part changed
abbrev pub with_task : State → TaskSlot → Task → State
with_task k t x = record { tasks = set k.tasks t.0 x; objects = k.objects; order = k.order; running = k.running; tick = k.tick; hold = k.hold; pended = k.pended; uses = k.uses }

abbrev pub with_object : State → ObjSlot → Kind → State
with_object k o x =
    let os = set k.objects o.0 (record { kind = x }) in
    record { tasks = k.tasks; objects = os; order = k.order; running = k.running; tick = k.tick; hold = k.hold; pended = k.pended; uses = k.uses }

abbrev pub with_order : State → Order → State
with_order k o = record { tasks = k.tasks; objects = k.objects; order = o; running = k.running; tick = k.tick; hold = k.hold; pended = k.pended; uses = k.uses }

abbrev pub with_running : State → TaskSlot → State
with_running k t = record { tasks = k.tasks; objects = k.objects; order = k.order; running = t; tick = k.tick; hold = k.hold; pended = k.pended; uses = k.uses }

abbrev pub with_tick : State → ℕ → State
with_tick k n = record { tasks = k.tasks; objects = k.objects; order = k.order; running = k.running; tick = n; hold = k.hold; pended = k.pended; uses = k.uses }

abbrev pub with_hold : State → ℕ → ℕ → State
with_hold k h p = record { tasks = k.tasks; objects = k.objects; order = k.order; running = k.running; tick = k.tick; hold = h; pended = p; uses = k.uses }

abbrev pub with_uses : State → Uses → State
with_uses k us = record { tasks = k.tasks; objects = k.objects; order = k.order; running = k.running; tick = k.tick; hold = k.hold; pended = k.pended; uses = us }
