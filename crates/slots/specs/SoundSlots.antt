-- The sentences of soundness that speak of one slot, in document 01's order.
use Rattle.std.specs.Prelude.{ℕ, ◌*◌, Bool, true, false, not, ◌&&◌, ◌||◌, List, ◌==◌, nat_le, nat_lt, slice_index, slice_index_or}
use Rattle.numbers.specs.declared.TaskSlot.{TaskSlot}
use Rattle.slots.specs.Types.{Wake, Never, At, Want, OwnTurn, Bits, Place, Free, Ready, Delayed, Waiting, Suspended, Spent, Task, Ring, Holder, Nobody, By, Sort, Ordinary, Recursive, Kind, Unused, SpentObject, Queue, Mutex, Group, Object}
use Rattle.slots.specs.Places.{is_free, is_ready, is_blocked, is_listed, wakes_at}
use Rattle.slots.specs.Values.{task_at}
use Rattle.slots.specs.Wants.{all_bits, holds_of, accepted_mask}
use Rattle.slots.specs.Kinds.{kind_at, is_by, is_taken}

-- idle is "always there, always ready, priority 0"
abbrev pub idle_fine : Task → Bool
idle_fine x = is_ready x.place && (x.own == 0 && x.effective == 0)

-- "each ready task stands once"; "each object lists its waiters once": n is how often it stands in the order, which carries lines and lists
abbrev pub stands_fine : ℕ → Place → Bool
stands_fine n Free = true
stands_fine n Ready = n == 1
stands_fine n (Delayed w) = true
stands_fine n (Waiting x w) = n == 1
stands_fine n Suspended = true
stands_fine n Spent = true

-- "receivers wait only on an empty queue, senders only on a full one, takers only on a mutex held by another"
abbrev pub awaits_turn : TaskSlot → Kind → Bool
awaits_turn t Unused = false
awaits_turn t SpentObject = false
awaits_turn t (Queue q) = q.count == 0 || q.count == q.capacity
awaits_turn t (Mutex s h) = is_taken h && not (is_by t h)
awaits_turn t (Group b) = false

-- of an event group: "Waiters stand only where unsatisfied, with a mask and flags that the call accepts"
abbrev pub awaits_bits : ℕ → Bool → Kind → Bool
awaits_bits m all Unused = false
awaits_bits m all SpentObject = false
awaits_bits m all (Queue q) = false
awaits_bits m all (Mutex s h) = false
awaits_bits m all (Group b) = accepted_mask m && not (holds_of b m all)

abbrev pub may_wait : TaskSlot → Want → Kind → Bool
may_wait t OwnTurn x = awaits_turn t x
may_wait t (Bits m all clear) x = awaits_bits m all x

-- for its turn, by what is noted of each object: it is a queue that is empty or full, or a mutex that is taken, and by whom
abbrev pub may_wait_on : List Bool → List Bool → List ℕ → TaskSlot → ℕ → Bool
may_wait_on opens takes holder t n = slice_index_or opens n false || (slice_index_or takes n false && not (slice_index holder n == t.0))

abbrev pub waits_fine : TaskSlot → List Object → Place → Bool
waits_fine t os Free = true
waits_fine t os Ready = true
waits_fine t os (Delayed w) = true
waits_fine t os (Waiting x w) = may_wait t x.want (kind_at os x.object)
waits_fine t os Suspended = true
waits_fine t os Spent = true

-- "Priorities 0 to 31"
abbrev pub priorities_fine : Task → Bool
priorities_fine x = nat_le x.own 31

-- "holders exist"
abbrev pub holder_there : List Task → Holder → Bool
holder_there ts Nobody = true
holder_there ts (By t) = not (is_free (task_at ts t).place)

-- the same in two halves: a holder's number is a slot's, and a free slot holds nothing
abbrev pub holder_slot : Holder → Bool
holder_slot Nobody = true
holder_slot (By t) = nat_lt t.0 16

abbrev pub free_holds : Bool → Place → Bool
free_holds holds p = not (is_free p) || not holds

-- "no wake tick of a delayed or waiting task equals the tick count"
abbrev pub wake_in_range : Wake → Bool
wake_in_range Never = true
wake_in_range (At w) = nat_le w 4294967295

abbrev pub wakes_in_range : Place → Bool
wakes_in_range Free = true
wakes_in_range Ready = true
wakes_in_range (Delayed w) = nat_le w 4294967295
wakes_in_range (Waiting x w) = wake_in_range w
wakes_in_range Suspended = true
wakes_in_range Spent = true

abbrev pub not_due : ℕ → Place → Bool
not_due tick p = wakes_in_range p && not (wakes_at tick p)

-- "counts and places obey the ranges": "A queue has capacity 1 to 64 and item size 0 to 64 bytes, with capacity times size at most 512"
abbrev pub ring_fine : Ring → Bool
ring_fine q =
    (nat_le 1 q.capacity && nat_le q.capacity 64)
    && ((nat_le q.size 64 && nat_le (q.capacity * q.size) 512)
    && (nat_lt q.first q.capacity && nat_le q.count q.capacity))

-- the count of a held recursive mutex is 1 to 255; a free one has none
abbrev pub count_fine : Sort → Holder → Bool
count_fine Ordinary h = true
count_fine (Recursive n) Nobody = n == 0
count_fine (Recursive n) (By t) = nat_le 1 n && nat_le n 255

abbrev pub kind_in_range : Kind → Bool
kind_in_range Unused = true
kind_in_range SpentObject = true
kind_in_range (Queue q) = ring_fine q
kind_in_range (Mutex s h) = count_fine s h
kind_in_range (Group b) = nat_le b all_bits

-- "an outcome is 0 to 3, and 0 if delayed or waiting"
abbrev pub outcome_fine : Task → Bool
outcome_fine x = nat_le x.outcome 3 && (not (is_blocked x.place) || x.outcome == 0)

-- "free slots carry the fresh values"
abbrev pub fresh_if_free : Task → Bool
fresh_if_free x = not (is_free x.place) || (x.own == 0 && (x.effective == 0 && x.outcome == 0))

-- of the order "among delayed and waiting tasks together": "it has each of them once"
abbrev pub remembers_fine : ℕ → Place → Bool
remembers_fine n p = not (is_blocked p) || n == 1

-- what the one order asks beside those sentences: a suspended task and a free slot do not stand in it
abbrev pub orders_fine : ℕ → Place → Bool
orders_fine n p = is_listed p || n == 0
