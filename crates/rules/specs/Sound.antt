-- "A kernel value is sound when": a test for each sentence, in seven parts. Each part takes the fields that it speaks of, and has its sentences in document 01's order.
-- (Sentences.antt has the same as propositions.)
use Rattle.std.specs.Prelude.{ℕ, Bool, false, not, ◌&&◌, ◌||◌, List, [], ◌∷◌, eqb, ltb, leb, length, get_or}
use Rattle.lists.specs.Lists.{every, all_below, kept, is_none}
use Rattle.numbers.specs.Numbers.{task, object, idle, same_task}
use Rattle.calls.specs.Door.{uses_fine}
use Rattle.order.specs.Order.{listed}
use Rattle.order.specs.Tidy.{count, tidy}
use Rattle.slots.specs.Places.{is_ready}
use Rattle.slots.specs.Values.{in_higher, task_at}
use Rattle.slots.specs.Kinds.{hands, kind_at}
use Rattle.slots.specs.SoundSlots.{idle_fine, stands_fine, remembers_fine, orders_fine, waits_fine, priorities_fine, holder_there, not_due, kind_in_range, outcome_fine, fresh_if_free}
use Rattle.rules.specs.Types.{TaskSlot, Order, Task, Object, Kind, State}
use Rattle.rules.specs.Tables.{holds}
use Rattle.rules.specs.Lines.{line, level}
use Rattle.rules.specs.Loans.{ruled}
use Rattle.rules.specs.Circles.{no_circle}

-- the task and the object of a slot
abbrev pub slot_task : List Task → ℕ → Task
slot_task ts n = task_at ts (task n)

abbrev pub slot_kind : List Object → ℕ → Kind
slot_kind os n = kind_at os (object n)

-- ── the tables: the tasks and the objects with each other
-- "16 task slots, 0 to 15"; "16 object slots, 0 to 15"
abbrev pub sixteen : List Task → List Object → Bool
sixteen ts os = eqb (length ts) 16 && eqb (length os) 16

-- "receivers wait only on an empty queue, senders only on a full one, takers only on a mutex held by another"
abbrev pub waiters_fine : List Task → List Object → Bool
waiters_fine ts os = all_below 16 (λ n. waits_fine (task n) os (slot_task ts n).place)

-- "holders exist"
abbrev pub holders_there : List Task → List Object → Bool
holders_there ts os = all_below 16 (λ n. holder_there ts (hands (slot_kind os n)))

-- "counts and places obey the ranges": those of the queues; and the counts of the recursive mutexes
abbrev pub kinds_in_range : List Object → Bool
kinds_in_range os = all_below 16 (λ n. kind_in_range (slot_kind os n))

-- "an outcome is 0 to 3, and 0 if delayed or waiting"
abbrev pub outcomes_fine : List Task → Bool
outcomes_fine ts = all_below 16 (λ n. outcome_fine (slot_task ts n))

-- "free slots carry the fresh values"; that "a number that a state does not use is 0" is asked of a kernel value before it stands for a state, of the order by tidy, and of the
-- count of a free recursive mutex by its range
abbrev pub fresh_slots : List Task → Bool
fresh_slots ts = all_below 16 (λ n. fresh_if_free (slot_task ts n))

-- with "idle is as above" and "idle never waits or holds": it is ready, so it does not wait
unfoldable pub tables_fine : List Task → List Object → Bool
tables_fine ts os =
    every (
    sixteen ts os ∷ idle_fine (slot_task ts 0) ∷ waiters_fine ts os ∷ not (holds os idle) ∷ holders_there ts os ∷ kinds_in_range os
    ∷ outcomes_fine ts ∷ fresh_slots ts ∷ [])

-- ── the priorities: "Priorities 0 to 31"; effective is what the rule says
unfoldable pub levels_fine : List Task → List Object → Bool
levels_fine ts os = let ls = ruled ts os in all_below 16 (λ n. priorities_fine (slot_task ts n) && eqb (slot_task ts n).effective (get_or ls n 0))

-- ── the listing: the order and the tasks
-- "each ready task stands once in the line of its effective priority and nobody else stands in a line"; "each object lists its waiters once, in order of arrival, and no one else"
abbrev pub each_stands : List Task → List TaskSlot → Bool
each_stands ts l = all_below 16 (λ n. stands_fine (count n l) (slot_task ts n).place)

-- of the order in which the delayed and the waiting began: "In a sound kernel it has each of them once and no one else, and agrees with each object's list."
-- It is the one order passed through a test, as each list is, so that it has no one else and agrees with the lists without being asked.
abbrev pub each_remembered : List Task → List TaskSlot → Bool
each_remembered ts l = all_below 16 (λ n. remembers_fine (count n l) (slot_task ts n).place)

-- no sentence of the documents, but our kernel value's own: in the one order stands no suspended task and no free slot
abbrev pub none_else : List Task → List TaskSlot → Bool
none_else ts l = all_below 16 (λ n. orders_fine (count n l) (slot_task ts n).place)

-- with 16 places of the order, and "counts and places obey the ranges": those of the order
unfoldable pub listing_fine : List Task → Order → Bool
listing_fine ts o = every (eqb (length o.places) 16 ∷ each_stands ts (listed o) ∷ each_remembered ts (listed o) ∷ tidy o ∷ none_else ts (listed o) ∷ [])

-- ── the clock: tick, hold and pended, and the wake ticks
-- "no wake tick of a delayed or waiting task equals the tick count"
abbrev pub nobody_due : List Task → ℕ → Bool
nobody_due ts tick = all_below 16 (λ n. not_due tick (slot_task ts n).place)

-- "Hold depth 0 to 255. Pended ticks 0 to 65,535. Tick count 0 to 4,294,967,295"
abbrev pub counted : ℕ → ℕ → ℕ → Bool
counted tick hold pended = leb tick 4294967295 && (leb hold 255 && leb pended 65535)

-- "with hold 0 nothing is pended"
abbrev pub pends_fine : ℕ → ℕ → Bool
pends_fine hold pended = ltb 0 hold || eqb pended 0

unfoldable pub clock_fine : List Task → ℕ → ℕ → ℕ → Bool
clock_fine ts tick hold pended = every (nobody_due ts tick ∷ counted tick hold pended ∷ pends_fine hold pended ∷ [])

-- ── who runs
-- "the running task heads its line"
abbrev pub heads : List TaskSlot → TaskSlot → Bool
heads [] r = false
heads (t ∷ l) r = same_task t r

-- "and with hold 0 no higher line is occupied"
unfoldable pub no_higher : List Task → ℕ → List TaskSlot → Bool
no_higher ts p l = is_none (kept (λ t. in_higher p (task_at ts t)) l)

unfoldable pub runs_fine : List Task → List TaskSlot → TaskSlot → ℕ → Bool
runs_fine ts l r hold =
    is_ready (task_at ts r).place && (heads (line ts (level ts r) l) r && (ltb 0 hold || no_higher ts (level ts r) l))

-- ── the uses: `uses_fine` in calls/specs/Door
-- ── the circles: `no_circle` in Circles.antt
-- ── every part
unfoldable pub sound : State → Bool
sound k =
    every (
    tables_fine k.tasks k.objects
    ∷ levels_fine k.tasks k.objects
    ∷ listing_fine k.tasks k.order
    ∷ clock_fine k.tasks k.tick k.hold k.pended
    ∷ runs_fine k.tasks (listed k.order) k.running k.hold
    ∷ uses_fine k.uses
    ∷ no_circle k.tasks k.objects
    ∷ [])
