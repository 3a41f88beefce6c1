-- "What is turned away": the table, a row for each number, in its order. "Of the numbers that apply, the one that stands first in this table is given, and none otherwise."
use Rattle.std.specs.Prelude.{ℕ, ◌*◌, Bool, false, not, ◌&&◌, ◌||◌, List, [], ◌∷◌, eqb, ltb, leb, if◌then◌else◌, Option, None, Some}
use Rattle.numbers.specs.declared.TaskSlot.{TaskSlot}
use Rattle.numbers.specs.Numbers.{same_task, is_idle}
use Rattle.calls.specs.declared.refusals.Refusal.{Refusal}
use Rattle.calls.specs.Refusals.{number_of}
use Rattle.slots.specs.Places.{is_free, is_suspended}
use Rattle.slots.specs.Wants.{all_bits, holds_of}
use Rattle.slots.specs.Kinds.{count_in, is_unused, is_queue, is_mutex, is_group, held_by, recursive_by, is_held}
use Rattle.rows.specs.Types.{Names, Nothing, ATask, AnObject, AQueue, AMutex, AGroup, Asked, Kind, Unused, SpentObject, Queue, Mutex, Group, Seen}
use Rattle.rows.specs.Asking.{is, stops, waits}

-- of an advance: "n ticks, 1 to 65,535"
abbrev pub not_so_many : Asked → Bool
not_so_many a = is 18 a && (ltb a.ticks 1 || ltb 65535 a.ticks)

-- of event groups: "bits above the 24, a flag above 1 or an empty wait mask"; only set, clear and wait, calls 21 to 23, have bits and flags
abbrev pub no_such_bits : Asked → Bool
no_such_bits a = leb 21 a.number && (ltb all_bits a.bits || (ltb 1 a.all || (ltb 1 a.clear || (is 23 a && eqb a.bits 0))))

-- 4: "priority, capacity, size or product out of range; delay of 4,294,967,295"; "4 for n out of range"; "4 for bits above the 24, a flag above 1 or an empty wait mask"
unfoldable pub out_of_range : Asked → Bool
out_of_range a =
    ltb 31 a.priority
    || (leb 4294967295 a.ticks
    || (not_so_many a
    || (ltb a.capacity 1
    || (ltb 64 a.capacity
    || (ltb 64 a.size
    || (ltb 512 (a.capacity * a.size)
    || no_such_bits a))))))

-- 5: "task or object number names none, or an object of the wrong kind"
abbrev pub names_none_as : Seen → Names → Bool
names_none_as s Nothing = false
names_none_as s ATask = is_free s.place
names_none_as s AnObject = is_unused s.kind
names_none_as s AQueue = not (is_queue s.kind)
names_none_as s AMutex = not (is_mutex s.kind)
names_none_as s AGroup = not (is_group s.kind)

unfoldable pub names_none : Seen → Asked → Bool
names_none s a = names_none_as s a.names

-- 6: "the item's length is not the queue's item size"
abbrev pub size_differs : ℕ → Kind → Bool
size_differs n Unused = false
size_differs n SpentObject = false
size_differs n (Queue q) = not (eqb n q.size)
size_differs n (Mutex s h) = false
size_differs n (Group b) = false

unfoldable pub wrong_size : Seen → Asked → ℕ → Bool
wrong_size s a n = is 13 a && size_differs n s.kind

-- 7: "delete or suspend of idle; idle set to a priority other than 0; delay, take, or any wait other than 0 by idle"
unfoldable pub not_for_idle : Seen → Asked → Bool
not_for_idle s a =
    (stops a && is_idle a.task)
    || ((is 5 a && (is_idle a.task && not (eqb a.priority 0)))
    || ((is 6 a || (is 15 a || waits a)) && is_idle s.running))

-- 8: "with a hold: delay, yield, any wait other than 0, delete or suspend of the caller"; of an advance "8 with a hold"
unfoldable pub not_with_hold : Seen → Asked → Bool
not_with_hold s a =
    ltb 0 s.hold && (is 6 a || (is 7 a || (is 18 a || (waits a || (stops a && same_task a.task s.running)))))

-- 9: "create or make with no free slot"
unfoldable pub none_free : Seen → Bool
none_free s = eqb s.new 16

-- 11: "give of a mutex that the caller does not hold"
unfoldable pub not_his : Seen → Asked → Bool
not_his s a = is 16 a && not (held_by s.running s.kind)

-- 12: "take by the holder"; "Ordinary mutexes keep refusal 12"
unfoldable pub his_already : Seen → Asked → Bool
his_already s a = is 15 a && (held_by s.running s.kind && not (recursive_by s.running s.kind))

-- 18: "count full": a take by the holder of a recursive mutex, who has it 255 times
abbrev pub takes_full : TaskSlot → Kind → Bool
takes_full t x = recursive_by t x && eqb (count_in x) 255

unfoldable pub count_full : Seen → Asked → Bool
count_full s a = is 15 a && takes_full s.running s.kind

-- 13: "resume of a task not suspended"
unfoldable pub not_suspended : Seen → Asked → Bool
not_suspended s a = is 4 a && not (is_suspended s.place)

-- 14: "wait 0 where the caller would have to wait": a send finds the queue full, a receive finds it empty, a take finds the mutex held, and not by the caller who may take it again,
-- a wait finds an event group's bits not as it asks
abbrev pub is_full : Kind → Bool
is_full Unused = false
is_full SpentObject = false
is_full (Queue q) = eqb q.count q.capacity
is_full (Mutex s h) = false
is_full (Group b) = false

abbrev pub is_empty : Kind → Bool
is_empty Unused = false
is_empty SpentObject = false
is_empty (Queue q) = eqb q.count 0
is_empty (Mutex s h) = false
is_empty (Group b) = false

-- "14 with wait 0 unsatisfied": the bits are not those that a wait asks for
abbrev pub is_unmet : Asked → Kind → Bool
is_unmet a Unused = false
is_unmet a SpentObject = false
is_unmet a (Queue q) = false
is_unmet a (Mutex s h) = false
is_unmet a (Group b) = not (holds_of b a.bits (eqb a.all 1))

abbrev pub stops_at : Asked → TaskSlot → Kind → Bool
stops_at a t x = (is 13 a && is_full x) || ((is 14 a && is_empty x) || ((is 15 a && (is_held x && not (recursive_by t x))) || (is 23 a && is_unmet a x)))

unfoldable pub must_wait : Seen → Asked → Bool
must_wait s a = not (waits a) && stops_at a s.running s.kind

-- 15: "hold at depth 255; release at depth 0"
unfoldable pub no_depth : Seen → Asked → Bool
no_depth s a = (is 8 a && eqb s.hold 255) || (is 9 a && eqb s.hold 0)

-- 16: "tick with a hold and 65,535 pended"
unfoldable pub no_tick : Seen → Asked → Bool
no_tick s a = is 17 a && (ltb 0 s.hold && eqb s.pended 65535)

pub record Row : Type 0 where
  pub number : ℕ
  pub applies : Bool

abbrev pub row : ℕ → Bool → Row
row n b = record { number = n; applies = b }

-- the number of the first row that applies; 0 where none does
abbrev pub first_row : List Row → ℕ
first_row [] = 0
first_row (r ∷ rs) = if r.applies then r.number else first_row rs

-- a refusal's number; 0 where there is none
abbrev pub number_or_0 : Option Refusal → ℕ
number_or_0 None = 0
number_or_0 (Some r) = number_of r

-- "No. | Given exactly when", for a sound kernel; the lengths are the item's and the store's. (3 is the line reader's.)
unfoldable pub table : Seen → Asked → ℕ → ℕ → List Row
table s a item store =
    row 2 (not (eqb store 9216))
    ∷ row 4 (out_of_range a)
    ∷ row 5 (names_none s a)
    ∷ row 6 (wrong_size s a item)
    ∷ row 7 (not_for_idle s a)
    ∷ row 8 (not_with_hold s a)
    ∷ row 9 (none_free s)
    ∷ row 10 s.used
    ∷ row 11 (not_his s a)
    ∷ row 12 (his_already s a)
    ∷ row 18 (count_full s a)
    ∷ row 13 (not_suspended s a)
    ∷ row 17 s.circle
    ∷ row 14 (must_wait s a)
    ∷ row 15 (no_depth s a)
    ∷ row 16 (no_tick s a)
    ∷ []
