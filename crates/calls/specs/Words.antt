-- A call in words: its number, what it names, and the numbers among its arguments, of which no call has more than five. All of it is read
-- off the table.
use Rattle.std.specs.Prelude.{ℕ, ◌-◌, ◌≤◌, Bool, true, false, List, [], ◌∷◌, map, length, get_or, eqb, if◌then◌else◌}
use Rattle.std.proofs.lemmas.List.Edits.{sets}
use Rattle.lists.specs.Lists.{any, index}
use Rattle.calls.specs.Types.{Call, Uses, Names, Nothing, ATask, AnObject, AQueue, AMutex, AGroup, Shape, Frame, Asked}
use Rattle.calls.specs.Table.{Argument, a_task, an_object, a_queue, a_mutex, a_group, a_priority, some_ticks, a_capacity, a_size, a_wait, some_bits, an_all, a_clear, an_item, called, word, calls}
use Rattle.calls.specs.Named.{task_of, object_of}
use Rattle.calls.specs.Door.{last_in, task_slot, obj_slot}
use Rattle.calls.specs.Behind.{names_of, nothing, on_task, on_object, on_group}
use Rattle.calls.specs.Shapes.{shaped, unknown}

-- what stands for an argument: a number, or the item's bytes
pub data Field : Type 0 where
  a_number : ℕ → Field
  bytes : Field

-- a task and an object are written by their numbers
abbrev pub field_of : Argument → Field
field_of (a_task t) = a_number t.0
field_of (an_object o) = a_number o.0
field_of (a_queue o) = a_number o.0
field_of (a_mutex o) = a_number o.0
field_of (a_group o) = a_number o.0
field_of (a_priority p) = a_number p
field_of (some_ticks n) = a_number n
field_of (a_capacity c) = a_number c
field_of (a_size s) = a_number s
field_of (a_wait w) = a_number w
field_of (some_bits b) = a_number b
field_of (an_all e) = a_number e
field_of (a_clear e) = a_number e
field_of an_item = bytes

-- "arguments in this order"
abbrev pub fields_of : Call → List Field
fields_of c = map field_of (called c).arguments

abbrev pub is_bytes : Field → Bool
is_bytes (a_number n) = false
is_bytes bytes = true

-- the numbers among the fields
abbrev pub numbers_in : List Field → List ℕ
numbers_in [] = []
numbers_in (a_number n ∷ xs) = n ∷ numbers_in xs
numbers_in (bytes ∷ xs) = numbers_in xs

-- "each at most 4,294,967,295"
abbrev pub Small : List ℕ → Type 0
Small [] = Unit {0}
Small (n ∷ ns) = (n ≤ 4294967295) × Small ns

-- ---- the words of a call

abbrev pub no_words : List ℕ
no_words = 0 ∷ 0 ∷ 0 ∷ 0 ∷ 0 ∷ []

abbrev pub framed : ℕ → Names → List ℕ → Frame
framed n m ws = record { number = n; names = m; words = ws }

-- the numbers, and zeros after them
abbrev pub frame_of : Call → Frame
frame_of c = framed (called c).number (names_of c) (sets no_words 0 (numbers_in (fields_of c)))

-- ---- how they stand

abbrev pub numbers_only : ℕ → Shape
numbers_only n = shaped true n false 0

-- how many numbers stand before the item, and how many after it
abbrev pub shape_in : List Field → Shape
shape_in fs = shaped true (index is_bytes fs) (any is_bytes fs) (length (numbers_in fs) - index is_bytes fs)

-- by number
abbrev pub shapes : List Shape
shapes = unknown ∷ map (λ c. shape_in (fields_of c)) (calls no_words)

unfoldable pub shape_of : ℕ → Shape
shape_of n = get_or shapes n unknown

-- ---- behind the door

-- a call that names nothing, of its first two words
abbrev pub unnamed : ℕ → ℕ → ℕ → Asked
unnamed n a b =
    if eqb n 1 then nothing 1 a 0 1 0
    else if eqb n 6 then nothing 6 0 a 1 0
    else if eqb n 18 then nothing 18 0 a 1 0
    else if eqb n 10 then nothing 10 0 0 a b
    else nothing n 0 0 1 0

-- what a word is follows from what the call names
abbrev pub asked_by : Uses → Names → ℕ → List ℕ → Asked
asked_by us Nothing n ws = unnamed n (word ws 0) (word ws 1)
asked_by us ATask n ws = let t = task_slot us (task_of (word ws 0)) in on_task n t (last_in us.tasks t.0) (word ws 1)
asked_by us AnObject n ws = let o = obj_slot us (object_of (word ws 0)) in on_object n AnObject o (last_in us.objects o.0) (word ws 1)
asked_by us AQueue n ws = let o = obj_slot us (object_of (word ws 0)) in on_object n AQueue o (last_in us.objects o.0) (word ws 1)
asked_by us AMutex n ws = let o = obj_slot us (object_of (word ws 0)) in on_object n AMutex o (last_in us.objects o.0) (word ws 1)
asked_by us AGroup n ws =
    let o = obj_slot us (object_of (word ws 0)) in on_group n o (last_in us.objects o.0) (word ws 1) (word ws 2) (word ws 3) (word ws 4)
