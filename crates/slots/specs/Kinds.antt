-- "16 object slots, each free, a queue or a mutex"; a mutex is ordinary or recursive; "FreeRTOS event groups as a third kind of object"
use Rattle.std.specs.Prelude.{ℕ, Bool, true, false, ◌&&◌, List, replicate, slice_index_or, slice_set}
use Rattle.lists.specs.Lists.{foldl}
use Rattle.numbers.specs.declared.TaskSlot.{TaskSlot}
use Rattle.numbers.specs.declared.ObjSlot.{ObjSlot}
use Rattle.numbers.specs.Numbers.{task, same_task}
use Rattle.slots.specs.Types.{Holder, Nobody, By, Sort, Ordinary, Recursive, Kind, Unused, SpentObject, Queue, Mutex, Group, Object}

-- a free slot
abbrev pub unused : Object
unused = record { kind = Unused }

-- "16 object slots, 0 to 15": a number past them names a free slot
unfoldable pub kind_at : List Object → ObjSlot → Kind
kind_at os o = (slice_index_or os o.0 unused).kind

-- "Its holder may take it again, up to 255 times in all": how often its holder has it; an ordinary mutex has no count
abbrev pub count_of : Sort → ℕ
count_of Ordinary = 0
count_of (Recursive n) = n

-- of the same sort, its count n, if it has one
abbrev pub counting : Sort → ℕ → Sort
counting Ordinary n = Ordinary
counting (Recursive m) n = Recursive n

abbrev pub is_recursive : Sort → Bool
is_recursive Ordinary = false
is_recursive (Recursive n) = true

abbrev pub is_unused : Kind → Bool
is_unused Unused = true
is_unused SpentObject = true
is_unused (Queue q) = false
is_unused (Mutex s h) = false
is_unused (Group b) = false

-- a make may take it: nothing stands in it, and it is not spent
abbrev pub takes_object : Kind → Bool
takes_object Unused = true
takes_object SpentObject = false
takes_object (Queue q) = false
takes_object (Mutex s h) = false
takes_object (Group b) = false

abbrev pub is_queue : Kind → Bool
is_queue Unused = false
is_queue SpentObject = false
is_queue (Queue q) = true
is_queue (Mutex s h) = false
is_queue (Group b) = false

abbrev pub is_mutex : Kind → Bool
is_mutex Unused = false
is_mutex SpentObject = false
is_mutex (Queue q) = false
is_mutex (Mutex s h) = true
is_mutex (Group b) = false

abbrev pub is_group : Kind → Bool
is_group Unused = false
is_group SpentObject = false
is_group (Queue q) = false
is_group (Mutex s h) = false
is_group (Group b) = true

abbrev pub is_by : TaskSlot → Holder → Bool
is_by t Nobody = false
is_by t (By u) = same_task u t

abbrev pub is_taken : Holder → Bool
is_taken Nobody = false
is_taken (By u) = true

-- in whose hands it is, of whatever sort; nobody's, if it is no mutex
abbrev pub hands : Kind → Holder
hands Unused = Nobody
hands SpentObject = Nobody
hands (Queue q) = Nobody
hands (Mutex s h) = h
hands (Group b) = Nobody

-- a mutex that t holds; one that someone holds
abbrev pub held_by : TaskSlot → Kind → Bool
held_by t x = is_by t (hands x)

abbrev pub is_held : Kind → Bool
is_held x = is_taken (hands x)

-- of which sort it is; ordinary, if it is no mutex, so that it has no count
abbrev pub sort_of : Kind → Sort
sort_of Unused = Ordinary
sort_of SpentObject = Ordinary
sort_of (Queue q) = Ordinary
sort_of (Mutex s h) = s
sort_of (Group b) = Ordinary

abbrev pub count_in : Kind → ℕ
count_in x = count_of (sort_of x)

-- a recursive one that t holds, and so may take again
abbrev pub recursive_by : TaskSlot → Kind → Bool
recursive_by t x = is_recursive (sort_of x) && held_by t x

-- the task that holds it; a number past the table where nobody does
abbrev pub by_whom : Holder → TaskSlot
by_whom Nobody = task 16
by_whom (By t) = t

abbrev pub holder_of : Kind → TaskSlot
holder_of x = by_whom (hands x)

-- what the code notes in one pass: for each slot, whether its task holds a mutex
abbrev pub mark : List Bool → Object → List Bool
mark c x = slice_set c (holder_of x.kind).0 true

unfoldable pub marks_of : List Object → List Bool
marks_of os = foldl mark (replicate 16 false) os
