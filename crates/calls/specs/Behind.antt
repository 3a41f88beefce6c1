-- A call behind the door: a row of the table with each argument in a field of its own, and slots for numbers. What a call does not have stands at a value that no rule turns away.
use Rattle.std.specs.Prelude.{ℕ, Bool, false, List, [], ◌∷◌}
use Rattle.numbers.specs.declared.TaskSlot.{TaskSlot}
use Rattle.numbers.specs.declared.ObjSlot.{ObjSlot}
use Rattle.calls.specs.Types.{ObjNo, Call, Uses, Names, Nothing, ATask, AnObject, AQueue, AMutex, AGroup, Asked}
use Rattle.calls.specs.Door.{no_task, no_object, last_in, task_slot, obj_slot, fresh_uses}
use Rattle.calls.specs.Table.{Argument, a_task, an_object, a_queue, a_mutex, a_group, a_priority, some_ticks, a_capacity, a_size, a_wait, some_bits, an_all, a_clear, an_item, called}

abbrev pub asks : ℕ → Names → TaskSlot → ObjSlot → Bool → ℕ → ℕ → ℕ → ℕ → ℕ → ℕ → ℕ → ℕ → Asked
asks n m t o l p d c s w b e f =
    record { number = n; names = m; task = t; object = o; last = l; priority = p; ticks = d; capacity = c; size = s; wait = w; bits = b; all = e; clear = f }

-- a call that names nothing, one that names a task, one that names an object
abbrev pub nothing : ℕ → ℕ → ℕ → ℕ → ℕ → Asked
nothing n p d c s = asks n Nothing no_task no_object false p d c s 0 0 0 0

abbrev pub on_task : ℕ → TaskSlot → Bool → ℕ → Asked
on_task n t l p = asks n ATask t no_object l p 0 1 0 0 0 0 0

abbrev pub on_object : ℕ → Names → ObjSlot → Bool → ℕ → Asked
on_object n m o l w = asks n m no_task o l 0 0 1 0 w 0 0 0

-- one that names an event group: the bits or the mask, all, clear, wait
abbrev pub on_group : ℕ → ObjSlot → Bool → ℕ → ℕ → ℕ → ℕ → Asked
on_group n o l b a c w = asks n AGroup no_task o l 0 0 1 0 w b a c

-- an object put into its fields, named as this
abbrev pub naming : Uses → Asked → Names → ObjNo → Asked
naming us a m o =
    asks a.number m a.task (obj_slot us o) (last_in us.objects (obj_slot us o).0) a.priority a.ticks a.capacity a.size a.wait a.bits a.all a.clear

-- an argument put into its field
abbrev pub put_in : Uses → Asked → Argument → Asked
put_in us a (a_task t) =
    asks a.number ATask (task_slot us t) a.object (last_in us.tasks (task_slot us t).0) a.priority a.ticks a.capacity a.size a.wait a.bits a.all a.clear
put_in us a (an_object o) = naming us a AnObject o
put_in us a (a_queue o) = naming us a AQueue o
put_in us a (a_mutex o) = naming us a AMutex o
put_in us a (a_group o) = naming us a AGroup o
put_in us a (a_priority p) = asks a.number a.names a.task a.object a.last p a.ticks a.capacity a.size a.wait a.bits a.all a.clear
put_in us a (some_ticks n) = asks a.number a.names a.task a.object a.last a.priority n a.capacity a.size a.wait a.bits a.all a.clear
put_in us a (a_capacity c) = asks a.number a.names a.task a.object a.last a.priority a.ticks c a.size a.wait a.bits a.all a.clear
put_in us a (a_size s) = asks a.number a.names a.task a.object a.last a.priority a.ticks a.capacity s a.wait a.bits a.all a.clear
put_in us a (a_wait w) = asks a.number a.names a.task a.object a.last a.priority a.ticks a.capacity a.size w a.bits a.all a.clear
put_in us a (some_bits b) = asks a.number a.names a.task a.object a.last a.priority a.ticks a.capacity a.size a.wait b a.all a.clear
put_in us a (an_all e) = asks a.number a.names a.task a.object a.last a.priority a.ticks a.capacity a.size a.wait a.bits e a.clear
put_in us a (a_clear e) = asks a.number a.names a.task a.object a.last a.priority a.ticks a.capacity a.size a.wait a.bits a.all e
put_in us a an_item = a

abbrev pub put_all : Uses → Asked → List Argument → Asked
put_all us a [] = a
put_all us a (x ∷ xs) = put_all us (put_in us a x) xs

-- the call's row, field by field, where the slots have these uses
unfoldable pub asked : Uses → Call → Asked
asked us c = put_all us (nothing (called c).number 0 0 1 0) (called c).arguments

-- what a call names, whatever the uses
abbrev pub names_of : Call → Names
names_of c = (asked fresh_uses c).names
