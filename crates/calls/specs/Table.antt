-- The table of calls: "Call numbers 1 to 17, arguments in this order"; "call 18, advance: n ticks", "call 19, make recursive mutex".
-- Of event groups: "Calls, with arguments: 20 make; 21 set bits: object, bits; 22 clear bits: object, bits; 23 wait: object, mask, all, clear, wait".
use Rattle.std.specs.Prelude.{ℕ, List, [], ◌∷◌, get_or}
use Rattle.calls.specs.Types.{TaskNo, ObjNo, Call, Create, Delete, Suspend, Resume, SetPriority, Delay, Yield, Hold, Release}
use Rattle.calls.specs.Types.{MakeQueue, MakeMutex, Remove, Send, Receive, Take, Give, Tick, Advance, MakeRecursive, MakeGroup, SetBits, ClearBits, Await}
use Rattle.calls.specs.Named.{task_of, object_of}

-- an argument, and what it stands for; the bytes of an item are lent beside the call
pub data Argument : Type 0 where
  a_task : TaskNo → Argument
  an_object a_queue a_mutex a_group : ObjNo → Argument
  a_priority some_ticks a_capacity a_size a_wait : ℕ → Argument
  some_bits an_all a_clear : ℕ → Argument
  an_item : Argument

pub record Entry : Type 0 where
  pub number : ℕ
  pub arguments : List Argument

abbrev pub entry : ℕ → List Argument → Entry
entry n xs = record { number = n; arguments = xs }

-- No., and the call's arguments
abbrev pub called : Call → Entry
called (Create p) = entry 1 (a_priority p ∷ [])
called (Delete t) = entry 2 (a_task t ∷ [])
called (Suspend t) = entry 3 (a_task t ∷ [])
called (Resume t) = entry 4 (a_task t ∷ [])
called (SetPriority t p) = entry 5 (a_task t ∷ a_priority p ∷ [])
called (Delay n) = entry 6 (some_ticks n ∷ [])
called Yield = entry 7 []
called Hold = entry 8 []
called Release = entry 9 []
called (MakeQueue c s) = entry 10 (a_capacity c ∷ a_size s ∷ [])
called MakeMutex = entry 11 []
called (Remove o) = entry 12 (an_object o ∷ [])
called (Send o w) = entry 13 (a_queue o ∷ an_item ∷ a_wait w ∷ [])
called (Receive o w) = entry 14 (a_queue o ∷ a_wait w ∷ [])
called (Take o w) = entry 15 (a_mutex o ∷ a_wait w ∷ [])
called (Give o) = entry 16 (a_mutex o ∷ [])
called Tick = entry 17 []
called (Advance n) = entry 18 (some_ticks n ∷ [])
called MakeRecursive = entry 19 []
called MakeGroup = entry 20 []
called (SetBits o b) = entry 21 (a_group o ∷ some_bits b ∷ [])
called (ClearBits o b) = entry 22 (a_group o ∷ some_bits b ∷ [])
called (Await o m a c w) = entry 23 (a_group o ∷ some_bits m ∷ an_all a ∷ a_clear c ∷ a_wait w ∷ [])

-- a word of a call, and 0 past the last
abbrev pub word : List ℕ → ℕ → ℕ
word ws i = get_or ws i 0

-- The same table the other way: the calls 1, 2, .. made of their words. A match on calls cannot be turned round, so it is a list of its
-- own; `call_again` (proofs/CallAgain) says that the two are one table.
abbrev pub calls : List ℕ → List Call
calls ws =
    Create (word ws 0)
    ∷ Delete (task_of (word ws 0))
    ∷ Suspend (task_of (word ws 0))
    ∷ Resume (task_of (word ws 0))
    ∷ SetPriority (task_of (word ws 0)) (word ws 1)
    ∷ Delay (word ws 0)
    ∷ Yield
    ∷ Hold
    ∷ Release
    ∷ MakeQueue (word ws 0) (word ws 1)
    ∷ MakeMutex
    ∷ Remove (object_of (word ws 0))
    ∷ Send (object_of (word ws 0)) (word ws 1)
    ∷ Receive (object_of (word ws 0)) (word ws 1)
    ∷ Take (object_of (word ws 0)) (word ws 1)
    ∷ Give (object_of (word ws 0))
    ∷ Tick
    ∷ Advance (word ws 0)
    ∷ MakeRecursive
    ∷ MakeGroup
    ∷ SetBits (object_of (word ws 0)) (word ws 1)
    ∷ ClearBits (object_of (word ws 0)) (word ws 1)
    ∷ Await (object_of (word ws 0)) (word ws 1) (word ws 2) (word ws 3) (word ws 4)
    ∷ []

-- all rows, by number; no call has the number 0
abbrev pub entries : List ℕ → List Call
entries ws = Tick ∷ calls ws

unfoldable pub call_of : ℕ → List ℕ → Call
call_of n ws = get_or (entries ws) n Tick
