-- "No. | Call | Effect": what each accepted call does to the kernel, before the effective priorities are worked out and before choose.
use Rattle.std.specs.Prelude.{ℕ, ◌+◌, ◌-◌, Bool, List, [], ◌∷◌, eqb, ltb, if◌then◌else◌}
use Rattle.numbers.specs.Numbers.{task, object, same_task}
use Rattle.slots.specs.Places.{is_listed}
use Rattle.slots.specs.Values.{free_task, spent_task, ready_at, broken_off, task_at}
use Rattle.rules.specs.Types.{TaskSlot, ObjSlot, OwnTurn, Ready, Delayed, Nobody, By, Sort, Ordinary, Recursive, Kind, Unused, SpentObject, Queue, Mutex, Group, waiters_of, Asked, State}
use Rattle.slots.specs.Kinds.{count_of, counting, kind_at}
use Rattle.rules.specs.Tables.{free_slot, free_object, with_task, with_object}
use Rattle.rows.specs.Asking.{is}
use Rattle.rules.specs.Lines.{first, to_tail, leaves}
use Rattle.rules.specs.Waits.{later, arrives, wait_for}
use Rattle.rules.specs.Loans.{new_priority}
use Rattle.rules.specs.Ticks.{ticked, held, released, advanced}
use Rattle.rules.specs.Queues.{sent_to, received_from}
use Rattle.rules.specs.Events.{group_made, set_on, cleared_on, want_by, awaited_on}

-- 1: "lowest free slot; ready"
unfoldable pub created : State → ℕ → State
created k p = to_tail (with_task k (task (free_slot k.tasks)) (ready_at p)) (task (free_slot k.tasks))

-- 2: "leaves any wait; slot is free and used again", but for one at its last use
unfoldable pub deleted : State → TaskSlot → Bool → State
deleted k t last = leaves (with_task k t (if last then spent_task else free_task)) t

-- 3: "if delayed or waiting, leaves that with outcome 3; if ready, outcome stays; already suspended: nothing changes"
unfoldable pub suspended : State → TaskSlot → State
suspended k t =
    if is_listed (task_at k.tasks t).place then leaves (with_task k t (broken_off (task_at k.tasks t))) t else k

-- 4: "made ready"
unfoldable pub resumed : State → TaskSlot → State
resumed k t = arrives k t Ready (task_at k.tasks t).outcome

-- 7: "the head of its line goes to the tail"
unfoldable pub yielded : State → State
yielded k = to_tail k k.running

-- 6: "0: as yield; else delayed"
unfoldable pub delayed : State → ℕ → State
delayed k n = if eqb n 0 then yielded k else arrives k k.running (Delayed (later k.tick n)) 0

-- 10: "lowest free object; empty, first 0"
unfoldable pub queue_made : State → ℕ → ℕ → State
queue_made k c s = with_object k (object (free_object k.objects)) (Queue (record { capacity = c; size = s; first = 0; count = 0 }))

-- 11: "lowest free object"; 19, "make recursive mutex", likewise
unfoldable pub mutex_made : State → Sort → State
mutex_made k s = with_object k (object (free_object k.objects)) (Mutex s Nobody)

-- 12: "items in it are dropped"; the slot is used again, but for one at its last use
unfoldable pub removed : State → ObjSlot → Bool → State
removed k o last = with_object k o (if last then SpentObject else Unused)

-- 15: "A free mutex becomes the caller's. Held by another: the caller waits"; of a recursive one "its holder may take it again"
abbrev pub taken_from : State → ObjSlot → Kind → ℕ → State
taken_from k o Unused w = k
taken_from k o SpentObject w = k
taken_from k o (Queue q) w = k
taken_from k o (Group b) w = k
taken_from k o (Mutex s Nobody) w = with_object k o (Mutex (counting s 1) (By k.running))
taken_from k o (Mutex s (By h)) w = if same_task h k.running then with_object k o (Mutex (counting s (count_of s + 1)) (By h)) else wait_for k o OwnTurn w

unfoldable pub taken : State → ObjSlot → ℕ → State
taken k o w = taken_from k o (kind_at k.objects o) w

-- 16: "The first waiter becomes holder and is made ready, outcome 1; with none, the mutex is free."
abbrev pub handed_to : State → ObjSlot → Sort → List TaskSlot → State
handed_to k o s [] = with_object k o (Mutex (counting s 0) Nobody)
handed_to k o s (t ∷ l) = with_object (arrives k t Ready 1) o (Mutex (counting s 1) (By t))

-- "each give takes one off; only the last hands it on, at count 1, or frees it"
abbrev pub given_back : State → ObjSlot → Kind → State
given_back k o Unused = k
given_back k o SpentObject = k
given_back k o (Queue q) = k
given_back k o (Group b) = k
given_back k o (Mutex s h) = if ltb 1 (count_of s) then with_object k o (Mutex (counting s (count_of s - 1)) h) else handed_to k o s (first k (waiters_of o))

unfoldable pub given : State → ObjSlot → State
given k o = given_back k o (kind_at k.objects o)

-- the whole table, by the call's number; no other number is a call's
unfoldable pub effect : State → Asked → State
effect k a =
    if is 1 a then created k a.priority
    else if is 2 a then deleted k a.task a.last
    else if is 3 a then suspended k a.task
    else if is 4 a then resumed k a.task
    else if is 5 a then new_priority k a.task a.priority
    else if is 6 a then delayed k a.ticks
    else if is 7 a then yielded k
    else if is 8 a then held k
    else if is 9 a then released k
    else if is 10 a then queue_made k a.capacity a.size
    else if is 11 a then mutex_made k Ordinary
    else if is 12 a then removed k a.object a.last
    else if is 13 a then sent_to k a.object (kind_at k.objects a.object) a.wait
    else if is 14 a then received_from k a.object (kind_at k.objects a.object) a.wait
    else if is 15 a then taken k a.object a.wait
    else if is 16 a then given k a.object
    else if is 17 a then ticked k
    else if is 18 a then advanced k a.ticks
    else if is 19 a then mutex_made k (Recursive 0)
    else if is 20 a then group_made k
    else if is 21 a then set_on k a.object (kind_at k.objects a.object) a.bits
    else if is 22 a then cleared_on k a.object (kind_at k.objects a.object) a.bits
    else if is 23 a then awaited_on k a.object (kind_at k.objects a.object) (want_by a) a.wait
    else k
