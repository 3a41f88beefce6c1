-- Send and receive: what they do to the kernel, and what to the lent store.
use Rattle.std.specs.Prelude.{ℕ, List, [], ◌∷◌, eqb, if◌then◌else◌}
use Rattle.items.specs.Bytes.{bytes_at, put_at}
use Rattle.rules.specs.Types.{TaskSlot, ObjSlot, OwnTurn, Ready, Ring, Kind, Unused, SpentObject, Queue, Mutex, Group, waiters_of, Outlet, to_waiter, to_queue, to_caller, State}
use Rattle.rules.specs.Tables.{with_object}
use Rattle.rules.specs.Lines.{first}
use Rattle.rules.specs.Waits.{arrives, wait_for}
use Rattle.rules.specs.Parts.{slip_of, item_at}
use Rattle.rules.specs.Rings.{one_more, one_less, room_or}

-- where a sent item goes: "If a receiver waits, the first waiter gets the item"
abbrev pub outlet_for : Ring → List TaskSlot → Outlet
outlet_for q [] = room_or q
outlet_for q (t ∷ l) = if eqb q.count 0 then to_waiter t else room_or q

unfoldable pub outlet : State → ObjSlot → Ring → Outlet
outlet k o q = outlet_for q (first k (waiters_of o))

abbrev pub sent_by : State → ObjSlot → Ring → ℕ → Outlet → State
sent_by k o q w (to_waiter t) = arrives k t Ready 1
sent_by k o q w to_queue = with_object k o (Queue (one_more q))
sent_by k o q w to_caller = wait_for k o OwnTurn w

abbrev pub place_by : State → ObjSlot → Ring → Outlet → ℕ
place_by k o q (to_waiter t) = slip_of t
place_by k o q to_queue = item_at o q q.count
place_by k o q to_caller = slip_of k.running

-- 13: send to a queue
unfoldable pub sent : State → ObjSlot → Ring → ℕ → State
sent k o q w = sent_by k o q w (outlet k o q)

unfoldable pub store_sent : State → ObjSlot → Ring → List ℕ → List ℕ → List ℕ
store_sent k o q item s = put_at (place_by k o q (outlet k o q)) item s

-- "then, if a sender waits, the first waiter's item is appended from its slip and it is made ready, outcome 1"
abbrev pub refilled_by : State → ObjSlot → Ring → List TaskSlot → State
refilled_by k o q [] = with_object k o (Queue q)
refilled_by k o q (t ∷ l) = arrives (with_object k o (Queue (one_more q))) t Ready 1

abbrev pub store_refilled_by : ObjSlot → Ring → List TaskSlot → List ℕ → List ℕ
store_refilled_by o q [] s = s
store_refilled_by o q (t ∷ l) s = put_at (item_at o q q.count) (bytes_at (slip_of t) q.size s) s

-- 14: "The oldest item goes to the caller's slip"; "Empty: the caller waits."
unfoldable pub received : State → ObjSlot → Ring → ℕ → State
received k o q w = if eqb q.count 0 then wait_for k o OwnTurn w else refilled_by k o (one_less q) (first k (waiters_of o))

unfoldable pub store_received : State → ObjSlot → Ring → List ℕ → List ℕ
store_received k o q s =
    if eqb q.count 0 then s
    else store_refilled_by o (one_less q) (first k (waiters_of o)) (put_at (slip_of k.running) (bytes_at (item_at o q 0) q.size s) s)

-- to an object of any kind: only a queue is sent to or received from
abbrev pub sent_to : State → ObjSlot → Kind → ℕ → State
sent_to k o Unused w = k
sent_to k o SpentObject w = k
sent_to k o (Queue q) w = sent k o q w
sent_to k o (Mutex m h) w = k
sent_to k o (Group b) w = k

abbrev pub store_sent_to : State → ObjSlot → Kind → List ℕ → List ℕ → List ℕ
store_sent_to k o Unused item s = s
store_sent_to k o SpentObject item s = s
store_sent_to k o (Queue q) item s = store_sent k o q item s
store_sent_to k o (Mutex m h) item s = s
store_sent_to k o (Group b) item s = s

abbrev pub received_from : State → ObjSlot → Kind → ℕ → State
received_from k o Unused w = k
received_from k o SpentObject w = k
received_from k o (Queue q) w = received k o q w
received_from k o (Mutex m h) w = k
received_from k o (Group b) w = k

abbrev pub store_received_from : State → ObjSlot → Kind → List ℕ → List ℕ
store_received_from k o Unused s = s
store_received_from k o SpentObject s = s
store_received_from k o (Queue q) s = store_received k o q s
store_received_from k o (Mutex m h) s = s
store_received_from k o (Group b) s = s
