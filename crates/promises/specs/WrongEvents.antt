-- Mistakes with event groups: each is the step with one mistake made, with a few calls that tell the two apart.
use Rattle.std.specs.Prelude.{ℕ, zero, suc, ◌+◌, ◌-◌, ◌*◌, Bool, true, false, not, ◌&&◌, ◌||◌, List, [], ◌∷◌, ◌++◌, eqb, ltb, leb, drop, take, if◌then◌else◌}
use Rattle.std.specs.Int.Bits.{bit_or}
use Rattle.lists.specs.Lists.{foldl, kept, head, values}
use Rattle.lists.specs.FourBytes.{four_bytes, low_byte, second_byte, third_byte, last_byte}
use Rattle.numbers.specs.Numbers.{task, object, same_object}
use Rattle.calls.specs.Behind.{asked}
use Rattle.calls.specs.Said.{done, waiting, refused}
use Rattle.order.specs.Order.{listed}
use Rattle.items.specs.Bytes.{put_at}
use Rattle.slots.specs.Places.{of_blocked, is_waiting, wakes_at}
use Rattle.slots.specs.Values.{task_at}
use Rattle.slots.specs.Wants.{all_bits, holds_of, satisfied, cleared, clears, want_in}
use Rattle.slots.specs.Kinds.{kind_at}
use Rattle.rows.specs.Asking.{is}
use Rattle.rows.specs.Applies.{not_so_many, must_wait, row, first_row, table}
use Rattle.rules.specs.Tables.{with_object}
use Rattle.rules.specs.Lines.{those, leader, first, chosen}
use Rattle.rules.specs.Waits.{later, arrives, wait_for}
use Rattle.rules.specs.Parts.{slip_of}
use Rattle.rules.specs.Events.{and_on, clears_of, want_by}
use Rattle.rules.specs.Refusals.{seen, refusal}
use Rattle.rules.specs.Steps.{after, stored}
use Rattle.promises.specs.Types.{TaskSlot, ObjSlot, Asked, Call, Create, Yield, Tick, MakeGroup, Want, OwnTurn, Bits, Ready, Kind, Unused, SpentObject, Queue, Mutex, Group, those_satisfied_on, waiters_of, State}
use Rattle.promises.specs.Cases.{view}
use Rattle.promises.specs.EventGroups.{is_satisfied}
use Rattle.promises.specs.EventCases.{bits_in, bits_now, of_one, of_two, setting, clearing, awaiting, three_wait}
use Rattle.promises.specs.WrongCircles.{refuses_by}
use Rattle.promises.specs.Wrong.{Stepping, step_of, uses_then, step_by, changed, Wrong, fails, says_nothing}

-- the object that the call names
abbrev pub object_in : State → Asked → Kind
object_in k a = kind_at k.objects a.object

-- ── 21: set, of other parts
-- "in first-waiter order, all judged on the same bits": whom it wakes next of those that are left, and on which bits these are judged then; n of them at most
unfoldable pub woken_through : (State → ObjSlot → ℕ → List TaskSlot) → (State → TaskSlot → ℕ → ℕ) → ℕ → State → ObjSlot → ℕ → List TaskSlot
woken_through who next zero k o b = []
woken_through who next (suc n) k o b = and_on (who k o b) (λ t. woken_through who next n (arrives k t Ready 1) o (next k t b))

pub record SetParts : Type 0 where
  -- the bits of the group and of the call, joined
  pub joins : ℕ → ℕ → ℕ
  -- whom these wake, and with which outcome
  pub wakes : State → ObjSlot → ℕ → List TaskSlot
  pub outcome : ℕ
  -- which bits are left, where those of the list are woken
  pub left : State → ObjSlot → ℕ → List TaskSlot → ℕ
  -- what a slip gets, by the joined bits and those that are left
  pub bytes : ℕ → ℕ → List ℕ

-- the right parts
abbrev pub first_met : State → ObjSlot → ℕ → List TaskSlot
first_met k o b = first k (those_satisfied_on o b)

abbrev pub same_bits : State → TaskSlot → ℕ → ℕ
same_bits k t b = b

abbrev pub every_met : State → ObjSlot → ℕ → List TaskSlot
every_met k o b = woken_through first_met same_bits 16 k o b

abbrev pub their_clears : State → ObjSlot → ℕ → List TaskSlot → ℕ
their_clears k o b l = cleared b (clears_of k.tasks l)

abbrev pub as_judged : ℕ → ℕ → List ℕ
as_judged b c = four_bytes b

abbrev pub right_set : SetParts
right_set = record { joins = bit_or; wakes = every_met; outcome = 1; left = their_clears; bytes = as_judged }

-- with one of them another
abbrev pub joining : (ℕ → ℕ → ℕ) → SetParts
joining f = record { joins = f; wakes = every_met; outcome = 1; left = their_clears; bytes = as_judged }

abbrev pub waking_those : (State → ObjSlot → ℕ → List TaskSlot) → SetParts
waking_those f = record { joins = bit_or; wakes = f; outcome = 1; left = their_clears; bytes = as_judged }

abbrev pub ending_with : ℕ → SetParts
ending_with n = record { joins = bit_or; wakes = every_met; outcome = n; left = their_clears; bytes = as_judged }

abbrev pub leaving_bits : (State → ObjSlot → ℕ → List TaskSlot → ℕ) → SetParts
leaving_bits f = record { joins = bit_or; wakes = every_met; outcome = 1; left = f; bytes = as_judged }

abbrev pub telling : (ℕ → ℕ → List ℕ) → SetParts
telling f = record { joins = bit_or; wakes = every_met; outcome = 1; left = their_clears; bytes = f }

abbrev pub set_bits : SetParts → State → ObjSlot → ℕ → State
set_bits p k o b = let l = p.wakes k o b in with_object (foldl (λ j t. arrives j t Ready p.outcome) k l) o (Group (p.left k o b l))

abbrev pub set_store : SetParts → State → ObjSlot → ℕ → List ℕ → List ℕ
set_store p k o b s = let l = p.wakes k o b in foldl (λ r t. put_at (slip_of t) (p.bytes b (p.left k o b l)) r) s l

abbrev pub set_on_by : SetParts → State → ObjSlot → Kind → ℕ → State
set_on_by p k o Unused m = k
set_on_by p k o SpentObject m = k
set_on_by p k o (Queue q) m = k
set_on_by p k o (Mutex s h) m = k
set_on_by p k o (Group b) m = set_bits p k o (p.joins b m)

abbrev pub store_set_on_by : SetParts → State → ObjSlot → Kind → ℕ → List ℕ → List ℕ
store_set_on_by p k o Unused m s = s
store_set_on_by p k o SpentObject m s = s
store_set_on_by p k o (Queue q) m s = s
store_set_on_by p k o (Mutex n h) m s = s
store_set_on_by p k o (Group b) m s = set_store p k o (p.joins b m) s

-- the step with such a set
abbrev pub set_does : SetParts → State → Asked → State
set_does p = changed 21 (λ k a. set_on_by p k a.object (object_in k a) a.bits)

abbrev pub set_stores : SetParts → State → Asked → List ℕ → List ℕ → List ℕ
set_stores p k a item s = if is 21 a then store_set_on_by p k a.object (object_in k a) a.bits s else stored k a item s

abbrev pub sets_by : SetParts → Stepping
sets_by p = step_of asked refusal (set_does p) chosen (set_stores p) uses_then

-- the bits are added, as numbers; they come in place of the old ones
abbrev pub added : ℕ → ℕ → ℕ
added b m = b + m

abbrev pub in_place : ℕ → ℕ → ℕ
in_place b m = m

-- judged one after the other, each on what the one before left
abbrev pub on_the_rest : State → ObjSlot → ℕ → List TaskSlot
on_the_rest k o b = woken_through first_met (λ k t b. cleared b (clears (want_in (task_at k.tasks t).place))) 16 k o b

-- only the first
abbrev pub only_first : State → ObjSlot → ℕ → List TaskSlot
only_first k o b = woken_through first_met same_bits 1 k o b

-- by slot number
abbrev pub lowest_met : State → ObjSlot → ℕ → List TaskSlot
lowest_met k o b = head (kept (is_satisfied k o b) (values (λ n. task n) 16))

abbrev pub by_slot : State → ObjSlot → ℕ → List TaskSlot
by_slot k o b = woken_through lowest_met same_bits 16 k o b

-- by another test than "any bit of the mask or all of them"
abbrev pub first_by : (ℕ → Want → Bool) → State → ObjSlot → ℕ → List TaskSlot
first_by test k o b = leader k.tasks (kept (λ t. of_blocked false (λ w. false) (λ x w. same_object x.object o && test b x.want) (task_at k.tasks t).place) (listed k.order))

abbrev pub met_by : (ℕ → Want → Bool) → State → ObjSlot → ℕ → List TaskSlot
met_by test k o b = woken_through (first_by test) same_bits 16 k o b

-- any for all, and all for any; all, whatever is asked, and any
abbrev pub asking_as : (Bool → Bool) → ℕ → Want → Bool
asking_as f b OwnTurn = false
asking_as f b (Bits m all clear) = holds_of b m (f all)

abbrev pub always_any : ℕ → Want → Bool
always_any = asking_as (λ all. false)

abbrev pub always_all : ℕ → Want → Bool
always_all = asking_as (λ all. true)

-- "kept or cleared": nothing is cleared; what those asked who are not woken; what is to be kept
abbrev pub no_clears : State → ObjSlot → ℕ → List TaskSlot → ℕ
no_clears k o b l = b

abbrev pub clears_of_all : State → ObjSlot → ℕ → List TaskSlot → ℕ
clears_of_all k o b l = cleared b (clears_of k.tasks (those k.tasks (waiters_of o) (listed k.order)))

abbrev pub whole_mask : Want → ℕ
whole_mask OwnTurn = 0
whole_mask (Bits m all clear) = m

abbrev pub whole_masks : State → ObjSlot → ℕ → List TaskSlot → ℕ
whole_masks k o b l = cleared b (foldl (λ m t. bit_or m (whole_mask (want_in (task_at k.tasks t).place))) 0 l)

-- "the bits as they were judged": as they are afterwards. "low byte first": the high byte
abbrev pub afterwards : ℕ → ℕ → List ℕ
afterwards b c = four_bytes c

abbrev pub high_first : ℕ → ℕ → List ℕ
high_first b c = last_byte b ∷ third_byte b ∷ second_byte b ∷ low_byte b ∷ []

-- ── 22: clear, which leaves other bits
abbrev pub clear_on_by : (ℕ → ℕ → ℕ) → State → ObjSlot → Kind → ℕ → State
clear_on_by left k o Unused m = k
clear_on_by left k o SpentObject m = k
clear_on_by left k o (Queue q) m = k
clear_on_by left k o (Mutex s h) m = k
clear_on_by left k o (Group b) m = with_object k o (Group (left b m))

abbrev pub clear_does : (ℕ → ℕ → ℕ) → State → Asked → State
clear_does left = changed 22 (λ k a. clear_on_by left k a.object (object_in k a) a.bits)

-- all of them; the bits taken off, as numbers
abbrev pub none_left : ℕ → ℕ → ℕ
none_left b m = 0

abbrev pub taken_off : ℕ → ℕ → ℕ
taken_off b m = b - m

-- ── 23: wait, of other parts
pub record WaitParts : Type 0 where
  -- the bits satisfy it
  pub meets : ℕ → Want → Bool
  -- which bits are left then
  pub left : ℕ → Want → ℕ
  -- what the caller's slip gets
  pub bytes : ℕ → ℕ → List ℕ

abbrev pub its_clears : ℕ → Want → ℕ
its_clears b x = cleared b (clears x)

abbrev pub right_wait : WaitParts
right_wait = record { meets = satisfied; left = its_clears; bytes = as_judged }

abbrev pub meeting_by : (ℕ → Want → Bool) → WaitParts
meeting_by f = record { meets = f; left = its_clears; bytes = as_judged }

abbrev pub leaving_at_once : (ℕ → Want → ℕ) → WaitParts
leaving_at_once f = record { meets = satisfied; left = f; bytes = as_judged }

abbrev pub telling_at_once : (ℕ → ℕ → List ℕ) → WaitParts
telling_at_once f = record { meets = satisfied; left = its_clears; bytes = f }

abbrev pub await_on_by : WaitParts → State → ObjSlot → Kind → Want → ℕ → State
await_on_by p k o Unused x w = k
await_on_by p k o SpentObject x w = k
await_on_by p k o (Queue q) x w = k
await_on_by p k o (Mutex s h) x w = k
await_on_by p k o (Group b) x w = if p.meets b x then with_object k o (Group (p.left b x)) else wait_for k o x w

abbrev pub store_await_on_by : WaitParts → State → Kind → Want → List ℕ → List ℕ
store_await_on_by p k Unused x s = s
store_await_on_by p k SpentObject x s = s
store_await_on_by p k (Queue q) x s = s
store_await_on_by p k (Mutex n h) x s = s
store_await_on_by p k (Group b) x s = if p.meets b x then put_at (slip_of k.running) (p.bytes b (p.left b x)) s else s

abbrev pub await_does : WaitParts → State → Asked → State
await_does p = changed 23 (λ k a. await_on_by p k a.object (object_in k a) (want_by a) a.wait)

abbrev pub await_stores : WaitParts → State → Asked → List ℕ → List ℕ → List ℕ
await_stores p k a item s = if is 23 a then store_await_on_by p k (object_in k a) (want_by a) s else stored k a item s

abbrev pub awaits_by : WaitParts → Stepping
awaits_by p = step_of asked refusal (await_does p) chosen (await_stores p) uses_then

-- "kept or cleared": kept, and cleared, whatever is asked
abbrev pub always_kept : ℕ → Want → ℕ
always_kept b x = b

abbrev pub always_cleared : ℕ → Want → ℕ
always_cleared b x = cleared b (whole_mask x)

-- ── a tick that changes the store; the right one does not
abbrev pub tick_stores : (State → List ℕ → List ℕ) → State → Asked → List ℕ → List ℕ → List ℕ
tick_stores tells k a item s = if is 17 a then tells k s else stored k a item s

abbrev pub tick_tells : (State → List ℕ → List ℕ) → Stepping
tick_tells tells = step_of asked refusal after chosen (tick_stores tells) uses_then

abbrev pub tells_nothing : State → List ℕ → List ℕ
tells_nothing k s = s

-- whose wait for bits of group 0 runs out is told them
abbrev pub tells_the_late : State → List ℕ → List ℕ
tells_the_late k s =
    foldl (λ r t. put_at (slip_of t) (four_bytes (bits_in (kind_at k.objects (object 0)))) r) s
    (kept (λ t. is_waiting (task_at k.tasks t).place && wakes_at (later k.tick 1) (task_at k.tasks t).place) (listed k.order))

-- ── the table with another test in one row, which has the number n and stands behind i others
abbrev pub row_by : ℕ → ℕ → (State → Asked → Bool) → State → Asked → ℕ → ℕ → ℕ
row_by i n test k a item store = let rows = table (seen k a) a item store in first_row (take i rows ++ (row n (test k a) ∷ drop (suc i) rows))

-- row 14, behind thirteen: "with wait 0 unsatisfied"
abbrev pub unmet_by : (State → Asked → Bool) → Stepping
unmet_by test = refuses_by (row_by 13 14 test)

abbrev pub where_it_must : State → Asked → Bool
where_it_must k a = must_wait (seen k a) a

-- row 4: "bits above the 24, a flag above 1 or an empty wait mask", with another highest number of bits, highest flag, and test of an empty mask
abbrev pub range_by : ℕ → ℕ → (Asked → Bool) → Asked → Bool
range_by most flag empty a =
    ltb 31 a.priority
    || (leb 4294967295 a.ticks
    || (not_so_many a
    || (ltb a.capacity 1
    || (ltb 64 a.capacity
    || (ltb 64 a.size
    || (ltb 512 (a.capacity * a.size)
    || (leb 21 a.number && (ltb most a.bits || (ltb flag a.all || (ltb flag a.clear || empty a))))))))))

-- the step with this in row 4, which is the second of those behind row 1
abbrev pub ranges_by : (Asked → Bool) → Stepping
ranges_by out = refuses_by (row_by 1 4 (λ k a. out a))

abbrev pub empty_wait : Asked → Bool
empty_wait a = is 23 a && eqb a.bits 0

-- a set or a clear of no bits is turned away too
abbrev pub empty_bits : Asked → Bool
empty_bits a = (is 21 a || (is 22 a || is 23 a)) && eqb a.bits 0

-- ── what tells them from the step
-- task 1 waits for m, and idle sets b
abbrev pub one_waits : ℕ → ℕ → ℕ → ℕ → List Call
one_waits m all clear b = MakeGroup ∷ Create 5 ∷ awaiting m all clear 9 ∷ setting b ∷ []

-- task 1 waits for m where the bits are b
abbrev pub one_finds : ℕ → ℕ → ℕ → ℕ → ℕ → List Call
one_finds b m all clear w = MakeGroup ∷ Create 5 ∷ setting b ∷ awaiting m all clear w ∷ []

unfoldable pub set_mistakes : List Wrong
set_mistakes =
    -- tasks 1 and 2 wait for all of 3 and of 2, to be cleared, and 7 is set; task 3 waits for all of 12
    fails (sets_by (waking_those on_the_rest)) (three_wait ++ (setting 7 ∷ [])) of_two
    (view done 0 1 (4 ∷ 1 ∷ 7 ∷ 0 ∷ 0 ∷ 0 ∷ 1 ∷ 7 ∷ 0 ∷ 0 ∷ 0 ∷ [])) (view done 0 1 (4 ∷ 1 ∷ 7 ∷ 0 ∷ 0 ∷ 0 ∷ 0 ∷ 0 ∷ 0 ∷ 0 ∷ 0 ∷ []))
    ∷ fails (sets_by (waking_those only_first)) (three_wait ++ (setting 7 ∷ [])) of_two
    (view done 0 1 (4 ∷ 1 ∷ 7 ∷ 0 ∷ 0 ∷ 0 ∷ 1 ∷ 7 ∷ 0 ∷ 0 ∷ 0 ∷ [])) (view done 0 1 (4 ∷ 1 ∷ 7 ∷ 0 ∷ 0 ∷ 0 ∷ 0 ∷ 0 ∷ 0 ∷ 0 ∷ 0 ∷ []))
    ∷ fails (sets_by (leaving_bits clears_of_all)) (three_wait ++ (setting 7 ∷ [])) of_two
    (view done 0 1 (4 ∷ 1 ∷ 7 ∷ 0 ∷ 0 ∷ 0 ∷ 1 ∷ 7 ∷ 0 ∷ 0 ∷ 0 ∷ [])) (view done 0 1 (0 ∷ 1 ∷ 7 ∷ 0 ∷ 0 ∷ 0 ∷ 1 ∷ 7 ∷ 0 ∷ 0 ∷ 0 ∷ []))
    ∷ fails (sets_by (telling afterwards)) (three_wait ++ (setting 7 ∷ [])) of_two
    (view done 0 1 (4 ∷ 1 ∷ 7 ∷ 0 ∷ 0 ∷ 0 ∷ 1 ∷ 7 ∷ 0 ∷ 0 ∷ 0 ∷ [])) (view done 0 1 (4 ∷ 1 ∷ 4 ∷ 0 ∷ 0 ∷ 0 ∷ 1 ∷ 4 ∷ 0 ∷ 0 ∷ 0 ∷ []))
    -- 66,051 is 3 + 256 × 2 + 65,536 × 1
    ∷ fails (sets_by (telling high_first)) (one_waits 3 1 0 66051) of_one (view done 0 1 (66051 ∷ 1 ∷ 3 ∷ 2 ∷ 1 ∷ 0 ∷ [])) (view done 0 1 (66051 ∷ 1 ∷ 0 ∷ 1 ∷ 2 ∷ 3 ∷ []))
    -- task 1 waits for both bits of 3, and for any of them, and 1 is set
    ∷ fails (sets_by (waking_those (met_by always_any))) (one_waits 3 1 0 1) of_one (view done 0 0 (1 ∷ 0 ∷ 0 ∷ 0 ∷ 0 ∷ 0 ∷ [])) (view done 0 1 (1 ∷ 1 ∷ 1 ∷ 0 ∷ 0 ∷ 0 ∷ []))
    ∷ fails (sets_by (waking_those (met_by always_all))) (one_waits 3 0 0 1) of_one (view done 0 1 (1 ∷ 1 ∷ 1 ∷ 0 ∷ 0 ∷ 0 ∷ [])) (view done 0 0 (1 ∷ 0 ∷ 0 ∷ 0 ∷ 0 ∷ 0 ∷ []))
    -- to be cleared, and to be kept
    ∷ fails (sets_by (leaving_bits no_clears)) (one_waits 3 1 1 7) of_one (view done 0 1 (4 ∷ 1 ∷ 7 ∷ 0 ∷ 0 ∷ 0 ∷ [])) (view done 0 1 (7 ∷ 1 ∷ 7 ∷ 0 ∷ 0 ∷ 0 ∷ []))
    ∷ fails (sets_by (leaving_bits whole_masks)) (one_waits 3 1 0 7) of_one (view done 0 1 (7 ∷ 1 ∷ 7 ∷ 0 ∷ 0 ∷ 0 ∷ [])) (view done 0 1 (4 ∷ 1 ∷ 7 ∷ 0 ∷ 0 ∷ 0 ∷ []))
    -- the outcome
    ∷ fails (sets_by (ending_with 0)) (one_waits 3 1 1 3) of_one (view done 0 1 (0 ∷ 1 ∷ 3 ∷ 0 ∷ 0 ∷ 0 ∷ [])) (view done 0 1 (0 ∷ 0 ∷ 3 ∷ 0 ∷ 0 ∷ 0 ∷ []))
    ∷ fails (sets_by (ending_with 2)) (one_waits 3 1 1 3) of_one (view done 0 1 (0 ∷ 1 ∷ 3 ∷ 0 ∷ 0 ∷ 0 ∷ [])) (view done 0 1 (0 ∷ 2 ∷ 3 ∷ 0 ∷ 0 ∷ 0 ∷ []))
    -- task 2 waits before task 1, who has the same priority
    ∷ fails (sets_by (waking_those by_slot)) (MakeGroup ∷ Create 3 ∷ Create 3 ∷ Yield ∷ awaiting 1 1 0 9 ∷ awaiting 1 1 0 9 ∷ setting 1 ∷ []) says_nothing (view done 0 2 []) (view done 0 1 [])
    -- 1 is set twice; 1, then 2
    ∷ fails (sets_by (joining added)) (MakeGroup ∷ setting 1 ∷ setting 1 ∷ []) (λ d. bits_now d ∷ []) (view done 0 0 (1 ∷ [])) (view done 0 0 (2 ∷ []))
    ∷ fails (sets_by (joining in_place)) (MakeGroup ∷ setting 1 ∷ setting 2 ∷ []) (λ d. bits_now d ∷ []) (view done 0 0 (3 ∷ [])) (view done 0 0 (2 ∷ []))
    ∷ []

unfoldable pub clear_mistakes : List Wrong
clear_mistakes =
    fails (step_by (clear_does none_left) chosen) (MakeGroup ∷ setting 5 ∷ clearing 1 ∷ []) (λ d. bits_now d ∷ []) (view done 0 0 (4 ∷ [])) (view done 0 0 (0 ∷ []))
    ∷ fails (step_by (clear_does taken_off) chosen) (MakeGroup ∷ setting 4 ∷ clearing 3 ∷ []) (λ d. bits_now d ∷ []) (view done 0 0 (4 ∷ [])) (view done 0 0 (1 ∷ []))
    ∷ []

unfoldable pub wait_mistakes : List Wrong
wait_mistakes =
    -- satisfied at once: to be cleared; told the bits as they were; to be kept; the low byte first
    fails (awaits_by (leaving_at_once always_kept)) (one_finds 7 3 1 1 0) of_one (view done 0 1 (4 ∷ 0 ∷ 7 ∷ 0 ∷ 0 ∷ 0 ∷ [])) (view done 0 1 (7 ∷ 0 ∷ 7 ∷ 0 ∷ 0 ∷ 0 ∷ []))
    ∷ fails (awaits_by (telling_at_once afterwards)) (one_finds 7 3 1 1 0) of_one (view done 0 1 (4 ∷ 0 ∷ 7 ∷ 0 ∷ 0 ∷ 0 ∷ [])) (view done 0 1 (4 ∷ 0 ∷ 4 ∷ 0 ∷ 0 ∷ 0 ∷ []))
    ∷ fails (awaits_by (leaving_at_once always_cleared)) (one_finds 7 3 1 0 0) of_one (view done 0 1 (7 ∷ 0 ∷ 7 ∷ 0 ∷ 0 ∷ 0 ∷ [])) (view done 0 1 (4 ∷ 0 ∷ 7 ∷ 0 ∷ 0 ∷ 0 ∷ []))
    ∷ fails (awaits_by (telling_at_once high_first)) (one_finds 66051 3 1 0 0) of_one (view done 0 1 (66051 ∷ 0 ∷ 3 ∷ 2 ∷ 1 ∷ 0 ∷ [])) (view done 0 1 (66051 ∷ 0 ∷ 0 ∷ 1 ∷ 2 ∷ 3 ∷ []))
    -- any for all, and all for any
    ∷ fails (awaits_by (meeting_by always_any)) (one_finds 1 3 1 0 9) of_one (view waiting 0 0 (1 ∷ 0 ∷ 0 ∷ 0 ∷ 0 ∷ 0 ∷ [])) (view done 0 1 (1 ∷ 0 ∷ 1 ∷ 0 ∷ 0 ∷ 0 ∷ []))
    ∷ fails (awaits_by (meeting_by always_all)) (one_finds 1 3 0 0 9) of_one (view done 0 1 (1 ∷ 0 ∷ 1 ∷ 0 ∷ 0 ∷ 0 ∷ [])) (view waiting 0 0 (1 ∷ 0 ∷ 0 ∷ 0 ∷ 0 ∷ 0 ∷ []))
    -- the wait runs out, and the slip stays
    ∷ fails (tick_tells tells_the_late) (one_finds 5 2 1 1 1 ++ (Tick ∷ [])) of_one (view done 0 1 (5 ∷ 2 ∷ 0 ∷ 0 ∷ 0 ∷ 0 ∷ [])) (view done 0 1 (5 ∷ 2 ∷ 5 ∷ 0 ∷ 0 ∷ 0 ∷ []))
    -- "14 with wait 0 unsatisfied"
    ∷ fails (unmet_by (λ k a. where_it_must k a && not (is 23 a))) (one_finds 1 2 1 0 0) says_nothing (view refused 14 1 []) (view waiting 0 0 [])
    ∷ []

-- "4 for bits above the 24, a flag above 1 or an empty wait mask": a mask of none of which all are set, and a flag of 2 that is not 1
unfoldable pub range_mistakes : List Wrong
range_mistakes =
    fails (ranges_by (range_by all_bits 1 (λ a. false))) (one_finds 1 0 1 0 0) says_nothing (view refused 4 1 []) (view done 0 1 [])
    ∷ fails (ranges_by (range_by all_bits 1 empty_bits)) (MakeGroup ∷ setting 0 ∷ []) says_nothing (view done 0 0 []) (view refused 4 0 [])
    ∷ fails (ranges_by (range_by 16777214 1 empty_wait)) (MakeGroup ∷ setting 16777215 ∷ []) says_nothing (view done 0 0 []) (view refused 4 0 [])
    ∷ fails (ranges_by (range_by 16777216 1 empty_wait)) (MakeGroup ∷ setting 16777216 ∷ []) says_nothing (view refused 4 0 []) (view done 0 0 [])
    ∷ fails (ranges_by (range_by all_bits 2 empty_wait)) (one_finds 1 1 2 0 0) says_nothing (view refused 4 1 []) (view done 0 1 [])
    ∷ []

unfoldable pub event_mistakes : List Wrong
event_mistakes = set_mistakes ++ (clear_mistakes ++ (wait_mistakes ++ range_mistakes))
