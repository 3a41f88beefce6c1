-- Each effect takes twins to twins.
use Prim.Native.Nat.{ℕ, zero, suc, ◌+◌, ◌-◌, ◌<◌, ◌≤◌}
use mathlib.Core.Path.{◌≡◌, refl, sym, ap, ◌∙◌}
use mathlib.Core.Bool.{Bool, true, false, false≢true}
use mathlib.Core.List.{List, [], ◌∷◌}
use native.Mathlib.Omega.{arith}
use lib.Dec.{eqb, ltb, leb}
use lib.ListN.{length, get_or, set}
use borrow.Author.Tests.{eqb-true, leb-true, leb-false}
use Rattle.std.proofs.Common.{if◌then◌else◌}
use Rattle.lists.specs.Lists.{foldl, up_to}
use Rattle.lists.proofs.Tests.{kept_within}
use Rattle.numbers.specs.declared.TaskSlot.{TaskSlot}
use Rattle.numbers.specs.declared.ObjSlot.{ObjSlot}
use Rattle.numbers.specs.Numbers.{task, object, same_task}
use Rattle.order.specs.declared.Order.{Order}
use Rattle.order.specs.Order.{listed}
use Rattle.slots.specs.declared.Want.{Want}
use Rattle.slots.specs.declared.Want.TheVariants.{OwnTurn}
use Rattle.slots.specs.declared.Place.{Place}
use Rattle.slots.specs.declared.Place.TheVariants.{Free, Ready, Delayed, Waiting}
use Rattle.slots.specs.declared.Task.{Task}
use Rattle.slots.specs.declared.Ring.{Ring}
use Rattle.slots.specs.Types.{Holder}
use Rattle.slots.specs.Types.{Nobody, By}
use Rattle.slots.specs.declared.Sort.{Sort}
use Rattle.slots.specs.declared.Kind.{Kind}
use Rattle.slots.specs.declared.Kind.TheVariants.{Unused, Queue, Mutex, Group}
use Rattle.slots.specs.Who.{Who, all_ready, waiters_of, those_satisfied_on}
use Rattle.slots.specs.Wants.{wait_on, satisfied_on}
use Rattle.slots.specs.Places.{is_ready, is_listed, wakes_at, outcome_due}
use Rattle.slots.specs.Values.{free_task, spent_task, ready_at, placed, owned, levelled, broken_off, task_at}
use Rattle.rules.specs.State.{State}
use Rattle.slots.specs.Kinds.{count_of, counting, kind_at}
use Rattle.rules.specs.Tables.{free_slot, free_object, with_task, with_object, with_order, with_running, with_hold}
use Rattle.rules.specs.Lines.{those, has_begun, begun, level, first, runs_if, chosen, to_tail, to_head, leaves}
use Rattle.rules.specs.Sound.{no_higher}
use Rattle.rules.specs.Waits.{later, wake_of, arrives, wait_for}
use Rattle.rules.specs.Loans.{moved, moved_if, prioritized, ruled, relevelled, worked_out, new_priority}
use Rattle.rules.specs.Ticks.{woken_if_due, wakes, counted_on, one_tick, turned, ticked, ticks, released, held, advanced}
use Rattle.rules.specs.Rings.{one_less, one_more}
use Rattle.rules.specs.Queues.{outlet, outlet_for, sent_by, sent, refilled_by, received, sent_to, received_from}
use Rattle.rules.specs.Effects.{created, deleted, suspended, resumed, yielded, delayed, queue_made, mutex_made, removed, taken_from, taken, handed_to, given_back, given}
use Rattle.rules.proofs.TableSlots.{past_tasks, passes_blocked}
use Rattle.rules.proofs.LoanWorks.{up_to_slot}
use Rattle.rules.proofs.TableWithin.{first_within, first_single, by_outlet}
use Rattle.promises.specs.Alike.{Alike}
use Rattle.promises.proofs.AlikeFirsts.{same_leader, same_higher}
use Rattle.promises.proofs.AlikeTwins.{Twins, two_orders, twice, to_tail_lem, to_head_lem, out, moving, changed, unseen, beside}
use Rattle.slots.specs.declared.Kind.TheVariants.{Spent as SpentObject}

-- a task that passes a test which free slots fail has one of the 16 numbers
pub slot_low : (q : Place → Bool) → q Free ≡ false → (ts : List Task) (t : TaskSlot) → length ts ≤ 16 → q (task_at ts t).place ≡ true → t.0 < 16
slot_low q free ts t h f = go (leb (length ts) t.0) refl
  where
    go : (b : Bool) → leb (length ts) t.0 ≡ b → t.0 < 16
    go true e = absurd (false≢true (sym free ∙ (rw (past_tasks ts t (leb-true (length ts) t.0 e)) at f)))
    go false e = omega (arith, leb-false (length ts) t.0 e)

-- ── who is first
pub first_same : (k : State) (m : Order) → Alike k (with_order k m) → (w : Who) → first k w ≡ first (with_order k m) w
unfolding first those begun
first_same k m a all_ready = same_leader k.tasks (listed k.order) (listed m) a.lines
first_same k m a (waiters_of o) = rw (a.lists o)
first_same k m a (those_satisfied_on o b) = rw (of_begun (listed k.order), of_begun (listed m), a.begun)
  where
    -- whom the bits satisfy has begun a wait
    of_begun : (l : List TaskSlot) → those k.tasks (those_satisfied_on o b) l ≡ those k.tasks (those_satisfied_on o b) (begun k.tasks l)
    of_begun l = sym (kept_within (has_begun k.tasks) _ (λ t e. passes_blocked (satisfied_on o b) (task_at k.tasks t).place refl refl refl refl e) l)

pub first_low : (k : State) (w : Who) (t : TaskSlot) (r : List TaskSlot) → length k.tasks ≤ 16 → first k w ≡ t ∷ r → t.0 < 16
first_low k w t r h e = omega (arith, first_within k w t (first_single k w t r e))

pub chosen_too : {k j : State} → Twins k j → Twins (chosen k) (chosen j)
unfolding chosen
chosen_too {k} w = twice (λ z. chosen z) w (λ o v. rw (← first_same k o v.alike all_ready) (go o v (eqb k.hold 0) (first k all_ready) refl))
  where
    go : (o : Order) → Twins k (with_order k o) → (b : Bool) (f : List TaskSlot) → first k all_ready ≡ f → Twins (if b then runs_if k f else k) (if b then runs_if (with_order k o) f else with_order k o)
    go o v true [] e = v
    go o v true (t ∷ f) e =
        record {
          alike = two_orders (with_running k t) o v.alike.lines v.alike.lists v.alike.begun;
          slots = v.slots;
          runs = first_low k all_ready t f v.slots e;
          here = v.here;
          there = v.there;
        }
    go o v false f e = v

-- ── waits
pub arrives_too : {k j : State} (t : TaskSlot) (p : Place) (n : ℕ) → t.0 < 16 → Twins k j → Twins (arrives k t p n) (arrives j t p n)
unfolding arrives to_tail
arrives_too {k} t p n h w = twice (λ z. arrives z t p n) w (λ o v. changed k o v (to_tail_lem t h) (placed (task_at k.tasks t) p n))

pub wait_too : {k j : State} (o : ObjSlot) (x : Want) (n : ℕ) → Twins k j → Twins (wait_for k o x n) (wait_for j o x n)
unfolding wait_for
wait_too {k} o x n w = twice (λ z. wait_for z o x n) w (λ m v. arrives_too k.running (Waiting (wait_on o x) (wake_of k.tick n)) 0 v.runs v)

-- ── priorities
prioritized_too : {k j : State} (t : TaskSlot) (eff : ℕ) → Twins k j → Twins (prioritized k t eff) (prioritized j t eff)
unfolding prioritized moved_if moved to_tail to_head
prioritized_too {k} t eff w = twice (λ z. prioritized z t eff) w (λ o v. go o v (is_ready x.place) refl (eqb x.effective eff) refl)
  where
    x : Task
    x = task_at k.tasks t

    y : Task
    y = levelled x eff

    to_new_line : (o : Order) → Twins k (with_order k o) → t.0 < 16 → (runs : Bool)
        → Twins (if runs then to_head (with_task k t y) t else to_tail (with_task k t y) t) (if runs then to_head (with_task (with_order k o) t y) t else to_tail (with_task (with_order k o) t y) t)
    to_new_line o v h true = changed k o v (to_head_lem t h) y
    to_new_line o v h false = changed k o v (to_tail_lem t h) y

    -- unmoved, it stands in no line, or in the same
    go : (o : Order) → Twins k (with_order k o) → (b : Bool) → is_ready x.place ≡ b → (c : Bool) → eqb x.effective eff ≡ c
        → Twins (moved_if b c (with_task k t y) t) (moved_if b c (with_task (with_order k o) t y) t)
    go o v false e c f = unseen k o v t y (λ p. rw e) refl
    go o v true e true f = unseen k o v t y (λ p. rw (eqb-true x.effective eff f)) refl
    go o v true e false f = to_new_line o v (slot_low is_ready refl k.tasks t v.slots e) (same_task t k.running)

slots_too : {k j : State} (ls : List ℕ) (n : ℕ) → Twins k j → Twins (up_to_slot ls k n) (up_to_slot ls j n)
unfolding up_to
slots_too ls zero w = w
slots_too ls (suc n) w = prioritized_too (task n) (get_or ls n 0) (slots_too ls n w)

-- the rule looks at the tables alone
pub worked_too : {k j : State} → Twins k j → Twins (worked_out k) (worked_out j)
unfolding worked_out relevelled
worked_too {k} w = twice (λ z. worked_out z) w (λ o v. slots_too (ruled k.tasks k.objects) 16 v)

pub new_priority_too : {k j : State} (t : TaskSlot) (p : ℕ) → Twins k j → Twins (new_priority k t p) (new_priority j t p)
unfolding new_priority
new_priority_too {k} t p w = twice (λ z. new_priority z t p) w (λ o v. unseen k o v t (owned (task_at k.tasks t) p) (λ q. refl) refl)

-- ── tasks made, stopped, set going
pub created_too : {k j : State} (p : ℕ) → free_slot k.tasks < 16 → Twins k j → Twins (created k p) (created j p)
unfolding created to_tail
created_too {k} p h w = twice (λ z. created z p) w (λ o v. changed k o v (to_tail_lem (task (free_slot k.tasks)) h) (ready_at p))

pub deleted_too : {k j : State} (t : TaskSlot) (last : Bool) → Twins k j → Twins (deleted k t last) (deleted j t last)
unfolding deleted leaves
deleted_too {k} t last w = twice (λ z. deleted z t last) w (λ o v. changed k o v (out t) (if last then spent_task else free_task))

pub suspended_too : {k j : State} (t : TaskSlot) → Twins k j → Twins (suspended k t) (suspended j t)
unfolding suspended leaves
suspended_too {k} t w = twice (λ z. suspended z t) w (λ o v. go o v (is_listed (task_at k.tasks t).place))
  where
    x : Task
    x = broken_off (task_at k.tasks t)

    go : (o : Order) → Twins k (with_order k o) → (b : Bool) → Twins (if b then leaves (with_task k t x) t else k) (if b then leaves (with_task (with_order k o) t x) t else with_order k o)
    go o v true = changed k o v (out t) x
    go o v false = v

pub resumed_too : {k j : State} (t : TaskSlot) → t.0 < 16 → Twins k j → Twins (resumed k t) (resumed j t)
unfolding resumed
resumed_too {k} t h w = twice (λ z. resumed z t) w (λ o v. arrives_too t Ready (task_at k.tasks t).outcome h v)

runner_to_tail : {k j : State} → Twins k j → Twins (to_tail k k.running) (to_tail j j.running)
unfolding to_tail
runner_to_tail {k} w = twice (λ z. to_tail z z.running) w (λ o v. moving k o v (to_tail_lem k.running v.runs) k.tasks v.slots (λ u n. refl))

pub yielded_too : {k j : State} → Twins k j → Twins (yielded k) (yielded j)
unfolding yielded
yielded_too w = runner_to_tail w

pub delayed_too : {k j : State} (n : ℕ) → Twins k j → Twins (delayed k n) (delayed j n)
unfolding delayed
delayed_too {k} n w = twice (λ z. delayed z n) w (λ o v. go o v (eqb n 0))
  where
    go : (o : Order) → Twins k (with_order k o) → (b : Bool)
        → Twins (if b then yielded k else arrives k k.running (Delayed (later k.tick n)) 0)
        (if b then yielded (with_order k o) else arrives (with_order k o) k.running (Delayed (later k.tick n)) 0)
    go o v true = yielded_too v
    go o v false = arrives_too k.running (Delayed (later k.tick n)) 0 v.runs v

-- ── objects
pub object_too : {k j : State} (o : ObjSlot) (x : Kind) → Twins k j → Twins (with_object k o x) (with_object j o x)
object_too {k} o x w = twice (λ z. with_object z o x) w (λ m v. beside k m v (set k.objects o.0 (record { kind = x })) k.tick k.hold k.pended)

pub queue_made_too : {k j : State} (c s : ℕ) → Twins k j → Twins (queue_made k c s) (queue_made j c s)
unfolding queue_made
queue_made_too {k} c s w = twice (λ z. queue_made z c s) w (λ m v. object_too (object (free_object k.objects)) (Queue (record { capacity = c; size = s; first = 0; count = 0 })) v)

pub mutex_made_too : {k j : State} (s : Sort) → Twins k j → Twins (mutex_made k s) (mutex_made j s)
unfolding mutex_made
mutex_made_too {k} s w = twice (λ z. mutex_made z s) w (λ m v. object_too (object (free_object k.objects)) (Mutex s Nobody) v)

pub removed_too : {k j : State} (o : ObjSlot) (last : Bool) → Twins k j → Twins (removed k o last) (removed j o last)
unfolding removed
removed_too o last w = object_too o (if last then SpentObject else Unused) w

-- ── ticks
count_too : {k j : State} (h p : ℕ) → Twins k j → Twins (with_hold k h p) (with_hold j h p)
count_too {k} h p w = twice (λ z. with_hold z h p) w (λ m v. beside k m v k.objects k.tick h p)

woken_too : {k j : State} (t : TaskSlot) → Twins k j → Twins (woken_if_due k t) (woken_if_due j t)
unfolding woken_if_due
woken_too {k} t w = twice (λ z. woken_if_due z t) w (λ o v. go o v (wakes_at k.tick p) refl)
  where
    p : Place
    p = (task_at k.tasks t).place

    go : (o : Order) → Twins k (with_order k o) → (b : Bool) → wakes_at k.tick p ≡ b
        → Twins (if b then arrives k t Ready (outcome_due p) else k) (if b then arrives (with_order k o) t Ready (outcome_due p) else with_order k o)
    go o v true e = arrives_too t Ready (outcome_due p) (slot_low (wakes_at k.tick) refl k.tasks t v.slots e) v
    go o v false e = v

wakes_too : {k j : State} (l : List TaskSlot) → Twins k j → Twins (foldl woken_if_due k l) (foldl woken_if_due j l)
unfolding foldl
wakes_too [] w = w
wakes_too {k = k} {j = j} (t ∷ l) w = wakes_too {k = woken_if_due k t} {j = woken_if_due j t} l (woken_too t w)

counted_too : {k j : State} → Twins k j → Twins (counted_on k) (counted_on j)
unfolding counted_on wakes
counted_too {k} w = twice (λ z. counted_on z) w
    (λ o v. rw (← v.alike.begun) (wakes_too (begun k.tasks (listed k.order)) (beside k o v k.objects (later k.tick 1) k.hold k.pended)))

one_tick_too : {k j : State} → Twins k j → Twins (one_tick k) (one_tick j)
unfolding one_tick
one_tick_too w = worked_too (counted_too w)

turned_too : {k j : State} → Twins k j → Twins (turned k) (turned j)
unfolding turned
turned_too {k} w = twice (λ z. turned z) w
    (λ o v. rw (← same_higher k.tasks (listed k.order) (listed o) v.alike.lines (level k.tasks k.running))
    (go o v (no_higher k.tasks (level k.tasks k.running) (listed k.order))))
  where
    go : (o : Order) → Twins k (with_order k o) → (b : Bool) → Twins (if b then to_tail k k.running else k) (if b then to_tail (with_order k o) k.running else with_order k o)
    go o v true = runner_to_tail v
    go o v false = v

pub ticked_too : {k j : State} → Twins k j → Twins (ticked k) (ticked j)
unfolding ticked
ticked_too {k} w = twice (λ z. ticked z) w (λ o v. go o v (ltb 0 k.hold))
  where
    go : (o : Order) → Twins k (with_order k o) → (b : Bool)
        → Twins (if b then with_hold k k.hold (k.pended + 1) else turned (one_tick k)) (if b then with_hold (with_order k o) k.hold (k.pended + 1) else turned (one_tick (with_order k o)))
    go o v true = count_too k.hold (k.pended + 1) v
    go o v false = turned_too (one_tick_too v)

-- several ticks, with their turns or without
ticks_too : {k j : State} (turns : Bool) (n : ℕ) → Twins k j → Twins (ticks turns n k) (ticks turns n j)
unfolding ticks up_to
ticks_too turns zero w = w
ticks_too true (suc n) w = chosen_too (turned_too (one_tick_too (ticks_too true n w)))
ticks_too false (suc n) w = one_tick_too (ticks_too false n w)

pub released_too : {k j : State} → Twins k j → Twins (released k) (released j)
unfolding released
released_too {k} w = twice (λ z. released z) w (λ o v. go o v (eqb k.hold 1))
  where
    go : (o : Order) → Twins k (with_order k o) → (b : Bool)
        → Twins (if b then ticks false k.pended (with_hold k 0 0) else with_hold k (k.hold - 1) k.pended)
        (if b then ticks false k.pended (with_hold (with_order k o) 0 0) else with_hold (with_order k o) (k.hold - 1) k.pended)
    go o v true = ticks_too false k.pended (count_too 0 0 v)
    go o v false = count_too (k.hold - 1) k.pended v

pub advanced_too : {k j : State} (n : ℕ) → Twins k j → Twins (advanced k n) (advanced j n)
unfolding advanced
advanced_too n w = ticks_too true n w

pub held_too : {k j : State} → Twins k j → Twins (held k) (held j)
unfolding held
held_too {k} w = twice (λ z. held z) w (λ o v. count_too (k.hold + 1) k.pended v)

-- ── queues and mutexes: the first waiter is the same
pub outlet_same : (k : State) (m : Order) → Alike k (with_order k m) → (o : ObjSlot) (q : Ring) → outlet k o q ≡ outlet (with_order k m) o q
unfolding outlet
outlet_same k m a o q = ap (outlet_for q) (first_same k m a (waiters_of o))

sent_too : {k j : State} (o : ObjSlot) (q : Ring) (n : ℕ) → Twins k j → Twins (sent k o q n) (sent j o q n)
unfolding sent
sent_too {k} o q n w = twice (λ z. sent z o q n) w (λ m v. rw (← outlet_same k m v.alike o q) (go m v))
  where
    go : (m : Order) → Twins k (with_order k m) → Twins (sent_by k o q n (outlet k o q)) (sent_by (with_order k m) o q n (outlet k o q))
    go m v =
        by_outlet k o q (λ x. Twins (sent_by k o q n x) (sent_by (with_order k m) o q n x))
        (λ t e. arrives_too t Ready 1 (first_low k (waiters_of o) t [] v.slots e) v)
        (object_too o (Queue (one_more q)) v)
        (wait_too o OwnTurn n v)

received_too : {k j : State} (o : ObjSlot) (q : Ring) (n : ℕ) → Twins k j → Twins (received k o q n) (received j o q n)
unfolding received
received_too {k} o q n w = twice (λ z. received z o q n) w (λ m v. rw (← first_same k m v.alike (waiters_of o)) (go m v (first k (waiters_of o)) refl (eqb q.count 0)))
  where
    go : (m : Order) → Twins k (with_order k m) → (f : List TaskSlot) → first k (waiters_of o) ≡ f → (b : Bool)
        → Twins (if b then wait_for k o OwnTurn n else refilled_by k o (one_less q) f) (if b then wait_for (with_order k m) o OwnTurn n else refilled_by (with_order k m) o (one_less q) f)
    go m v f e true = wait_too o OwnTurn n v
    go m v [] e false = object_too o (Queue (one_less q)) v
    go m v (t ∷ r) e false = arrives_too t Ready 1 (first_low k (waiters_of o) t r v.slots e) (object_too o (Queue (one_more (one_less q))) v)

pub sent_to_too : {k j : State} (o : ObjSlot) (x : Kind) (n : ℕ) → Twins k j → Twins (sent_to k o x n) (sent_to j o x n)
sent_to_too o Unused n w = w
sent_to_too o SpentObject n w = w
sent_to_too o (Queue q) n w = sent_too o q n w
sent_to_too o (Mutex s h) n w = w
sent_to_too o (Group b) n w = w

pub received_from_too : {k j : State} (o : ObjSlot) (x : Kind) (n : ℕ) → Twins k j → Twins (received_from k o x n) (received_from j o x n)
received_from_too o Unused n w = w
received_from_too o SpentObject n w = w
received_from_too o (Queue q) n w = received_too o q n w
received_from_too o (Mutex s h) n w = w
received_from_too o (Group b) n w = w

pub taken_too : {k j : State} (o : ObjSlot) (n : ℕ) → Twins k j → Twins (taken k o n) (taken j o n)
unfolding taken
taken_too {k} o n w = twice (λ z. taken z o n) w (λ m v. go m v (kind_at k.objects o))
  where
    held : (m : Order) → Twins k (with_order k m) → (s : Sort) (h : TaskSlot) (b : Bool)
        → Twins (if b then with_object k o (Mutex (counting s (count_of s + 1)) (By h)) else wait_for k o OwnTurn n)
        (if b then with_object (with_order k m) o (Mutex (counting s (count_of s + 1)) (By h)) else wait_for (with_order k m) o OwnTurn n)
    held m v s h true = object_too o (Mutex (counting s (count_of s + 1)) (By h)) v
    held m v s h false = wait_too o OwnTurn n v

    go : (m : Order) → Twins k (with_order k m) → (x : Kind) → Twins (taken_from k o x n) (taken_from (with_order k m) o x n)
    go m v Unused = v
    go m v SpentObject = v
    go m v (Queue q) = v
    go m v (Mutex s Nobody) = object_too o (Mutex (counting s 1) (By k.running)) v
    go m v (Mutex s (By h)) = held m v s h (same_task h k.running)
    go m v (Group b) = v

pub given_too : {k j : State} (o : ObjSlot) → Twins k j → Twins (given k o) (given j o)
unfolding given
given_too {k} o w = twice (λ z. given z o) w (λ m v. back m v (kind_at k.objects o))
  where
    go : (m : Order) → Twins k (with_order k m) → (s : Sort) (f : List TaskSlot) → first k (waiters_of o) ≡ f → Twins (handed_to k o s f) (handed_to (with_order k m) o s f)
    go m v s [] e = object_too o (Mutex (counting s 0) Nobody) v
    go m v s (t ∷ r) e = object_too o (Mutex (counting s 1) (By t)) (arrives_too t Ready 1 (first_low k (waiters_of o) t r v.slots e) v)

    last : (m : Order) → Twins k (with_order k m) → (s : Sort) (h : Holder) (b : Bool)
        → Twins (if b then with_object k o (Mutex (counting s (count_of s - 1)) h) else handed_to k o s (first k (waiters_of o)))
        (if b then with_object (with_order k m) o (Mutex (counting s (count_of s - 1)) h) else handed_to (with_order k m) o s (first (with_order k m) (waiters_of o)))
    last m v s h true = object_too o (Mutex (counting s (count_of s - 1)) h) v
    last m v s h false = rw (← first_same k m v.alike (waiters_of o)) (go m v s (first k (waiters_of o)) refl)

    back : (m : Order) → Twins k (with_order k m) → (x : Kind) → Twins (given_back k o x) (given_back (with_order k m) o x)
    back m v Unused = v
    back m v SpentObject = v
    back m v (Queue q) = v
    back m v (Mutex s h) = last m v s h (ltb 1 (count_of s))
    back m v (Group b) = v
