-- Which slots are taken, and which are spent, is changed by create, delete, make and remove alone.
use Prim.Native.Nat.{ℕ, zero, suc, ◌+◌, ◌-◌}
use mathlib.Core.Path.{◌≡◌, refl, sym, ap, ◌∙◌}
use mathlib.Core.Bool.{Bool, true, false, false≢true}
use native.Mathlib.Omega.{arith}
use mathlib.Core.List.{List, [], ◌∷◌}
use lib.Dec.{eqb, ltb}
use lib.ListN.{length, set}
use lib.Seq.{set_out}
use lib.Bits.{bit_or}
use borrow.Author.Tests.{eqb-true, eqb-false, ltb-true, ltb-false}
use Rattle.std.proofs.Common.{if◌then◌else◌}
use Rattle.lists.specs.Lists.{foldl, up_to}
use Rattle.numbers.specs.Numbers.{same_task, same_object}
use Rattle.calls.specs.Door.{task_slot, obj_slot}
use Rattle.calls.specs.Behind.{asked}
use Rattle.order.proofs.Passing.{one_number}
use Rattle.order.specs.Order.{listed}
use Rattle.slots.specs.Places.{is_free, is_listed, waits_on, wakes_at, outcome_due}
use Rattle.slots.specs.Wants.{wait_on, satisfied_on}
use Rattle.slots.specs.Values.{placed, broken_off, task_at}
use Rattle.slots.specs.Kinds.{is_unused, kind_at}
use Rattle.rules.specs.Types.{TaskSlot, ObjSlot, Place, Free, Ready, Delayed, Waiting, Suspended, Spent, Task, Ring, Holder, Sort, Kind, Unused, SpentObject, Queue, Mutex, Object, waiters_of, Want, OwnTurn, Group, those_satisfied_on}
use Rattle.rules.specs.Types.{Call, Create, Delete, Suspend, Resume, SetPriority, Delay, Yield, Hold, Release, MakeQueue, MakeMutex, Remove, Send, Receive, Take, Give, Tick, Advance, MakeRecursive, MakeGroup, SetBits, ClearBits, Await, State}
use Rattle.rules.specs.Tables.{with_task, with_object, with_tick, with_hold}
use Rattle.rules.specs.Lines.{begun, first, to_tail, leaves}
use Rattle.rules.specs.Sentences.{Sound}
use Rattle.rules.specs.Waits.{later, wake_of, arrives, wait_for}
use Rattle.rules.specs.Loans.{new_priority, worked_out}
use Rattle.rules.specs.Ticks.{held, woken_if_due, wakes, one_tick, turned, ticked, ticks, released, advanced, counted_on}
use Rattle.rules.specs.Rings.{one_less}
use Rattle.rules.specs.Queues.{sent_by, sent, sent_to, refilled_by, received, received_from}
use Rattle.rules.specs.Effects.{effect, suspended, resumed, yielded, delayed, taken, given}
use Rattle.rules.proofs.TableSlots.{passes_there, by_kind}
use Rattle.rules.proofs.MutexCases.{by_take, by_give}
use Rattle.rules.proofs.TableWithin.{first_meant, first_single, by_outlet}
use Rattle.rules.proofs.KeepSlot.{at_same, at_other}
use Rattle.rules.proofs.KeepObject.{kinds, kind_same, kind_other}
use Rattle.rules.proofs.TickJumps.{OnlyTurned, turned_only, turn_only}
use Rattle.rules.proofs.KeepTicks.{due_there}
use Rattle.rules.proofs.RowPasses.{Passed}
use Rattle.rows.specs.Applies.{names_none}
use Rattle.rules.proofs.LoanWorks.{worked_place, worked_same}
use Rattle.rules.proofs.EventCases.{by_bits, by_set, by_clear, by_await}
use Rattle.rules.specs.Steps.{after}
use Rattle.rules.specs.Events.{set_on, cleared_on, awaited_on}

-- what stands in a slot: 0 nothing, 1 a task, and 2 nothing ever after
abbrev pub stands : Place → ℕ
stands Free = 0
stands Ready = 1
stands (Delayed w) = 1
stands (Waiting o w) = 1
stands Suspended = 1
stands Spent = 2

abbrev pub stands_as : Kind → ℕ
stands_as Unused = 0
stands_as SpentObject = 2
stands_as (Queue q) = 1
stands_as (Mutex s h) = 1
stands_as (Group b) = 1

pub there_stands : (p : Place) → is_free p ≡ false → stands p ≡ 1
there_stands Free e = absurd (false≢true (sym e))
there_stands Ready e = refl
there_stands (Delayed w) e = refl
there_stands (Waiting o w) e = refl
there_stands Suspended e = refl
there_stands Spent e = absurd (false≢true (sym e))

pub stands_there : (p : Place) → stands p ≡ 1 → is_free p ≡ false
stands_there Free e = absurd (omega arith)
stands_there Ready e = refl
stands_there (Delayed w) e = refl
stands_there (Waiting o w) e = refl
stands_there Suspended e = refl
stands_there Spent e = absurd (omega arith)

pub used_stands : (x : Kind) → is_unused x ≡ false → stands_as x ≡ 1
used_stands Unused e = absurd (false≢true (sym e))
used_stands SpentObject e = absurd (false≢true (sym e))
used_stands (Queue q) e = refl
used_stands (Mutex s h) e = refl
used_stands (Group b) e = refl

pub stands_used : (x : Kind) → stands_as x ≡ 1 → is_unused x ≡ false
stands_used Unused e = absurd (omega arith)
stands_used SpentObject e = absurd (omega arith)
stands_used (Queue q) e = refl
stands_used (Mutex s h) e = refl
stands_used (Group b) e = refl

-- what holds of the stored task, and of every task as it was, holds of every task
pub each_task : (ts : List Task) (u : TaskSlot) (x : Task) (P : TaskSlot → Task → Type 0) → P u x → ((v : TaskSlot) → P v (task_at ts v)) → (v : TaskSlot) → P v (task_at (set ts u.0 x) v)
each_task ts u x P h o v = go (same_task v u) refl (ltb u.0 (length ts)) refl
  where
    go : (a : Bool) → same_task v u ≡ a → (b : Bool) → ltb u.0 (length ts) ≡ b → P v (task_at (set ts u.0 x) v)
    go true e true l = rw (one_number v u (eqb-true v.0 u.0 e), at_same ts u x (ltb-true u.0 (length ts) l)) h
    go true e false l = rw (set_out ts u.0 x (ltb-false u.0 (length ts) l)) (o v)
    go false e b l = rw (at_other ts u x v (eqb-false v.0 u.0 e)) (o v)

pub one_object : (x y : ObjSlot) → x.0 ≡ y.0 → x ≡ y
one_object x y e = λ i. record { 0 = e i }

-- and of every object
pub each_kind : (os : List Object) (o : ObjSlot) (y : Kind) (P : ObjSlot → Kind → Type 0) → P o y → ((p : ObjSlot) → P p (kind_at os p)) → (p : ObjSlot) → P p (kind_at (kinds os o y) p)
each_kind os o y P h s p = go (same_object p o) refl (ltb o.0 (length os)) refl
  where
    go : (a : Bool) → same_object p o ≡ a → (b : Bool) → ltb o.0 (length os) ≡ b → P p (kind_at (kinds os o y) p)
    go true e true l = rw (one_object p o (eqb-true p.0 o.0 e), kind_same os o y (ltb-true o.0 (length os) l)) h
    go true e false l = rw (set_out os o.0 (record { kind = y }) (ltb-false o.0 (length os) l)) (s p)
    go false e b l = rw (kind_other os o y p (eqb-false p.0 o.0 e)) (s p)

-- the same slots are taken, and the same are spent
pub record Stays (k j : State) : Type 0 where
  pub tasks : (t : TaskSlot) → stands (task_at j.tasks t).place ≡ stands (task_at k.tasks t).place
  pub objects : (o : ObjSlot) → stands_as (kind_at j.objects o) ≡ stands_as (kind_at k.objects o)

pub stays : {k : State} → Stays k k
stays = record { tasks = λ t. refl; objects = λ o. refl }

pub onward : {k j i : State} → Stays k j → Stays j i → Stays k i
onward a b = record { tasks = λ t. b.tasks t ∙ a.tasks t; objects = λ o. b.objects o ∙ a.objects o }

-- ── the building blocks
task_stays : (k : State) (t : TaskSlot) (x : Task) → stands x.place ≡ stands (task_at k.tasks t).place → Stays k (with_task k t x)
task_stays k t x e =
    record { tasks = each_task k.tasks t x (λ v y. stands y.place ≡ stands (task_at k.tasks v).place) e (λ v. refl); objects = λ o. refl }

object_stays : (k : State) (o : ObjSlot) (y : Kind) → stands_as y ≡ stands_as (kind_at k.objects o) → Stays k (with_object k o y)
object_stays k o y e =
    record { tasks = λ t. refl; objects = each_kind k.objects o y (λ p x. stands_as x ≡ stands_as (kind_at k.objects p)) e (λ p. refl) }

pub arrives_stays : (k : State) (t : TaskSlot) (p : Place) (n : ℕ) → is_free p ≡ false → is_free (task_at k.tasks t).place ≡ false → Stays k (arrives k t p n)
unfolding arrives to_tail
arrives_stays k t p n a b =
    let s = task_stays k t (placed (task_at k.tasks t) p n) (there_stands p a ∙ sym (there_stands (task_at k.tasks t).place b)) in
    record { tasks = s.tasks; objects = λ o. refl }

wait_stays : (k : State) (o : ObjSlot) (x : Want) (w : ℕ) → is_free (task_at k.tasks k.running).place ≡ false → Stays k (wait_for k o x w)
unfolding wait_for
wait_stays k o x w e = arrives_stays k k.running (Waiting (wait_on o x) (wake_of k.tick w)) 0 refl e

pub worked_stays : (k : State) → Stays k (worked_out k)
worked_stays k =
    record { tasks = λ t. ap stands (worked_place k t); objects = λ o. ap (λ os. stands_as (kind_at os o)) (worked_same k).objects }

-- ── ticks
woken_stays : (k : State) (t : TaskSlot) → Stays k (woken_if_due k t)
unfolding woken_if_due
woken_stays k t = go (wakes_at k.tick (task_at k.tasks t).place) refl
  where
    go : (b : Bool) → wakes_at k.tick (task_at k.tasks t).place ≡ b → Stays k (if b then arrives k t Ready (outcome_due (task_at k.tasks t).place) else k)
    go true e = arrives_stays k t Ready _ refl (due_there k.tick (task_at k.tasks t).place e)
    go false e = stays

wakes_stay : (l : List TaskSlot) (k : State) → Stays k (foldl woken_if_due k l)
unfolding foldl
wakes_stay [] k = stays
wakes_stay (t ∷ l) k = onward (woken_stays k t) (wakes_stay l (woken_if_due k t))

tick_stays : (k : State) → Stays k (one_tick k)
unfolding one_tick counted_on wakes
tick_stays k =
    let s = wakes_stay (begun k.tasks (listed k.order)) (with_tick k (later k.tick 1)) in
    onward (record { tasks = s.tasks; objects = s.objects }) (worked_stays (counted_on k))

turned_stays : {k j : State} → OnlyTurned k j → Stays k j
turned_stays o = record { tasks = λ t. ap (λ (ts : List Task). stands (task_at ts t).place) o.tasks; objects = λ b. ap (λ (os : List Object). stands_as (kind_at os b)) o.objects }

ticks_stay : (b : Bool) (n : ℕ) (k : State) → Stays k (ticks b n k)
unfolding ticks up_to
ticks_stay b zero k = stays
ticks_stay b (suc n) k = onward (ticks_stay b n k) (onward (tick_stays (ticks b n k)) (turned_stays (turn_only b (one_tick (ticks b n k)))))

pub ticked_stays : (k : State) → Stays k (ticked k)
unfolding ticked
ticked_stays k = go (ltb 0 k.hold)
  where
    go : (b : Bool) → Stays k (if b then with_hold k k.hold (k.pended + 1) else turned (one_tick k))
    go true = record { tasks = λ t. refl; objects = λ o. refl }
    go false = onward (tick_stays k) (turned_stays (turned_only (one_tick k)))

pub released_stays : (k : State) → Stays k (released k)
unfolding released
released_stays k = go (eqb k.hold 1)
  where
    s : Stays (with_hold k 0 0) (ticks false k.pended (with_hold k 0 0))
    s = ticks_stay false k.pended (with_hold k 0 0)

    go : (b : Bool) → Stays k (if b then ticks false k.pended (with_hold k 0 0) else with_hold k (k.hold - 1) k.pended)
    go true = record { tasks = s.tasks; objects = s.objects }
    go false = record { tasks = λ t. refl; objects = λ o. refl }

pub advanced_stays : (k : State) (n : ℕ) → Stays k (advanced k n)
unfolding advanced
advanced_stays k n = ticks_stay true n k

-- ── the calls
module _ (k : State) (S : Sound k) where
  caller_there : is_free (task_at k.tasks k.running).place ≡ false
  caller_there = ap is_free S.running.runs.ready

  first_there : (o : ObjSlot) (t : TaskSlot) (l : List TaskSlot) → first k (waiters_of o) ≡ t ∷ l → is_free (task_at k.tasks t).place ≡ false
  first_there o t l e = passes_there (waits_on o) (task_at k.tasks t).place refl refl (first_meant k (waiters_of o) t (first_single k (waiters_of o) t l e))

  pub yielded_stays : Stays k (yielded k)
  unfolding yielded to_tail
  yielded_stays = record { tasks = λ t. refl; objects = λ o. refl }

  pub delayed_stays : (n : ℕ) → Stays k (delayed k n)
  unfolding delayed
  delayed_stays n = go (eqb n 0)
    where
      go : (b : Bool) → Stays k (if b then yielded k else arrives k k.running (Delayed (later k.tick n)) 0)
      go true = yielded_stays
      go false = arrives_stays k k.running (Delayed (later k.tick n)) 0 refl caller_there

  pub suspended_stays : (t : TaskSlot) → is_free (task_at k.tasks t).place ≡ false → Stays k (suspended k t)
  unfolding suspended leaves
  suspended_stays t e = go (is_listed (task_at k.tasks t).place)
    where
      s : Stays k (with_task k t (broken_off (task_at k.tasks t)))
      s = task_stays k t (broken_off (task_at k.tasks t)) (sym (there_stands (task_at k.tasks t).place e))

      go : (b : Bool) → Stays k (if b then leaves (with_task k t (broken_off (task_at k.tasks t))) t else k)
      go true = record { tasks = s.tasks; objects = s.objects }
      go false = stays

  -- a queue stays a queue
  module _ (o : ObjSlot) (q : Ring) (w : ℕ) (kind : kind_at k.objects o ≡ Queue q) where
    queue_stays : (r : Ring) → Stays k (with_object k o (Queue r))
    queue_stays r = object_stays k o (Queue r) (sym (ap stands_as kind))

    sent_stays : Stays k (sent k o q w)
    unfolding sent
    sent_stays =
        by_outlet k o q (λ x. Stays k (sent_by k o q w x)) (λ t e. arrives_stays k t Ready 1 refl (first_there o t [] e)) (queue_stays _) (wait_stays k o OwnTurn w caller_there)

    received_stays : Stays k (received k o q w)
    unfolding received
    received_stays = go (eqb q.count 0) (first k (waiters_of o)) refl
      where
        go : (b : Bool) (l : List TaskSlot) → first k (waiters_of o) ≡ l → Stays k (if b then wait_for k o OwnTurn w else refilled_by k o (one_less q) l)
        go true l e = wait_stays k o OwnTurn w caller_there
        go false [] e = queue_stays _
        go false (t ∷ l) e = onward (queue_stays _) (arrives_stays (with_object k o (Queue _)) t Ready 1 refl (first_there o t l e))

  pub send_stays : (o : ObjSlot) (w : ℕ) → Stays k (sent_to k o (kind_at k.objects o) w)
  send_stays o w = by_kind (kind_at k.objects o) (λ x. Stays k (sent_to k o x w)) stays stays (λ q e. sent_stays o q w e) (λ s h e. stays) (λ b e. stays)

  pub receive_stays : (o : ObjSlot) (w : ℕ) → Stays k (received_from k o (kind_at k.objects o) w)
  receive_stays o w = by_kind (kind_at k.objects o) (λ x. Stays k (received_from k o x w)) stays stays (λ q e. received_stays o q w e) (λ s h e. stays) (λ b e. stays)

  -- a mutex stays a mutex
  mutex_stays : (o : ObjSlot) {s : Sort} {h : Holder} (j : State) (m : Sort) (i : Holder) → kind_at k.objects o ≡ Mutex s h → Stays k j → Stays k (with_object j o (Mutex m i))
  mutex_stays o j m i e t = onward t (object_stays j o (Mutex m i) (sym (t.objects o ∙ ap stands_as e)))

  pub take_stays : (o : ObjSlot) (w : ℕ) → Stays k (taken k o w)
  take_stays o w = by_take k o (Stays k) w (λ m. stays) (λ s e. mutex_stays o k _ _ e stays) (λ s e. mutex_stays o k _ _ e stays) (λ s h e d. wait_stays k o OwnTurn w caller_there)

  pub give_stays : (o : ObjSlot) → Stays k (given k o)
  give_stays o =
      by_give k o (Stays k) (λ m. stays) (λ s h e m. mutex_stays o k _ _ e stays) (λ s h e m q. mutex_stays o k _ _ e stays)
      (λ s h e m t l q. mutex_stays o (arrives k t Ready 1) _ _ e (arrives_stays k t Ready 1 refl (first_there o t l q)))

  -- a group stays a group
  group_stays : (o : ObjSlot) (b : ℕ) (kind : kind_at k.objects o ≡ Group b) (j : State) → Stays k j → (c : ℕ) → Stays k (with_object j o (Group c))
  group_stays o b kind j s c = onward s (object_stays j o (Group c) (sym (s.objects o ∙ ap stands_as kind)))

  woken_there : (o : ObjSlot) (b : ℕ) (j : State) (t : TaskSlot) → first j (those_satisfied_on o b) ≡ t ∷ [] → is_free (task_at j.tasks t).place ≡ false
  woken_there o b j t e = passes_there (satisfied_on o b) (task_at j.tasks t).place refl refl (first_meant j (those_satisfied_on o b) t e)

  pub set_stays : (o : ObjSlot) (m : ℕ) → Stays k (set_on k o (kind_at k.objects o) m)
  set_stays o m =
      by_set k o (Stays k) (λ e. stays) m
      (λ b e. by_bits o (bit_or b m) (Stays k) (λ j t s f. onward s (arrives_stays j t Ready 1 refl (woken_there o (bit_or b m) j t f))) (λ j c s. group_stays o b e j s c) k stays)

  pub clear_stays : (o : ObjSlot) (m : ℕ) → Stays k (cleared_on k o (kind_at k.objects o) m)
  clear_stays o m = by_clear k o (Stays k) (λ e. stays) m (λ b e. group_stays o b e k stays _)

  pub await_stays : (o : ObjSlot) (x : Want) (w : ℕ) → Stays k (awaited_on k o (kind_at k.objects o) x w)
  await_stays o x w = by_await k o (Stays k) (λ e. stays) x w (λ b e q. group_stays o b e k stays _) (λ b e q. wait_stays k o x w caller_there)

-- ── every call
-- the calls that take a slot or give one up
abbrev pub changes_slots : Call → Bool
changes_slots (Create p) = true
changes_slots (Delete t) = true
changes_slots (Suspend t) = false
changes_slots (Resume t) = false
changes_slots (SetPriority t p) = false
changes_slots (Delay n) = false
changes_slots Yield = false
changes_slots Hold = false
changes_slots Release = false
changes_slots (MakeQueue c z) = true
changes_slots MakeMutex = true
changes_slots (Remove o) = true
changes_slots (Send o w) = false
changes_slots (Receive o w) = false
changes_slots (Take o w) = false
changes_slots (Give o) = false
changes_slots Tick = false
changes_slots (Advance n) = false
changes_slots MakeRecursive = true
changes_slots MakeGroup = true
changes_slots (SetBits o m) = false
changes_slots (ClearBits o m) = false
changes_slots (Await o m a c w) = false

pub effect_stays : (k : State) → Sound k → (n : ℕ) (c : Call) → changes_slots c ≡ false → Passed k (asked k.uses c) n → Stays k (effect k (asked k.uses c))
unfolding effect asked names_none resumed new_priority held
effect_stays k S n (Create p) x P = absurd (false≢true (sym x))
effect_stays k S n (Delete t) x P = absurd (false≢true (sym x))
effect_stays k S n (Suspend t) x P = suspended_stays k S (task_slot k.uses t) P.named
effect_stays k S n (Resume t) x P = arrives_stays k (task_slot k.uses t) Ready _ refl P.named
effect_stays k S n (SetPriority t p) x P = task_stays k (task_slot k.uses t) _ refl
effect_stays k S n (Delay d) x P = delayed_stays k S d
effect_stays k S n Yield x P = yielded_stays k S
effect_stays k S n Hold x P = record { tasks = λ t. refl; objects = λ o. refl }
effect_stays k S n Release x P = released_stays k
effect_stays k S n (MakeQueue c z) x P = absurd (false≢true (sym x))
effect_stays k S n MakeMutex x P = absurd (false≢true (sym x))
effect_stays k S n (Remove o) x P = absurd (false≢true (sym x))
effect_stays k S n (Send o w) x P = send_stays k S (obj_slot k.uses o) w
effect_stays k S n (Receive o w) x P = receive_stays k S (obj_slot k.uses o) w
effect_stays k S n (Take o w) x P = take_stays k S (obj_slot k.uses o) w
effect_stays k S n (Give o) x P = give_stays k S (obj_slot k.uses o)
effect_stays k S n Tick x P = ticked_stays k
effect_stays k S n (Advance d) x P = advanced_stays k d
effect_stays k S n MakeRecursive x P = absurd (false≢true (sym x))
effect_stays k S n MakeGroup x P = absurd (false≢true (sym x))
effect_stays k S n (SetBits o m) x P = set_stays k S (obj_slot k.uses o) m
effect_stays k S n (ClearBits o m) x P = clear_stays k S (obj_slot k.uses o) m
effect_stays k S n (Await o m a c w) x P = await_stays k S (obj_slot k.uses o) _ w

-- the effective priorities worked out, too
pub after_stays : (k : State) → Sound k → (n : ℕ) (c : Call) → changes_slots c ≡ false → Passed k (asked k.uses c) n → Stays k (after k (asked k.uses c))
unfolding after
after_stays k S n c x P = onward (effect_stays k S n c x P) (worked_stays (effect k (asked k.uses c)))
