-- No call makes a circle: a take that no row turns away closes none, and every other call ends waits, or leaves them, or makes them be for someone who is ready.
use Prim.Native.Nat.{ℕ, ◌+◌, ◌-◌, ◌<◌}
use mathlib.Core.Path.{◌≡◌, refl, sym, ap, ◌∙◌}
use mathlib.Core.Logic.{◌⊎◌, inl, inr}
use mathlib.Core.Bool.{Bool, true, false, false≢true}
use mathlib.Core.List.{List, [], ◌∷◌}
use lib.Dec.{eqb, ltb}
use lib.ListN.{length, set, length-set}
use lib.Bits.{bit_or}
use borrow.Author.Tests.{ne_eqb}
use Rattle.std.proofs.Common.{if◌then◌else◌}
use Rattle.numbers.specs.Numbers.{task, object}
use Rattle.calls.specs.Door.{task_slot, obj_slot, last_in}
use Rattle.calls.specs.Behind.{asked}
use Rattle.slots.specs.Places.{is_listed}
use Rattle.slots.specs.Wants.{wait_on, cleared, clears}
use Rattle.slots.specs.Values.{free_task, spent_task, ready_at, broken_off, owned, placed, task_at}
use Rattle.slots.specs.Kinds.{count_of, counting, kind_at, held_by, holder_of}
use Rattle.rules.specs.Types.{Call, Create, Delete, Suspend, Resume, SetPriority, Delay, Yield, Hold, Release, MakeQueue, MakeMutex, Remove, Send, Receive, Take, Give, Tick, Advance, MakeRecursive, MakeGroup, SetBits, ClearBits, Await, Want, OwnTurn, Group}
use Rattle.rules.specs.Types.{TaskSlot, ObjSlot, Place, Free, Ready, Delayed, Waiting, Suspended, Spent, Task, Ring, Nobody, By, Sort, Ordinary, Recursive, Kind, Unused, SpentObject, Queue, Mutex, Object, waiters_of, State}
use Rattle.rules.specs.Tables.{with_task, with_object, with_hold, free_slot, free_object}
use Rattle.rules.specs.Lines.{first, to_tail, leaves}
use Rattle.rules.specs.Waits.{later, wake_of, arrives, wait_for}
use Rattle.rules.specs.Loans.{for_whom, waits_for, new_priority}
use Rattle.rules.specs.Circles.{leads_to, closes_circle}
use Rattle.rules.specs.Queues.{sent_by, sent, sent_to, refilled_by, received, received_from}
use Rattle.rules.specs.Rings.{one_more, one_less}
use Rattle.rules.specs.Ticks.{one_tick, turned, ticked, ticks, released, advanced, held}
use Rattle.rules.specs.Effects.{created, deleted, suspended, resumed, yielded, delayed, queue_made, mutex_made, removed, taken, given, effect}
use Rattle.rules.specs.Sentences.{NoCircle, Sound}
use Rattle.rules.specs.Events.{group_made, set_on, cleared_on, awaited_on}
use Rattle.rules.proofs.TableSlots.{by_kind}
use Rattle.rules.proofs.TableHolds.{no_circle_leads}
use Rattle.rules.proofs.MutexCases.{by_take, by_give}
use Rattle.rules.proofs.TableWithin.{first_within, first_single, by_outlet}
use Rattle.rules.proofs.RowPasses.{Passed}
use Rattle.rules.proofs.CircleRule.{reaches_leads, nobody_for_nobody, loosened, links_open}
use Rattle.rules.proofs.TickJumps.{turned_only, only_circles}
use Rattle.rules.proofs.KeepSlot.{at_same}
use Rattle.rules.proofs.KeepObject.{kinds}
use Rattle.rules.proofs.Keeps.{ready_low}
use Rattle.rules.proofs.KeepTicks.{tick_circles, ticks_circles}
use Rattle.rules.proofs.KeepTaken.{each_task, each_kind}
use Rattle.rules.proofs.EventCases.{by_bits, by_set, by_clear, by_await}

-- none in a kernel of sixteen tasks
pub record Uncircled (ts : List Task) (os : List Object) : Type 0 where
  pub full : length ts ≡ 16
  pub none : NoCircle ts os

abbrev pub UncircledIn : State → Type 0
UncircledIn k = Uncircled k.tasks k.objects

module _ {ts : List Task} {os : List Object} (C : Uncircled ts os) where
  -- ── a task that waits for nobody now, or for whom it waited
  pub task_uncircled : (t : TaskSlot) (x : Task) → (for_whom os x.place ≡ waits_for ts os t) ⊎ (for_whom os x.place ≡ task 16) → Uncircled (set ts t.0 x) os
  task_uncircled t x e =
      record { full = many; none = loosened ts us os os C.full many C.none (each_task ts t x Looser (changed e) (λ v. inl refl)) }
    where
      us : List Task
      us = set ts t.0 x

      many : length us ≡ 16
      many = length-set ts t.0 x ∙ C.full

      Looser : TaskSlot → Task → Type 0
      Looser v y = (for_whom os y.place ≡ waits_for ts os v) ⊎ (waits_for us os (for_whom os y.place) ≡ task 16)

      changed : (for_whom os x.place ≡ waits_for ts os t) ⊎ (for_whom os x.place ≡ task 16) → Looser t x
      changed (inl q) = inl q
      changed (inr q) = inr (ap (waits_for us os) q ∙ nobody_for_nobody us os many)

  -- ── an object whose holder waits for nobody, or is the one that it had
  pub object_uncircled : (o : ObjSlot) (y : Kind) → (holder_of y ≡ holder_of (kind_at os o)) ⊎ (waits_for ts (kinds os o y) (holder_of y) ≡ task 16) → Uncircled ts (kinds os o y)
  object_uncircled o y e = record { full = C.full; none = loosened ts ts os (kinds os o y) C.full C.full C.none (λ t. waits (task_at ts t).place) }
    where
      waits : (p : Place) → (for_whom (kinds os o y) p ≡ for_whom os p) ⊎ (waits_for ts (kinds os o y) (for_whom (kinds os o y) p) ≡ task 16)
      waits Free = inl refl
      waits Ready = inl refl
      waits (Delayed w) = inl refl
      waits (Waiting z w) = each_kind os o y (λ p x. (holder_of x ≡ holder_of (kind_at os p)) ⊎ (waits_for ts (kinds os o y) (holder_of x) ≡ task 16)) e (λ p. inl refl) z.object
      waits Suspended = inl refl
      waits Spent = inl refl

  -- one that nobody holds
  pub unheld_uncircled : (o : ObjSlot) (y : Kind) → holder_of y ≡ task 16 → Uncircled ts (kinds os o y)
  unheld_uncircled o y e = object_uncircled o y (inr (ap (waits_for ts (kinds os o y)) e ∙ nobody_for_nobody ts (kinds os o y) C.full))

arrives_uncircled : (k : State) → UncircledIn k → (t : TaskSlot) (p : Place) (n : ℕ) → for_whom k.objects p ≡ task 16 → UncircledIn (arrives k t p n)
unfolding arrives to_tail
arrives_uncircled k C t p n e = task_uncircled C t (placed (task_at k.tasks t) p n) (inr e)

module _ (k : State) (S : Sound k) where
  C : UncircledIn k
  C = record { full = S.tables.task_slots; none = S.circles }

  delay_uncircled : (n : ℕ) → UncircledIn (delayed k n)
  unfolding delayed yielded to_tail
  delay_uncircled n = go (eqb n 0)
    where
      go : (b : Bool) → UncircledIn (if b then yielded k else arrives k k.running (Delayed (later k.tick n)) 0)
      go true = C
      go false = arrives_uncircled k C k.running _ 0 refl

  delete_uncircled : (t : TaskSlot) (last : Bool) → UncircledIn (deleted k t last)
  unfolding deleted leaves
  delete_uncircled t last = task_uncircled C t (if last then spent_task else free_task) (inr (go last))
    where
      go : (b : Bool) → for_whom k.objects (if b then spent_task else free_task).place ≡ task 16
      go true = refl
      go false = refl

  suspend_uncircled : (t : TaskSlot) → UncircledIn (suspended k t)
  unfolding suspended leaves
  suspend_uncircled t = go (is_listed (task_at k.tasks t).place)
    where
      go : (b : Bool) → UncircledIn (if b then leaves (with_task k t (broken_off (task_at k.tasks t))) t else k)
      go true = task_uncircled C t (broken_off (task_at k.tasks t)) (inr refl)
      go false = C

  remove_uncircled : (o : ObjSlot) (last : Bool) → UncircledIn (removed k o last)
  unfolding removed
  remove_uncircled o last = unheld_uncircled C o (if last then SpentObject else Unused) (go last)
    where
      go : (b : Bool) → holder_of (if b then SpentObject else Unused) ≡ task 16
      go true = refl
      go false = refl

  -- ── a group has no holder
  set_uncircled : (o : ObjSlot) (m : ℕ) → UncircledIn (set_on k o (kind_at k.objects o) m)
  set_uncircled o m =
      by_set k o UncircledIn (λ e. C) m
      (λ b e. by_bits o (bit_or b m) UncircledIn (λ j t c f. arrives_uncircled j c t Ready 1 refl) (λ j n c. unheld_uncircled c o (Group n) refl) k C)

  clear_uncircled : (o : ObjSlot) (m : ℕ) → UncircledIn (cleared_on k o (kind_at k.objects o) m)
  clear_uncircled o m = by_clear k o UncircledIn (λ e. C) m (λ b e. unheld_uncircled C o (Group (cleared b m)) refl)

  await_uncircled : (o : ObjSlot) (x : Want) (w : ℕ) → UncircledIn (awaited_on k o (kind_at k.objects o) x w)
  unfolding wait_for
  await_uncircled o x w =
      by_await k o UncircledIn (λ e. C) x w (λ b e q. unheld_uncircled C o (Group (cleared b (clears x))) refl)
      (λ b e q. arrives_uncircled k C k.running (Waiting (wait_on o x) (wake_of k.tick w)) 0 (ap holder_of e))

  -- ── a queue has no holder
  module _ (o : ObjSlot) (q : Ring) (w : ℕ) (kind : kind_at k.objects o ≡ Queue q) where
    wait_uncircled : UncircledIn (wait_for k o OwnTurn w)
    unfolding wait_for
    wait_uncircled = arrives_uncircled k C k.running (Waiting (wait_on o OwnTurn) (wake_of k.tick w)) 0 (ap holder_of kind)

    sent_uncircled : UncircledIn (sent k o q w)
    unfolding sent
    sent_uncircled = by_outlet k o q (λ x. UncircledIn (sent_by k o q w x)) (λ t e. arrives_uncircled k C t Ready 1 refl) (unheld_uncircled C o (Queue (one_more q)) refl) wait_uncircled

    received_uncircled : UncircledIn (received k o q w)
    unfolding received
    received_uncircled = go (eqb q.count 0) (first k (waiters_of o))
      where
        go : (b : Bool) (l : List TaskSlot) → UncircledIn (if b then wait_for k o OwnTurn w else refilled_by k o (one_less q) l)
        go true l = wait_uncircled
        go false [] = unheld_uncircled C o (Queue (one_less q)) refl
        go false (t ∷ l) = arrives_uncircled (with_object k o (Queue (one_more (one_less q)))) (unheld_uncircled C o (Queue (one_more (one_less q))) refl) t Ready 1 refl

  send_uncircled : (o : ObjSlot) (w : ℕ) → UncircledIn (sent_to k o (kind_at k.objects o) w)
  send_uncircled o w = by_kind (kind_at k.objects o) (λ x. UncircledIn (sent_to k o x w)) C C (λ q e. sent_uncircled o q w e) (λ s h e. C) (λ b e. C)

  receive_uncircled : (o : ObjSlot) (w : ℕ) → UncircledIn (received_from k o (kind_at k.objects o) w)
  receive_uncircled o w = by_kind (kind_at k.objects o) (λ x. UncircledIn (received_from k o x w)) C C (λ q e. received_uncircled o q w e) (λ s h e. C) (λ b e. C)

  -- ── a mutex: the caller, who is ready, becomes its holder, or waits where the chain does not lead back to it
  pub take_uncircled : (o : ObjSlot) (w : ℕ)
      → (held_by k.running (kind_at k.objects o) ≡ false → leads_to k.tasks k.objects (holder_of (kind_at k.objects o)) k.running ≡ false) → UncircledIn (taken k o w)
  unfolding wait_for arrives to_tail
  take_uncircled o w free =
      by_take k o UncircledIn w (λ m. C) (λ s e. callers (counting s 1)) (λ s e. callers (counting s (count_of s + 1))) (λ s h e d. record {
        full = length-set k.tasks k.running.0 waiting ∙ C.full;
        none = links_open k.tasks k.objects C.full k.running low waiting C.none
            (λ r. false≢true (sym (free (ap (held_by k.running) e ∙ ne_eqb h.0 k.running.0 d))
            ∙ reaches_leads k.tasks k.objects C.full (holder_of (kind_at k.objects o)) k.running low r));
      })
    where
      callers : (s : Sort) → UncircledIn (with_object k o (Mutex s (By k.running)))
      callers s = object_uncircled C o (Mutex s (By k.running)) (inr (ap (for_whom (kinds k.objects o (Mutex s (By k.running)))) S.running.runs.ready))

      low : k.running.0 < 16
      low = ready_low k.tasks k.running C.full S.running.runs.ready

      waiting : Task
      waiting = placed (task_at k.tasks k.running) (Waiting (wait_on o OwnTurn) (wake_of k.tick w)) 0

  -- it stays its holder's; or the first waiter, now ready, becomes its holder, or nobody
  give_uncircled : (o : ObjSlot) → UncircledIn (given k o)
  unfolding arrives to_tail
  give_uncircled o =
      by_give k o UncircledIn (λ m. C) (λ s h e m. object_uncircled C o (Mutex (counting s (count_of s - 1)) h) (inl (sym (ap holder_of e))))
      (λ s h e m q. unheld_uncircled C o (Mutex (counting s 0) Nobody) refl)
      (λ s h e m t l q. object_uncircled (arrives_uncircled k C t Ready 1 refl) o (Mutex (counting s 1) (By t)) (inr (ready_now (counting s 1) t l q)))
    where
      ready_now : (s : Sort) (t : TaskSlot) (l : List TaskSlot) → first k (waiters_of o) ≡ t ∷ l → waits_for (arrives k t Ready 1).tasks (kinds k.objects o (Mutex s (By t))) t ≡ task 16
      ready_now s t l e =
          ap (λ (x : Task). for_whom (kinds k.objects o (Mutex s (By t))) x.place)
          (at_same k.tasks t (placed (task_at k.tasks t) Ready 1) (first_within k (waiters_of o) t (first_single k (waiters_of o) t l e)))

  -- ── ticks only end waits
  ticks_none : (b : Bool) (n : ℕ) (j : State) → j.tasks ≡ k.tasks → j.objects ≡ k.objects → NoCircle (ticks b n j).tasks (ticks b n j).objects
  ticks_none b n j e f = (ticks_circles b n j (rw e C.full) (rw (e, f) C.none)).1

  tick_none : NoCircle (ticked k).tasks (ticked k).objects
  unfolding ticked
  tick_none = go (ltb 0 k.hold)
    where
      go : (b : Bool) → let j = if b then with_hold k k.hold (k.pended + 1) else turned (one_tick k) in NoCircle j.tasks j.objects
      go true = C.none
      go false = only_circles (turned_only (one_tick k)) (tick_circles k C.full C.none)

  release_none : NoCircle (released k).tasks (released k).objects
  unfolding released
  release_none = go (eqb k.hold 1)
    where
      go : (b : Bool) → let j = if b then ticks false k.pended (with_hold k 0 0) else with_hold k (k.hold - 1) k.pended in NoCircle j.tasks j.objects
      go true = ticks_none false k.pended (with_hold k 0 0) refl refl
      go false = C.none

-- ── every call
pub effect_circles : (k : State) → Sound k → (n : ℕ) (c : Call) → Passed k (asked k.uses c) n → NoCircle (effect k (asked k.uses c)).tasks (effect k (asked k.uses c)).objects
unfolding effect asked closes_circle created resumed new_priority yielded held advanced queue_made mutex_made group_made to_tail
effect_circles k S n (Create p) P = (task_uncircled (C k S) (task (free_slot k.tasks)) (ready_at p) (inr refl)).none
effect_circles k S n (Delete t) P = (delete_uncircled k S (task_slot k.uses t) (last_in k.uses.tasks (task_slot k.uses t).0)).none
effect_circles k S n (Suspend t) P = (suspend_uncircled k S (task_slot k.uses t)).none
effect_circles k S n (Resume t) P = (arrives_uncircled k (C k S) (task_slot k.uses t) Ready _ refl).none
effect_circles k S n (SetPriority t p) P = (task_uncircled (C k S) (task_slot k.uses t) (owned (task_at k.tasks (task_slot k.uses t)) p) (inl refl)).none
effect_circles k S n (Delay d) P = (delay_uncircled k S d).none
effect_circles k S n Yield P = S.circles
effect_circles k S n Hold P = S.circles
effect_circles k S n Release P = release_none k S
effect_circles k S n (MakeQueue c z) P = (unheld_uncircled (C k S) (object (free_object k.objects)) _ refl).none
effect_circles k S n MakeMutex P = (unheld_uncircled (C k S) (object (free_object k.objects)) (Mutex Ordinary Nobody) refl).none
effect_circles k S n (Remove o) P = (remove_uncircled k S (obj_slot k.uses o) (last_in k.uses.objects (obj_slot k.uses o).0)).none
effect_circles k S n (Send o w) P = (send_uncircled k S (obj_slot k.uses o) w).none
effect_circles k S n (Receive o w) P = (receive_uncircled k S (obj_slot k.uses o) w).none
effect_circles k S n (Take o w) P =
    (take_uncircled k S (obj_slot k.uses o) w (λ e. no_circle_leads k.running (kind_at k.objects (obj_slot k.uses o)) _ e P.no_circle)).none
effect_circles k S n (Give o) P = (give_uncircled k S (obj_slot k.uses o)).none
effect_circles k S n Tick P = tick_none k S
effect_circles k S n (Advance d) P = ticks_none k S true d k refl refl
effect_circles k S n MakeRecursive P = (unheld_uncircled (C k S) (object (free_object k.objects)) (Mutex (Recursive 0) Nobody) refl).none
effect_circles k S n MakeGroup P = (unheld_uncircled (C k S) (object (free_object k.objects)) (Group 0) refl).none
effect_circles k S n (SetBits o m) P = (set_uncircled k S (obj_slot k.uses o) m).none
effect_circles k S n (ClearBits o m) P = (clear_uncircled k S (obj_slot k.uses o) m).none
effect_circles k S n (Await o m a c w) P = (await_uncircled k S (obj_slot k.uses o) _ w).none
