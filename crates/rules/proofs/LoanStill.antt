-- "a step that changes no own priority, holder or wait on a mutex changes no effective one": of all but five calls, after which the effective priorities need not be worked out.
use Rattle.calls.specs.Door.{task_slot, obj_slot, last_in}
use Prim.Native.Nat.{ℕ, ◌+◌, ◌-◌, ◌<◌}
use mathlib.Core.Path.{◌≡◌, refl, sym, ap, ◌∙◌, subst}
use mathlib.Core.Bool.{Bool, true, false, false≢true, ◌&&◌}
use mathlib.Core.List.{List, [], ◌∷◌}
use lib.Dec.{eqb, ltb}
use lib.ListN.{get_or, set, length, length-set}
use lib.Bits.{bit_or}
use borrow.Author.Tests.{eqb-true, eqb-false}
use Rattle.std.proofs.Common.{if◌then◌else◌}
use Rattle.numbers.specs.Numbers.{task, object, same_object}
use Rattle.slots.specs.Places.{waits_on, is_waiting, is_suspended, is_free, wakes_at, outcome_due}
use Rattle.slots.specs.Kinds.{kind_at, is_taken, hands, by_whom, holder_of, is_held}
use Rattle.slots.specs.Wants.{wait_on, satisfied_on}
use Rattle.slots.specs.Values.{placed, task_at, ready_at}
use Rattle.rules.specs.Types.{Call, Create, Delete, Suspend, Resume, SetPriority, Delay, Yield, Hold, Release, MakeQueue, MakeMutex, Remove, Send, Receive, Take, Give, Tick, Advance, MakeRecursive, MakeGroup, SetBits, ClearBits, Await, Want, Wait, OwnTurn, Group, those_satisfied_on}
use Rattle.rules.specs.Types.{TaskSlot, ObjSlot, Place, Free, Ready, Delayed, Waiting, Suspended, Spent, Task, Ring, Kind, Queue, Object, waiters_of, State, Holder, Nobody, By, Wake, Unused, SpentObject}
use Rattle.rules.specs.Tables.{with_object, with_hold, free_slot, free_object}
use Rattle.rules.specs.Lines.{level, first, to_tail}
use Rattle.rules.specs.Loans.{for_whom, waits_for, Reckoned, ruled}
use Rattle.rules.specs.Waits.{later, wake_of, arrives, wait_for}
use Rattle.rules.specs.Rings.{one_more, one_less}
use Rattle.rules.specs.Queues.{sent_by, sent, sent_to, refilled_by, received, received_from}
use Rattle.rules.specs.Ticks.{woken_if_due, wakes, one_tick, turned, ticked, ticks, released, advanced, held}
use Rattle.rules.specs.Effects.{yielded, delayed, resumed, effect, created, queue_made, mutex_made, removed}
use Rattle.rules.specs.Sentences.{Sound, Reaches, HoldsNothing, along, itself, LargestOwn}
use Rattle.rules.proofs.TableSlots.{by_kind}
use Rattle.rules.proofs.TableWithin.{first_meant, first_single, by_outlet}
use Rattle.rules.proofs.LoanRule.{ruled_same, fewer_reach, alone_own, largest_one, ruled_rule}
use Rattle.rules.proofs.KeepSlot.{like_before, at_other, at_same}
use Rattle.rules.proofs.KeepObject.{kinds}
use Rattle.rules.proofs.KeepTaken.{each_kind}
use Rattle.rules.proofs.KeepChosen.{sound_reckoned}
use Rattle.rules.proofs.KeepTicks.{ticks_reckoned}
use Rattle.rules.proofs.TickJumps.{turned_only, only_reckoned}
use Rattle.lists.specs.Lists.{up_to, foldl}
use Rattle.rules.proofs.RowPasses.{Passed}
use Rattle.calls.specs.Behind.{nothing, asked}
use Rattle.rules.specs.Steps.{may_lend}
use Rattle.order.proofs.Passing.{one_number}
use Rattle.rules.proofs.KeepTasks.{is_free_lem, has_slot}
use Rattle.rows.specs.Applies.{none_free, not_suspended}
use native.Mathlib.Omega.{arith}
use Rattle.rules.specs.Refusals.{in_use, held_or_waited}
use Rattle.rules.specs.Events.{group_made, bits_set, set_on, cleared_on, awaited_on}
use Rattle.lists.proofs.Bools.{on, or_off, and_left}
use Rattle.rules.proofs.KeepObjects.{free_kind, free_low}
use Rattle.rules.proofs.EventCases.{by_bits, by_set, by_clear, by_await}

-- ── the rule looks at owns and at whom each waits for
-- the same of both, and the same effective priorities
pub still_reckoned : (ts us : List Task) (os ps : List Object) → Reckoned ts os → ((t : TaskSlot) → (task_at us t).own ≡ (task_at ts t).own) → ((t : TaskSlot) → waits_for us ps t ≡ waits_for ts os t)
    → ((t : TaskSlot) → level us t ≡ level ts t) → Reckoned us ps
still_reckoned ts us os ps R e f g t h = g t ∙ R t h ∙ ap (λ ls. get_or ls t.0 0) (sym (ruled_same us ts ps os (λ v l. e v) (λ v l. f v)))

module _ (k : State) (R : Reckoned k.tasks k.objects) where
  -- a task that goes to another place and waits for the same, or for nobody still
  pub placed_reckoned : (t : TaskSlot) (p : Place) (n : ℕ) → for_whom k.objects p ≡ waits_for k.tasks k.objects t → Reckoned (arrives k t p n).tasks (arrives k t p n).objects
  unfolding arrives to_tail
  placed_reckoned t p n e =
      let x = placed (task_at k.tasks t) p n in
      let us = set k.tasks t.0 x in
      still_reckoned k.tasks us k.objects k.objects R (like_before k.tasks t x (λ (y : Task). y.own) refl)
      (like_before k.tasks t x (λ (y : Task). for_whom k.objects y.place) e)
      (like_before k.tasks t x (λ (y : Task). y.effective) refl)

  -- an object that nobody holds, before and after
  pub object_reckoned : (o : ObjSlot) (y : Kind) → holder_of y ≡ holder_of (kind_at k.objects o) → Reckoned k.tasks (kinds k.objects o y)
  object_reckoned o y e =
      still_reckoned k.tasks k.tasks k.objects (kinds k.objects o y) R (λ t. refl) (λ t. waits (task_at k.tasks t).place) (λ t. refl)
    where
      same : (q : ObjSlot) → holder_of (kind_at (kinds k.objects o y) q) ≡ holder_of (kind_at k.objects q)
      same = each_kind k.objects o y (λ q x. holder_of x ≡ holder_of (kind_at k.objects q)) e (λ q. refl)

      waits : (p : Place) → for_whom (kinds k.objects o y) p ≡ for_whom k.objects p
      waits Free = refl
      waits Ready = refl
      waits (Delayed w) = refl
      waits (Waiting y w) = same y.object
      waits Suspended = refl
      waits Spent = refl

-- ── wakes by which no wait ends: whoever was delayed waits for nobody, before and after
pub wakes_reckoned : (l : List TaskSlot) (k : State) → Reckoned k.tasks k.objects
    → ((t : TaskSlot) → (is_waiting (task_at k.tasks t).place && wakes_at k.tick (task_at k.tasks t).place) ≡ false) → Reckoned (wakes k l).tasks (wakes k l).objects
unfolding wakes foldl woken_if_due arrives to_tail
wakes_reckoned [] k R f = R
wakes_reckoned (t ∷ l) k R f = go (wakes_at k.tick (task_at k.tasks t).place) refl (wakes_reckoned l ready) (wakes_reckoned l k R f)
  where
    ready : State
    ready = arrives k t Ready (outcome_due (task_at k.tasks t).place)

    Ends : State → Type 0
    Ends z = Reckoned (foldl woken_if_due z l).tasks (foldl woken_if_due z l).objects

    Going : State → Type 0
    Going z = Reckoned z.tasks z.objects → ((u : TaskSlot) → (is_waiting (task_at z.tasks u).place && wakes_at k.tick (task_at z.tasks u).place) ≡ false) → Ends z

    for_none : (p : Place) → wakes_at k.tick p ≡ true → (is_waiting p && wakes_at k.tick p) ≡ false → for_whom k.objects p ≡ task 16
    for_none Free e g = refl
    for_none Ready e g = refl
    for_none (Delayed w) e g = refl
    for_none (Waiting o w) e g = absurd (false≢true (sym g ∙ e))
    for_none Suspended e g = refl
    for_none Spent e g = refl

    none_still : (u : TaskSlot) → (is_waiting (task_at ready.tasks u).place && wakes_at k.tick (task_at ready.tasks u).place) ≡ false
    none_still u =
        like_before k.tasks t (placed (task_at k.tasks t) Ready (outcome_due (task_at k.tasks t).place)) (λ (y : Task). is_waiting y.place && wakes_at k.tick y.place) (sym (f t)) u ∙ f u

    go : (b : Bool) → wakes_at k.tick (task_at k.tasks t).place ≡ b → Going ready → Ends k → Ends (if b then ready else k)
    go true e g h = g (placed_reckoned k R t Ready (outcome_due (task_at k.tasks t).place) (sym (for_none (task_at k.tasks t).place e (f t)))) none_still
    go false e g h = h

-- who waits on an object that is no mutex waits for nobody
for_nobody : (os : List Object) (o : ObjSlot) (p : Place) → waits_on o p ≡ true → holder_of (kind_at os o) ≡ task 16 → for_whom os p ≡ task 16
for_nobody os o Free e h = refl
for_nobody os o Ready e h = refl
for_nobody os o (Delayed w) e h = refl
for_nobody os o (Waiting y w) e h = ap (λ v. holder_of (kind_at os v)) (one_object y.object o (eqb-true y.object.0 o.0 e)) ∙ h
  where
    one_object : (x y : ObjSlot) → x.0 ≡ y.0 → x ≡ y
    one_object x y z = λ i. record { 0 = z i }
for_nobody os o Suspended e h = refl
for_nobody os o Spent e h = refl

-- whom the bits satisfy waits
pub met_waits : (o : ObjSlot) (b : ℕ) (p : Place) → satisfied_on o b p ≡ true → waits_on o p ≡ true
met_waits o b Free e = absurd (false≢true e)
met_waits o b Ready e = absurd (false≢true e)
met_waits o b (Delayed w) e = absurd (false≢true e)
met_waits o b (Waiting y w) e = and_left (same_object y.object o) _ e
met_waits o b Suspended e = absurd (false≢true e)
met_waits o b Spent e = absurd (false≢true e)

module _ (k : State) (S : Sound k) where
  abbrev R : Reckoned k.tasks k.objects
  R = sound_reckoned k S

  caller_for_nobody : waits_for k.tasks k.objects k.running ≡ task 16
  caller_for_nobody = ap (for_whom k.objects) S.running.runs.ready

  -- ── 6: delay; 7: yield
  pub yield_reckoned : Reckoned (yielded k).tasks (yielded k).objects
  unfolding yielded to_tail
  yield_reckoned = R

  pub delay_reckoned : (n : ℕ) → Reckoned (delayed k n).tasks (delayed k n).objects
  unfolding delayed
  delay_reckoned n = go (eqb n 0)
    where
      go : (b : Bool) → let j = if b then yielded k else arrives k k.running (Delayed (later k.tick n)) 0 in Reckoned j.tasks j.objects
      go true = yield_reckoned
      go false = placed_reckoned k R k.running (Delayed (later k.tick n)) 0 (sym caller_for_nobody)

  -- ── 13: send; 14: receive. A queue has no holder
  module _ (o : ObjSlot) (q : Ring) (w : ℕ) (kind : kind_at k.objects o ≡ Queue q) where
    no_holder : holder_of (kind_at k.objects o) ≡ task 16
    no_holder = ap holder_of kind

    waiter_woken : (t : TaskSlot) (l : List TaskSlot) → first k (waiters_of o) ≡ t ∷ l → waits_for k.tasks k.objects t ≡ task 16
    waiter_woken t l e = for_nobody k.objects o (task_at k.tasks t).place (first_meant k (waiters_of o) t (first_single k (waiters_of o) t l e)) no_holder

    caller_waits : Reckoned (wait_for k o OwnTurn w).tasks (wait_for k o OwnTurn w).objects
    unfolding wait_for
    caller_waits = placed_reckoned k R k.running (Waiting (wait_on o OwnTurn) (wake_of k.tick w)) 0 (no_holder ∙ sym caller_for_nobody)

    queue_reckoned : (r : Ring) → Reckoned k.tasks (kinds k.objects o (Queue r))
    queue_reckoned r = object_reckoned k R o (Queue r) (sym no_holder)

    sent_reckoned : Reckoned (sent k o q w).tasks (sent k o q w).objects
    unfolding sent
    sent_reckoned =
        by_outlet k o q (λ x. Reckoned (sent_by k o q w x).tasks (sent_by k o q w x).objects) (λ t e. placed_reckoned k R t Ready 1 (sym (waiter_woken t [] e))) (queue_reckoned (one_more q)) caller_waits

    received_reckoned : Reckoned (received k o q w).tasks (received k o q w).objects
    unfolding received
    received_reckoned = go (eqb q.count 0) (first k (waiters_of o)) refl
      where
        go : (b : Bool) (l : List TaskSlot) → first k (waiters_of o) ≡ l → let j = if b then wait_for k o OwnTurn w else refilled_by k o (one_less q) l in Reckoned j.tasks j.objects
        go true l e = caller_waits
        go false [] e = queue_reckoned (one_less q)
        go false (t ∷ l) e =
            let j = with_object k o (Queue (one_more (one_less q))) in
            placed_reckoned j (queue_reckoned (one_more (one_less q))) t Ready 1 (sym (waits_still (task_at k.tasks t).place (waiter_woken t l e)))
          where
            waits_still : (p : Place) → for_whom k.objects p ≡ task 16 → for_whom (kinds k.objects o (Queue (one_more (one_less q)))) p ≡ task 16
            waits_still Free z = refl
            waits_still Ready z = refl
            waits_still (Delayed v) z = refl
            waits_still (Waiting x v) z =
                each_kind k.objects o (Queue (one_more (one_less q))) (λ y c. holder_of (kind_at k.objects y) ≡ task 16 → holder_of c ≡ task 16) (λ h. refl) (λ y h. h) x.object z
            waits_still Suspended z = refl
            waits_still Spent z = refl

  pub send_reckoned : (o : ObjSlot) (w : ℕ) → let j = sent_to k o (kind_at k.objects o) w in Reckoned j.tasks j.objects
  send_reckoned o w = by_kind (kind_at k.objects o) (λ x. Reckoned (sent_to k o x w).tasks (sent_to k o x w).objects) R R (λ q e. sent_reckoned o q w e) (λ s h e. R) (λ b e. R)

  pub receive_reckoned : (o : ObjSlot) (w : ℕ) → let j = received_from k o (kind_at k.objects o) w in Reckoned j.tasks j.objects
  receive_reckoned o w = by_kind (kind_at k.objects o) (λ x. Reckoned (received_from k o x w).tasks (received_from k o x w).objects) R R (λ q e. received_reckoned o q w e) (λ s h e. R) (λ b e. R)

  -- ── 21 to 23: set, clear and wait. A group has no holder
  module _ (o : ObjSlot) (b : ℕ) (kind : kind_at k.objects o ≡ Group b) where
    -- on the way, the group has none either
    pub record Unlent (j : State) : Type 0 where
      pub reckoned : Reckoned j.tasks j.objects
      pub no_one : holder_of (kind_at j.objects o) ≡ task 16

    unlent : Unlent k
    unlent = record { reckoned = R; no_one = ap holder_of kind }

    bits_reckoned : (j : State) (c : ℕ) → Unlent j → Unlent (with_object j o (Group c))
    bits_reckoned j c U =
        record {
          reckoned = object_reckoned j U.reckoned o (Group c) (sym U.no_one);
          no_one = each_kind j.objects o (Group c) (λ p x. (p.0 ≡ o.0 → holder_of (kind_at j.objects p) ≡ task 16) → p.0 ≡ o.0 → holder_of x ≡ task 16) (λ f e. refl) (λ p f e. f e) o (λ e. U.no_one) refl;
        }

    set_unlent : (m : ℕ) → Unlent (bits_set k o m)
    unfolding arrives to_tail
    set_unlent m =
        by_bits o m Unlent
        (λ j t U e. record {
          reckoned = placed_reckoned j U.reckoned t Ready 1 (sym (for_nobody j.objects o (task_at j.tasks t).place (met_waits o m (task_at j.tasks t).place (first_meant j (those_satisfied_on o m) t e)) U.no_one));
          no_one = U.no_one;
        }) bits_reckoned k unlent

    await_reckoned : (x : Want) (w : ℕ) → Reckoned (wait_for k o x w).tasks (wait_for k o x w).objects
    unfolding wait_for
    await_reckoned x w = placed_reckoned k R k.running (Waiting (wait_on o x) (wake_of k.tick w)) 0 (ap holder_of kind ∙ sym caller_for_nobody)

  pub events_reckoned : (o : ObjSlot) (m : ℕ) → let j = set_on k o (kind_at k.objects o) m in Reckoned j.tasks j.objects
  events_reckoned o m = by_set k o (λ j. Reckoned j.tasks j.objects) (λ e. R) m (λ b e. (set_unlent o b e (bit_or b m)).reckoned)

  pub clear_reckoned : (o : ObjSlot) (m : ℕ) → let j = cleared_on k o (kind_at k.objects o) m in Reckoned j.tasks j.objects
  clear_reckoned o m = by_clear k o (λ j. Reckoned j.tasks j.objects) (λ e. R) m (λ b e. (bits_reckoned o b e k _ (unlent o b e)).reckoned)

  pub awaited_reckoned : (o : ObjSlot) (x : Want) (w : ℕ) → let j = awaited_on k o (kind_at k.objects o) x w in Reckoned j.tasks j.objects
  awaited_reckoned o x w = by_await k o (λ j. Reckoned j.tasks j.objects) (λ e. R) x w (λ b e q. (bits_reckoned o b e k _ (unlent o b e)).reckoned) (λ b e q. await_reckoned o b e x w)

  -- ── 9: release; 17: tick; 18: advance. They end with the effective priorities worked out
  pub ticked_reckoned : Reckoned (ticked k).tasks (ticked k).objects
  unfolding ticked ticks up_to
  ticked_reckoned = go (ltb 0 k.hold)
    where
      go : (b : Bool) → let j = if b then with_hold k k.hold (k.pended + 1) else turned (one_tick k) in Reckoned j.tasks j.objects
      go true = R
      go false = only_reckoned (turned_only (one_tick k)) (ticks_reckoned false 1 k S.tables.task_slots R).1

  pub released_reckoned : Reckoned (released k).tasks (released k).objects
  unfolding released
  released_reckoned = go (eqb k.hold 1)
    where
      go : (b : Bool) → let j = if b then ticks false k.pended (with_hold k 0 0) else with_hold k (k.hold - 1) k.pended in Reckoned j.tasks j.objects
      go true = (ticks_reckoned false k.pended (with_hold k 0 0) S.tables.task_slots R).1
      go false = R

  pub advanced_reckoned : (n : ℕ) → Reckoned (advanced k n).tasks (advanced k n).objects
  unfolding advanced
  advanced_reckoned n = (ticks_reckoned true n k S.tables.task_slots R).1

  -- ── 4: resume
  pub resume_reckoned : (t : TaskSlot) → is_suspended (task_at k.tasks t).place ≡ true → Reckoned (resumed k t).tasks (resumed k t).objects
  unfolding resumed
  resume_reckoned t e = placed_reckoned k R t Ready (task_at k.tasks t).outcome (sym (go (task_at k.tasks t).place e))
    where
      go : (p : Place) → is_suspended p ≡ true → for_whom k.objects p ≡ task 16
      go Free q = refl
      go Ready q = refl
      go (Delayed w) q = refl
      go (Waiting o w) q = absurd (false≢true q)
      go Suspended q = refl
      go Spent q = refl

  -- ── 10, 11, 19: make; 12: remove. Nobody holds the object, before or after
  unheld : (h : Holder) → is_taken h ≡ false → by_whom h ≡ task 16
  unheld Nobody e = refl
  unheld (By t) e = absurd (false≢true (sym e))

  pub made_reckoned : (o : ObjSlot) (y : Kind) → is_held y ≡ false → is_held (kind_at k.objects o) ≡ false → Reckoned k.tasks (kinds k.objects o y)
  made_reckoned o y a b = object_reckoned k R o y (unheld (hands y) a ∙ sym (unheld (hands (kind_at k.objects o)) b))

  -- ── 1: create. The new task holds nothing and waits for nobody
  module _ (n p : ℕ) (P : Passed k (nothing 1 p 0 1 0) n) where
    abbrev t : TaskSlot
    t = task (free_slot k.tasks)

    abbrev us : List Task
    us = set k.tasks t.0 (ready_at p)

    full : length us ≡ 16
    full = length-set k.tasks t.0 (ready_at p) ∙ S.tables.task_slots

    new_here : task_at us t ≡ ready_at p
    new_here = at_same k.tasks t (ready_at p) (has_slot k S n p P)

    others : (v : TaskSlot) → (v.0 ≡ t.0 → ⊥) → task_at us v ≡ task_at k.tasks v
    others v d = at_other k.tasks t (ready_at p) v d

    -- neither the free slot nor the new task waits
    no_wait : (q : Place) (y : Wait) (w : Wake) → is_free q ≡ true → q ≡ Waiting y w → ⊥
    no_wait q o w e f = false≢true (ap is_free (sym f) ∙ e)

    waits_as_before : (v : TaskSlot) (o : Wait) (w : Wake) → (task_at us v).place ≡ Waiting o w → (task_at k.tasks v).place ≡ Waiting o w
    waits_as_before v o w e = go (eqb v.0 t.0) refl
      where
        go : (b : Bool) → eqb v.0 t.0 ≡ b → (task_at k.tasks v).place ≡ Waiting o w
        go true q =
            let z : Ready ≡ Waiting o w = sym (ap (λ (x : Task). x.place) new_here) ∙ ap (λ u. (task_at us u).place) (sym (one_number v t (eqb-true v.0 t.0 q))) ∙ e in
            absurd (let y : ◌≡◌ {A = ℕ} 0 1 = cc in omega arith)
        go false q = ap (λ (x : Task). x.place) (sym (others v (eqb-false v.0 t.0 q))) ∙ e

    waits_then : (v : TaskSlot) (o : Wait) (w : Wake) → (task_at k.tasks v).place ≡ Waiting o w → (task_at us v).place ≡ Waiting o w
    waits_then v o w e = go (eqb v.0 t.0) refl
      where
        go : (b : Bool) → eqb v.0 t.0 ≡ b → (task_at us v).place ≡ Waiting o w
        go true q =
            absurd (no_wait (task_at k.tasks t).place o w (is_free_lem k S n p P) (ap (λ u. (task_at k.tasks u).place) (sym (one_number v t (eqb-true v.0 t.0 q))) ∙ e))
        go false q = ap (λ (x : Task). x.place) (others v (eqb-false v.0 t.0 q)) ∙ e

    -- so it reaches nobody but itself
    reaches_itself : {v : TaskSlot} → Reaches k.tasks k.objects t v → t ≡ v
    reaches_itself itself = refl
    reaches_itself (along o w e h r) = absurd (no_wait (task_at k.tasks t).place o w (is_free_lem k S n p P) e)

    others_own : {s v : TaskSlot} → (v.0 ≡ t.0 → ⊥) → Reaches k.tasks k.objects s v → (task_at us s).own ≡ (task_at k.tasks s).own
    others_own {s} {v} d r = go (eqb s.0 t.0) refl
      where
        go : (b : Bool) → eqb s.0 t.0 ≡ b → (task_at us s).own ≡ (task_at k.tasks s).own
        go true q =
            let z : s ≡ t = one_number s t (eqb-true s.0 t.0 q) in
            absurd (d (ap (λ (x : TaskSlot). x.0) (sym (reaches_itself (subst (λ x. Reaches k.tasks k.objects x v) z r)))))
        go false q = ap (λ (x : Task). x.own) (others s (eqb-false s.0 t.0 q))

    others_rule : (v : TaskSlot) → v.0 < 16 → (v.0 ≡ t.0 → ⊥) → LargestOwn us k.objects v (level k.tasks v)
    others_rule v h d =
        let L = S.levels.rule v h in
        record {
          at_least = λ s r. let q = fewer_reach k.tasks us k.objects waits_as_before r in omega (arith, L.at_least s q, others_own d q);
          whose = L.whose;
          reaches = fewer_reach us k.tasks k.objects waits_then L.reaches;
          own = others_own d L.reaches ∙ L.own;
        }

    new_nothing : HoldsNothing k.objects t
    new_nothing o h = false≢true (sym (S.tables.holders t o h) ∙ is_free_lem k S n p P)

    pub create_reckoned : Reckoned (created k p).tasks (created k p).objects
    unfolding created to_tail
    create_reckoned v h = go (eqb v.0 t.0) refl
      where
        go : (b : Bool) → eqb v.0 t.0 ≡ b → level us v ≡ get_or (ruled us k.objects) v.0 0
        go true q =
            let z : v ≡ t = one_number v t (eqb-true v.0 t.0 q) in
            let low : t.0 < 16 = omega (arith, has_slot k S n p P, S.tables.task_slots) in
            subst (λ x. level us x ≡ get_or (ruled us k.objects) x.0 0) (sym z)
            (ap (λ (x : Task). x.effective) new_here ∙ sym (alone_own us k.objects full t low new_nothing ∙ ap (λ (x : Task). x.own) new_here))
        go false q =
            let d = eqb-false v.0 t.0 q in
            ap (λ (x : Task). x.effective) (others v d) ∙ largest_one us k.objects v (level k.tasks v) (get_or (ruled us k.objects) v.0 0) (others_rule v h d) (ruled_rule us k.objects full v h)

-- ── every call
-- the calls that may change an own priority, a holder or a wait on a mutex: delete, suspend, set priority, take and give
pub settles : (k : State) → Sound k → (n : ℕ) (c : Call) → Passed k (asked k.uses c) n → may_lend (asked k.uses c) ≡ false
    → Reckoned (effect k (asked k.uses c)).tasks (effect k (asked k.uses c)).objects
unfolding effect asked may_lend held queue_made mutex_made group_made removed none_free not_suspended in_use held_or_waited
settles k S n (Create p) P e = create_reckoned k S n p P
settles k S n (Delete t) P e = absurd (false≢true (sym e))
settles k S n (Suspend t) P e = absurd (false≢true (sym e))
settles k S n (Resume t) P e = resume_reckoned k S (task_slot k.uses t) (on _ P.suspended)
settles k S n (SetPriority t p) P e = absurd (false≢true (sym e))
settles k S n (Delay d) P e = delay_reckoned k S d
settles k S n Yield P e = yield_reckoned k S
settles k S n Hold P e = sound_reckoned k S
settles k S n Release P e = released_reckoned k S
settles k S n (MakeQueue c z) P e = made_reckoned k S (object (free_object k.objects)) _ refl (ap is_held (free_kind k S n (free_low k S n P.slot)))
settles k S n MakeMutex P e = made_reckoned k S (object (free_object k.objects)) _ refl (ap is_held (free_kind k S n (free_low k S n P.slot)))
settles k S n (Remove o) P e = made_reckoned k S (obj_slot k.uses o) _ (gone (last_in k.uses.objects (obj_slot k.uses o).0)) (or_off (is_held (kind_at k.objects (obj_slot k.uses o))) _ P.unused).0
  where
    gone : (b : Bool) → is_held (if b then SpentObject else Unused) ≡ false
    gone true = refl
    gone false = refl
settles k S n (Send o w) P e = send_reckoned k S (obj_slot k.uses o) w
settles k S n (Receive o w) P e = receive_reckoned k S (obj_slot k.uses o) w
settles k S n (Take o w) P e = absurd (false≢true (sym e))
settles k S n (Give o) P e = absurd (false≢true (sym e))
settles k S n Tick P e = ticked_reckoned k S
settles k S n (Advance d) P e = advanced_reckoned k S d
settles k S n MakeRecursive P e = made_reckoned k S (object (free_object k.objects)) _ refl (ap is_held (free_kind k S n (free_low k S n P.slot)))
settles k S n MakeGroup P e = made_reckoned k S (object (free_object k.objects)) _ refl (ap is_held (free_kind k S n (free_low k S n P.slot)))
settles k S n (SetBits o m) P e = events_reckoned k S (obj_slot k.uses o) m
settles k S n (ClearBits o m) P e = clear_reckoned k S (obj_slot k.uses o) m
settles k S n (Await o m a c w) P e = awaited_reckoned k S (obj_slot k.uses o) _ w
