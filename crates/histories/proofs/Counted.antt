-- From the fresh kernel, over any history, the count of a held recursive mutex is the number of its holder's accepted takes since it became the holder's less the accepted gives.
use Prim.Native.Nat.{ℕ, ◌+◌, ◌-◌}
use mathlib.Core.Path.{◌≡◌, refl, sym, ap, subst, ◌∙◌}
use mathlib.Core.Logic.{◌⊎◌, inl, inr}
use mathlib.Core.Bool.{Bool, true, false, ◌&&◌, false≢true, and-false}
use mathlib.Core.List.{List, [], ◌∷◌}
use native.Mathlib.Omega.{arith}
use lib.Dec.{eqb}
use lib.Bits.{bit_or}
use lib.ListN.{length, replicate}
use borrow.Author.Tests.{eqb-true, eqb-false, eq-eqb, ne_eqb}
use Rattle.std.proofs.Common.{if◌then◌else◌}
use Rattle.lists.specs.Lists.{foldl, any, kept}
use Rattle.lists.proofs.Bools.{on}
use Rattle.numbers.specs.Numbers.{object, same_task, same_object}
use Rattle.calls.specs.declared.ObjNo.{ObjNo}
use Rattle.calls.specs.Door.{task_slot, obj_slot, last_in}
use Rattle.calls.specs.Behind.{asked}
use Rattle.slots.specs.Places.{waits_on}
use Rattle.slots.specs.Kinds.{unused, count_of, counting, is_unused, is_mutex, is_by, hands, held_by, is_held, kind_at}
use Rattle.rows.specs.Asking.{is}
use Rattle.rows.specs.Applies.{not_his}
use Rattle.rules.specs.Tables.{fresh, with_object, with_hold, free_object}
use Rattle.rules.specs.Lines.{first, chosen, to_tail, leaves}
use Rattle.rules.specs.Waits.{arrives, wait_for}
use Rattle.rules.specs.Loans.{new_priority, worked_out}
use Rattle.rules.specs.Sound.{sound}
use Rattle.rules.specs.Sentences.{KindFits, Sound}
use Rattle.rules.specs.Ticks.{held, ticks, released, advanced}
use Rattle.rules.specs.Rings.{one_more, one_less}
use Rattle.rules.specs.Queues.{sent_by, sent, sent_to, refilled_by, received, received_from}
use Rattle.rules.specs.Events.{group_made, set_on, cleared_on, awaited_on}
use Rattle.rules.specs.Effects.{created, deleted, resumed, yielded, queue_made, mutex_made, removed, taken, given, effect}
use Rattle.rules.specs.Steps.{Stepped, after, accepted, step}
use Rattle.rules.specs.Trace.{Moment, moment_of, trace, state_after, CallMade, step_made}
use Rattle.rules.proofs.SoundSays.{sound_says}
use Rattle.rules.proofs.TableSlots.{by_kind}
use Rattle.rules.proofs.TableWithin.{first_meant, first_single, by_outlet}
use Rattle.rules.proofs.TableHolds.{held_one}
use Rattle.rules.proofs.EventCases.{by_bits, by_set, by_clear, by_await}
use Rattle.rules.proofs.MutexCases.{callers_with, by_take, by_give}
use Rattle.rules.proofs.RowPasses.{Passed}
use Rattle.rules.proofs.Keeps.{apart}
use Rattle.rules.proofs.KeepTaken.{each_kind, one_object}
use Rattle.rules.proofs.KeepObject.{kind_same, kind_other}
use Rattle.rules.proofs.KeepObjects.{object_low}
use Rattle.rules.proofs.TickJumps.{chosen_only}
use Rattle.rules.proofs.KeepTasks.{suspended_same, delayed_same}
use Rattle.rules.proofs.KeepTicks.{ticks_aside, ticked_aside}
use Rattle.rules.proofs.LoanWorks.{worked_same}
use Rattle.rules.proofs.KeepEvery.{fresh-sound, step_kept}
use Rattle.promises.specs.History.{reached}
use Rattle.promises.specs.Recursive.{Has, GivesBack}
use Rattle.promises.proofs.Histories.{reached-sound}
use Rattle.promises.proofs.Recursive.{once_at_least, gives_back_so}
use Rattle.promises.proofs.Reaches.{program_reached}
use Rattle.promises.specs.Reached.{program_calls}
use Rattle.promises.specs.Program.{answering}
use Rattle.histories.specs.Types.{TaskSlot, ObjSlot, Want, OwnTurn, Ready, waiters_of, Ring, Holder, Nobody, By, Sort, Ordinary, Recursive, Kind, Unused, SpentObject, Queue, Mutex, Group, Object, State}
use Rattle.histories.specs.Types.{Call, Create, Delete, Suspend, Resume, SetPriority, Delay, Yield, Hold, Release, MakeQueue, MakeMutex, Remove, Send, Receive, Take, Give, Tick, Advance, MakeRecursive}
use Rattle.histories.specs.Types.{MakeGroup, SetBits, ClearBits, Await}
use Rattle.histories.specs.Moments.{onto}
use Rattle.histories.specs.Counted.{takes_it, gives_it, becomes_his, since, takes_since, gives_since, CountsTakes, GivesByHistory}
use Rattle.histories.proofs.NeverAgain.{step_cases, answered_accepts}
use Rattle.histories.proofs.UseCounts.{one, same_all, times_more}

-- ── what becomes of one object
-- it is what it was, or nobody holds it
abbrev Still : State → ObjSlot → State → Type 0
Still k o j = (kind_at j.objects o ≡ kind_at k.objects o) ⊎ (is_held (kind_at j.objects o) ≡ false)

-- one changed into what nobody holds
unheld_still : (k : State) (p : ObjSlot) (y : Kind) → is_held y ≡ false → (o : ObjSlot) → Still k o (with_object k p y)
unheld_still k p y e = each_kind k.objects p y (λ o x. (x ≡ kind_at k.objects o) ⊎ (is_held x ≡ false)) (inr e) (λ o. inl refl)

module _ (k : State) where
  released_objects : (released k).objects ≡ k.objects
  unfolding released
  released_objects = go (eqb k.hold 1)
    where
      go : (b : Bool) → (if b then ticks false k.pended (with_hold k 0 0) else with_hold k (k.hold - 1) k.pended).objects ≡ k.objects
      go true = (ticks_aside false k.pended (with_hold k 0 0)).objects
      go false = refl

  -- a queue stays one
  sent_still : (p : ObjSlot) (q : Ring) (w : ℕ) (o : ObjSlot) → Still k o (sent k p q w)
  unfolding sent arrives wait_for to_tail
  sent_still p q w o = by_outlet k p q (λ x. Still k o (sent_by k p q w x)) (λ t e. inl refl) (unheld_still k p (Queue (one_more q)) refl o) (inl refl)

  received_still : (p : ObjSlot) (q : Ring) (w : ℕ) (o : ObjSlot) → Still k o (received k p q w)
  unfolding received arrives wait_for to_tail
  received_still p q w o = go (eqb q.count 0) (first k (waiters_of p))
    where
      go : (b : Bool) (l : List TaskSlot) → Still k o (if b then wait_for k p OwnTurn w else refilled_by k p (one_less q) l)
      go true l = inl refl
      go false [] = unheld_still k p (Queue (one_less q)) refl o
      go false (t ∷ l) = unheld_still k p (Queue (one_more (one_less q))) refl o

  send_still : (p : ObjSlot) (w : ℕ) (o : ObjSlot) → Still k o (sent_to k p (kind_at k.objects p) w)
  send_still p w o = by_kind (kind_at k.objects p) (λ x. Still k o (sent_to k p x w)) (inl refl) (inl refl) (λ q e. sent_still p q w o) (λ s h e. inl refl) (λ b e. inl refl)

  receive_still : (p : ObjSlot) (w : ℕ) (o : ObjSlot) → Still k o (received_from k p (kind_at k.objects p) w)
  receive_still p w o = by_kind (kind_at k.objects p) (λ x. Still k o (received_from k p x w)) (inl refl) (inl refl) (λ q e. received_still p q w o) (λ s h e. inl refl) (λ b e. inl refl)

  -- so does a group
  group_still : (p : ObjSlot) (c : ℕ) (o : ObjSlot) (j : State) → Still k o j → Still k o (with_object j p (Group c))
  group_still p c o j = each_kind j.objects p (Group c) (λ q x. Still k q j → (x ≡ kind_at k.objects q) ⊎ (is_held x ≡ false)) (λ s. inr refl) (λ q s. s) o

  set_still : (p : ObjSlot) (m : ℕ) (o : ObjSlot) → Still k o (set_on k p (kind_at k.objects p) m)
  unfolding arrives to_tail
  set_still p m o = by_set k p (Still k o) (λ e. inl refl) m (λ b e. by_bits p (bit_or b m) (Still k o) (λ j t s f. s) (λ j c s. group_still p c o j s) k (inl refl))

  clear_still : (p : ObjSlot) (m : ℕ) (o : ObjSlot) → Still k o (cleared_on k p (kind_at k.objects p) m)
  clear_still p m o = by_clear k p (Still k o) (λ e. inl refl) m (λ b e. group_still p _ o k (inl refl))

  await_still : (p : ObjSlot) (x : Want) (w : ℕ) (o : ObjSlot) → Still k o (awaited_on k p (kind_at k.objects p) x w)
  unfolding wait_for arrives to_tail
  await_still p x w o = by_await k p (Still k o) (λ e. inl refl) x w (λ b e q. group_still p _ o k (inl refl)) (λ b e q. inl refl)

-- ── what becomes of the count
-- of a recursive mutex that the task t then has n times: it became the task's, and is had once; or it was the task's, and a take or a give by it was counted
data Follows (k : State) (t : TaskSlot) (o : ObjSlot) (takes gives : Bool) (n : ℕ) : Type 0 where
  newly : held_by t (kind_at k.objects o) ≡ false → n ≡ 1 → Follows k t o takes gives n
  onwards : (c : ℕ) → kind_at k.objects o ≡ Mutex (Recursive c) (By t) → n + one gives ≡ c + one takes → Follows k t o takes gives n

module _ (k : State) (S : Sound k) (t : TaskSlot) (o : ObjSlot) where
  -- in the kernel j
  abbrev FollowsIn : Bool → Bool → State → Type 0
  FollowsIn takes gives j = (n : ℕ) → kind_at j.objects o ≡ Mutex (Recursive n) (By t) → Follows k t o takes gives n

  -- where it is what it was, or nobody holds it, and nothing is counted
  still_follows : {takes gives : Bool} (j : State) → takes ≡ false → gives ≡ false → Still k o j → FollowsIn takes gives j
  still_follows j a b (inl e) n q = onwards n (sym e ∙ q) (rw (a, b))
  still_follows j a b (inr e) n q = absurd (false≢true (sym e ∙ ap is_held q))

  -- another object changed
  other_follows : {takes gives : Bool} (p : ObjSlot) (y : Kind) → same_object p o ≡ false → takes ≡ false → gives ≡ false → (j : State) → j.objects ≡ k.objects
      → FollowsIn takes gives (with_object j p y)
  other_follows p y d a b j e =
      still_follows (with_object j p y) a b
      (inl (kind_other j.objects p y o (λ z. eqb-false p.0 o.0 d (sym z)) ∙ ap (λ os. kind_at os o) e))

  -- ── the object that the call names
  changed : {s : Sort} {h : Holder} (j : State) (y : Kind) → j.objects ≡ k.objects → kind_at k.objects o ≡ Mutex s h → kind_at (with_object j o y).objects o ≡ y
  changed j y q e =
      kind_same j.objects o y (omega (arith, ap (length {A = Object}) q, S.tables.object_slots, object_low k.objects o S.tables.object_slots (ap is_unused e)))

  same_holder : (s : Sort) (h : Holder) {n : ℕ} → Mutex s h ≡ Mutex (Recursive n) (By t) → h ≡ By t
  same_holder s h e = ap hands e

  -- a recursive one, of which the count was set to c
  same_count : (s : Sort) (h : Holder) (c n : ℕ) → Mutex (counting s c) h ≡ Mutex (Recursive n) (By t) → n ≡ c
  same_count Ordinary h c n e = absurd (let z : ◌≡◌ {A = ℕ} 0 1 = cc in omega arith)
  same_count (Recursive m) h c n e = cc

  -- and what it was
  was_so : (s : Sort) (h : Holder) (c n : ℕ) → kind_at k.objects o ≡ Mutex s h → Mutex (counting s c) h ≡ Mutex (Recursive n) (By t) → kind_at k.objects o ≡ Mutex (Recursive (count_of s)) (By t)
  was_so Ordinary h c n e q = absurd (let z : ◌≡◌ {A = ℕ} 0 1 = cc in omega arith)
  was_so (Recursive m) h c n e q = e ∙ ap (Mutex (Recursive m)) (same_holder (Recursive c) h q)

  abbrev caller : TaskSlot
  caller = k.running

  his_own : By caller ≡ By t → eqb caller.0 t.0 ≡ true
  his_own e = eq-eqb caller.0 t.0 (let z : caller ≡ t = cc in ap (λ (u : TaskSlot). u.0) z)

  own_take : (w : ℕ) → FollowsIn (same_task caller t && true) false (taken k o w)
  unfolding wait_for arrives to_tail
  own_take w =
      by_take k o (FollowsIn (same_task caller t && true) false) w
      (λ m n q. absurd (false≢true (sym m ∙ ap is_mutex q)))
      (λ s e n q. newly (ap (held_by t) e) (same_count s (By caller) 1 n (sym (changed k (callers_with k s 1) refl e) ∙ q)))
      (λ s e n q.
      let z = sym (changed k (callers_with k s (count_of s + 1)) refl e) ∙ q in
      onwards (count_of s) (was_so s (By caller) (count_of s + 1) n e z)
      (rw (his_own (same_holder (counting s (count_of s + 1)) (By caller) z)) (omega (arith, same_count s (By caller) (count_of s + 1) n z))))
      (λ s h e d n q. onwards n q (rw (ne_eqb caller.0 t.0 (λ z. d (ap (λ (u : TaskSlot). u.0) (let y : By h ≡ By t = ap hands (sym e ∙ q) in let x : h ≡ t = cc in x) ∙ sym z)))))

  own_give : hands (kind_at k.objects o) ≡ By caller → FollowsIn false (same_task caller t && true) (given k o)
  unfolding arrives to_tail
  own_give own =
      by_give k o (FollowsIn false (same_task caller t && true))
      (λ m n q. absurd (false≢true (sym m ∙ ap is_mutex q)))
      (λ s h e m n q.
      let z = sym (changed k (Mutex (counting s (count_of s - 1)) h) refl e) ∙ q in
      onwards (count_of s) (was_so s h (count_of s - 1) n e z)
      (rw (his_own (sym own ∙ ap hands e ∙ same_holder (counting s (count_of s - 1)) h z)) (omega (arith, m, same_count s h (count_of s - 1) n z))))
      (λ s h e m f n q. absurd (let z : Nobody ≡ By t = ap hands (sym (changed k (Mutex (counting s 0) Nobody) refl e) ∙ q) in let y : ◌≡◌ {A = ℕ} 0 1 = cc in omega arith))
      (λ s h e m u l f n q.
      let z = sym (changed (arrives k u Ready 1) (Mutex (counting s 1) (By u)) refl e) ∙ q in
      newly
      (ap (is_by t) own ∙ ne_eqb caller.0 t.0 (λ y.
      apart k.tasks u caller (waits_on o) (first_meant k (waiters_of o) u (first_single k (waiters_of o) u l f)) (ap (waits_on o) S.running.runs.ready)
      (ap (λ (v : TaskSlot). v.0) (let x : By u ≡ By t = ap hands z in let v : u ≡ t = cc in v) ∙ sym y)))
      (same_count s (By u) 1 n z))

  -- ── any object
  take_follows : (p : ObjSlot) (w : ℕ) → FollowsIn (same_task caller t && same_object p o) false (taken k p w)
  unfolding wait_for arrives to_tail
  take_follows p w = go (same_object p o) refl
    where
      go : (b : Bool) → same_object p o ≡ b → FollowsIn (same_task caller t && b) false (taken k p w)
      go true e = subst (λ x. FollowsIn (same_task caller t && true) false (taken k x w)) (sym (one_object p o (eqb-true p.0 o.0 e))) (own_take w)
      go false e =
          let none = and-false (same_task caller t) in
          by_take k p (FollowsIn (same_task caller t && false) false) w (λ m. still_follows k none refl (inl refl)) (λ s q. other_follows p _ e none refl k refl)
          (λ s q. other_follows p _ e none refl k refl)
          (λ s h q d. still_follows (wait_for k p OwnTurn w) none refl (inl refl))

  give_follows : (p : ObjSlot) → hands (kind_at k.objects p) ≡ By caller → FollowsIn false (same_task caller t && same_object p o) (given k p)
  unfolding arrives to_tail
  give_follows p own = go (same_object p o) refl
    where
      go : (b : Bool) → same_object p o ≡ b → FollowsIn false (same_task caller t && b) (given k p)
      go true e =
          let z : p ≡ o = one_object p o (eqb-true p.0 o.0 e) in
          subst (λ x. FollowsIn false (same_task caller t && true) (given k x)) (sym z) (own_give (subst (λ x. hands (kind_at k.objects x) ≡ By caller) z own))
      go false e =
          let none = and-false (same_task caller t) in
          by_give k p (FollowsIn false (same_task caller t && false)) (λ m. still_follows k refl none (inl refl)) (λ s h q m. other_follows p _ e refl none k refl)
          (λ s h q m f. other_follows p _ e refl none k refl) (λ s h q m u l f. other_follows p _ e refl none (arrives k u Ready 1) refl)

  -- ── every call
  -- a call of number i by the task t that names the object
  abbrev touches : ℕ → Call → Bool
  touches i c = let a = asked k.uses c in same_task caller t && (is i a && same_object a.object o)

  quiet : (c : Call) → is 15 (asked k.uses c) ≡ false → is 16 (asked k.uses c) ≡ false → Still k o (effect k (asked k.uses c))
      → FollowsIn (touches 15 c) (touches 16 c) (effect k (asked k.uses c))
  quiet c a b e = still_follows (effect k (asked k.uses c)) (rw a (and-false (same_task caller t))) (rw b (and-false (same_task caller t))) e

  effect_follows : (i : ℕ) (c : Call) → Passed k (asked k.uses c) i → FollowsIn (touches 15 c) (touches 16 c) (effect k (asked k.uses c))
  unfolding effect asked not_his created deleted resumed new_priority yielded held advanced queue_made mutex_made group_made removed arrives leaves to_tail
  effect_follows i (Create p) P = quiet (Create p) refl refl (inl refl)
  effect_follows i (Delete u) P = quiet (Delete u) refl refl (inl refl)
  effect_follows i (Suspend u) P = quiet (Suspend u) refl refl (inl (ap (λ os. kind_at os o) (suspended_same k (task_slot k.uses u)).objects))
  effect_follows i (Resume u) P = quiet (Resume u) refl refl (inl refl)
  effect_follows i (SetPriority u p) P = quiet (SetPriority u p) refl refl (inl refl)
  effect_follows i (Delay d) P = quiet (Delay d) refl refl (inl (ap (λ os. kind_at os o) (delayed_same k d).objects))
  effect_follows i Yield P = quiet Yield refl refl (inl refl)
  effect_follows i Hold P = quiet Hold refl refl (inl refl)
  effect_follows i Release P = quiet Release refl refl (inl (ap (λ os. kind_at os o) (released_objects k)))
  effect_follows i (MakeQueue c z) P = quiet (MakeQueue c z) refl refl (unheld_still k (object (free_object k.objects)) (Queue (record { capacity = c; size = z; first = 0; count = 0 })) refl o)
  effect_follows i MakeMutex P = quiet MakeMutex refl refl (unheld_still k (object (free_object k.objects)) (Mutex Ordinary Nobody) refl o)
  effect_follows i (Remove p) P =
      let b = last_in k.uses.objects (obj_slot k.uses p).0 in
      quiet (Remove p) refl refl (unheld_still k (obj_slot k.uses p) (if b then SpentObject else Unused) (gone b) o)
    where
      gone : (b : Bool) → is_held (if b then SpentObject else Unused) ≡ false
      gone true = refl
      gone false = refl
  effect_follows i (Send p w) P = quiet (Send p w) refl refl (send_still k (obj_slot k.uses p) w o)
  effect_follows i (Receive p w) P = quiet (Receive p w) refl refl (receive_still k (obj_slot k.uses p) w o)
  effect_follows i (Take p w) P = rw (and-false (same_task caller t)) (take_follows (obj_slot k.uses p) w)
  effect_follows i (Give p) P =
      rw (and-false (same_task caller t))
      (give_follows (obj_slot k.uses p) (held_one caller (hands (kind_at k.objects (obj_slot k.uses p))) (on (held_by caller (kind_at k.objects (obj_slot k.uses p))) P.his)))
  effect_follows i Tick P = quiet Tick refl refl (inl (ap (λ os. kind_at os o) (ticked_aside k).objects))
  effect_follows i (Advance d) P = quiet (Advance d) refl refl (inl (ap (λ os. kind_at os o) (ticks_aside true d k).objects))
  effect_follows i MakeRecursive P = quiet MakeRecursive refl refl (unheld_still k (object (free_object k.objects)) (Mutex (Recursive 0) Nobody) refl o)
  effect_follows i MakeGroup P = quiet MakeGroup refl refl (unheld_still k (object (free_object k.objects)) (Group 0) refl o)
  effect_follows i (SetBits p m) P = quiet (SetBits p m) refl refl (set_still k (obj_slot k.uses p) m o)
  effect_follows i (ClearBits p m) P = quiet (ClearBits p m) refl refl (clear_still k (obj_slot k.uses p) m o)
  effect_follows i (Await p m a c w) P = quiet (Await p m a c w) refl refl (await_still k (obj_slot k.uses p) _ w o)

-- ── a step
module _ (k : State) (e : sound k ≡ true) (t : TaskSlot) (o : ObjSlot) (m : CallMade) where
  -- the moment of what it gave
  abbrev moment_with : Stepped → Moment CallMade
  moment_with d = record { before = k; store = []; made = m; gave = d }

  abbrev StepFollows : Stepped → Type 0
  StepFollows d = (n : ℕ) → kind_at d.kernel.objects o ≡ Mutex (Recursive n) (By t) → Follows k t o (takes_it t o (moment_with d)) (gives_it t o (moment_with d)) n

  step_follows : StepFollows (step_made k [] m)
  unfolding accepted after
  step_follows =
      step_cases k e m StepFollows
      (λ P n q.
      let a = asked k.uses m.call in
      let accepts = answered_accepts k m.call (chosen (after k a)) in
      rw accepts
      (effect_follows k (sound_says k e) t o (length m.store) m.call P n
      (sym (ap (λ os. kind_at os o) ((chosen_only (worked_out (effect k a))).objects ∙ (worked_same (effect k a)).objects)) ∙ q)))
      (λ n q. onwards n q (omega arith))

-- ── any calls
-- nobody holds anything at first
fresh_unheld : (o : ObjSlot) → is_held (kind_at fresh.objects o) ≡ false
unfolding fresh kind_at
fresh_unheld o = ap (λ (x : Object). is_held x.kind) (same_all 16 o.0 unused)

-- it became the task's, and what is had and was given was taken, and once more
record Balanced (past : List (Moment CallMade)) (t : TaskSlot) (o : ObjSlot) (n : ℕ) : Type 0 where
  became : any (becomes_his t o) past ≡ true
  count : n + gives_since past t o ≡ 1 + takes_since past t o

record CountedIn (k : State) (past : List (Moment CallMade)) : Type 0 where
  fine : sound k ≡ true
  counts : (t : TaskSlot) (o : ObjSlot) (n : ℕ) → kind_at k.objects o ≡ Mutex (Recursive n) (By t) → Balanced past t o n

starts : CountedIn fresh []
starts = record { fine = fresh-sound; counts = λ t o n q. absurd (none o q) }
  where
    none : (o : ObjSlot) {n : ℕ} {t : TaskSlot} → kind_at fresh.objects o ≡ Mutex (Recursive n) (By t) → ⊥
    none o q = false≢true (sym (fresh_unheld o) ∙ ap is_held q)

-- one call more
module _ (k : State) (past : List (Moment CallMade)) (s : List ℕ) (m : CallMade) (C : CountedIn k past) where
  abbrev now : Moment CallMade
  now = moment_of step_made k s m

  counts_now : (t : TaskSlot) (o : ObjSlot) (n : ℕ) → kind_at now.gave.kernel.objects o ≡ Mutex (Recursive n) (By t) → Balanced (now ∷ past) t o n
  unfolding since any kept
  counts_now t o n q = by (step_follows k C.fine t o m n q)
    where
      held_now : held_by t (kind_at now.gave.kernel.objects o) ≡ true
      held_now = ap (held_by t) q ∙ eq-eqb t.0 t.0 refl

      by : Follows k t o (takes_it t o now) (gives_it t o now) n → Balanced (now ∷ past) t o n
      by (newly f z) =
          let b : becomes_his t o now ≡ true = rw (held_now, f) in
          record { became = rw b; count = rw (b, z) }
      by (onwards c f z) =
          let was : held_by t (kind_at k.objects o) ≡ true = ap (held_by t) f ∙ eq-eqb t.0 t.0 refl in
          let b : becomes_his t o now ≡ false = rw (held_now, was) in
          let D = C.counts t o c f in
          record {
            became = rw b D.became;
            count = rw b
                (omega (arith, z, D.count, times_more (gives_it t o) now (since t o past), times_more (takes_it t o) now (since t o past)));
          }

counts_on : (k : State) (past : List (Moment CallMade)) (s : List ℕ) (ms : List CallMade) → CountedIn k past → CountedIn (state_after k (trace step_made k s ms)) (onto past (trace step_made k s ms))
unfolding foldl trace
counts_on k past s [] C = C
counts_on k past s (m ∷ ms) C =
    counts_on (step_made k s m).kernel _ _ ms (record { fine = step_kept k m.call m.item m.store C.fine; counts = counts_now k past s m C })

-- of every recursive mutex that is held
pub counts_takes : (ms : List CallMade) → CountsTakes ms (reached ms)
counts_takes ms t o n q =
    let B = (counts_on fresh [] [] ms starts).counts t o n q in
    let least = once_at_least (subst KindFits q ((sound_says (reached ms) (reached-sound ms)).tables.ranges o)) in
    record { became = B.became; count = omega (arith, B.count); fewer = omega (arith, B.count, least) }

-- ── the caller's give
pub gives_by_history : (ms : List CallMade) (n : ObjNo) (c : ℕ) → Has (reached ms) n c → (item s : List ℕ) → length s ≡ 9216
    → GivesByHistory ms (reached ms) n s (step (reached ms) (Give n) item s)
gives_by_history ms n c H item s whole =
    let k = reached ms in
    subst (λ m. GivesBack k n m s (step k (Give n) item s)) (counts_takes ms k.running (obj_slot k.uses n) c H).count (gives_back_so k (reached-sound ms) n c H item s whole)

-- ── of the program: the calls are those of its lines
pub program_counts : (ls : List (List ℕ)) → CountsTakes (program_calls ls) (answering fresh (replicate 9216 0) ls).kernel
program_counts ls = subst (λ (k : State). CountsTakes (program_calls ls) k) (sym (program_reached ls)) (counts_takes (program_calls ls))
