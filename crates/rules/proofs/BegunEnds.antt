-- But for a tick, a release, an advance and a set, no call ends more than one delay or wait, and of those whom a set wakes the first of one effective priority stands ahead.
-- So of two of one effective priority who are due on one tick, and are both ready
-- after a call, whatever the call, with the effective priority that they had, who began earlier stands ahead. (In an advance, so it is after the tick on which they are
-- due; the ticks behind it may turn their line.)
use Prim.Native.Nat.{ℕ, ◌+◌, ◌-◌, ◌<◌}
use mathlib.Core.Path.{◌≡◌, refl, sym, ap, ◌∙◌}
use mathlib.Core.Bool.{Bool, true, false, false≢true}
use mathlib.Core.List.{List, [], ◌∷◌}
use mathlib.Core.Logic.{◌⊎◌, inl, inr}
use native.Mathlib.Omega.{arith}
use lib.Dec.{eqb, ltb}
use lib.ListN.{set}
use lib.Bits.{bit_or}
use borrow.Author.Tests.{eqb-true, eqb-false}
use Rattle.std.proofs.Common.{if◌then◌else◌}
use Rattle.numbers.specs.Numbers.{task}
use Rattle.calls.specs.Table.{called}
use Rattle.calls.specs.Door.{task_slot, obj_slot}
use Rattle.calls.specs.Behind.{asked}
use Rattle.order.specs.Order.{listed}
use Rattle.slots.specs.Places.{is_blocked, is_listed, wakes_at}
use Rattle.slots.specs.Wants.{wait_on}
use Rattle.slots.specs.Values.{ready_at, placed, broken_off, task_at}
use Rattle.slots.specs.Kinds.{kind_at}
use Rattle.rules.specs.Types.{TaskSlot, ObjSlot, Place, Ready, Delayed, Waiting, Task, Ring, waiters_of, Want, OwnTurn}
use Rattle.rules.specs.Types.{Call, Create, Delete, Suspend, Resume, SetPriority, Delay, Yield, Hold, Release, MakeQueue, MakeMutex, Remove, Send, Receive, Take, Give, Tick, Advance, MakeRecursive, MakeGroup, SetBits, ClearBits, Await, State}
use Rattle.rules.specs.Tables.{free_slot, with_task, with_hold}
use Rattle.rules.specs.Lines.{has_begun, Ahead, first, to_tail, leaves, level}
use Rattle.rules.specs.Waits.{later, wake_of, arrives, wait_for}
use Rattle.rules.specs.Loans.{new_priority, worked_out}
use Rattle.rules.specs.Ticks.{held, one_tick, turned, ticked, ticks, released}
use Rattle.rules.specs.Rings.{one_less}
use Rattle.rules.specs.Queues.{sent_by, sent, sent_to, refilled_by, received, received_from}
use Rattle.rules.specs.Effects.{effect, created, deleted, suspended, resumed, yielded, delayed, queue_made, mutex_made, removed, taken, given}
use Rattle.rules.proofs.TableSlots.{by_kind}
use Rattle.rules.proofs.MutexCases.{by_take, by_give}
use Rattle.rules.proofs.TableWithin.{by_outlet}
use Rattle.rules.proofs.Keeps.{apart}
use Rattle.rules.proofs.KeepSlot.{at_other}
use Rattle.rules.proofs.KeepTicks.{tick_after}
use Rattle.rules.proofs.TickJumps.{turned_only}
use Rattle.rules.proofs.BegunCalls.{due_blocked, tick_fades, still_ready}
use Rattle.rules.proofs.BegunPairs.{BothDue, Together, tick_together, ticks_together, turned_pair, due_low, ReadyThen}
use Rattle.rules.specs.Sentences.{Sound}
use Rattle.rules.proofs.KeepChosen.{sound_reckoned}
use Rattle.rules.proofs.LoanWorks.{worked_place, worked_still}
use Rattle.rules.specs.Steps.{after}
use Rattle.rules.specs.Events.{group_made, bits_set, set_on, cleared_on, awaited_on, woken_by}
use Rattle.rules.proofs.LoanStill.{released_reckoned, ticked_reckoned, events_reckoned}
use Rattle.rules.proofs.EventCases.{by_set, by_clear, by_await}
use Rattle.rules.proofs.BegunSets.{Stand, neither, the_first, both, the_second, set_stand}

-- ── at most one ends
pub record OneEnds (ts us : List Task) : Type 0 where
  pub who : TaskSlot
  pub others : (t : TaskSlot) → (t.0 ≡ who.0 → ⊥) → has_begun ts t ≡ true → has_begun us t ≡ true

abbrev NoneEnds : List Task → List Task → Type 0
NoneEnds ts us = (t : TaskSlot) → has_begun ts t ≡ true → has_begun us t ≡ true

-- whoever it might be
none_ends : {ts us : List Task} → TaskSlot → NoneEnds ts us → OneEnds ts us
none_ends t f = record { who = t; others = λ u n e. f u e }

-- the task t changes, and nobody else
changes : (ts : List Task) (t : TaskSlot) (x : Task) → OneEnds ts (set ts t.0 x)
changes ts t x = record { who = t; others = λ u n e. ap (λ (y : Task). is_blocked y.place) (at_other ts t x u n) ∙ e }

module _ (k : State) where
  abbrev ts : List Task
  ts = k.tasks

  nothing_ends : OneEnds ts ts
  nothing_ends = none_ends k.running (λ t e. e)

  arrives_ends : (t : TaskSlot) (p : Place) (n : ℕ) → OneEnds ts (arrives k t p n).tasks
  unfolding arrives to_tail
  arrives_ends t p n = changes ts t (placed (task_at ts t) p n)

  wait_ends : (o : ObjSlot) (x : Want) (w : ℕ) → OneEnds ts (wait_for k o x w).tasks
  unfolding wait_for
  wait_ends o x w = arrives_ends k.running (Waiting (wait_on o x) (wake_of k.tick w)) 0

  suspended_ends : (t : TaskSlot) → OneEnds ts (suspended k t).tasks
  unfolding suspended leaves
  suspended_ends t = go (is_listed (task_at ts t).place)
    where
      go : (b : Bool) → OneEnds ts (if b then leaves (with_task k t (broken_off (task_at ts t))) t else k).tasks
      go true = changes ts t (broken_off (task_at ts t))
      go false = nothing_ends

  delayed_ends : (n : ℕ) → OneEnds ts (delayed k n).tasks
  unfolding delayed yielded to_tail
  delayed_ends n = go (eqb n 0)
    where
      go : (b : Bool) → OneEnds ts (if b then yielded k else arrives k k.running (Delayed (later k.tick n)) 0).tasks
      go true = nothing_ends
      go false = arrives_ends k.running (Delayed (later k.tick n)) 0

  sent_ends : (o : ObjSlot) (q : Ring) (w : ℕ) → OneEnds ts (sent k o q w).tasks
  unfolding sent
  sent_ends o q w = by_outlet k o q (λ x. OneEnds ts (sent_by k o q w x).tasks) (λ t e. arrives_ends t Ready 1) nothing_ends (wait_ends o OwnTurn w)

  received_ends : (o : ObjSlot) (q : Ring) (w : ℕ) → OneEnds ts (received k o q w).tasks
  unfolding received arrives to_tail
  received_ends o q w = go (eqb q.count 0) (first k (waiters_of o))
    where
      go : (b : Bool) (l : List TaskSlot) → OneEnds ts (if b then wait_for k o OwnTurn w else refilled_by k o (one_less q) l).tasks
      go true l = wait_ends o OwnTurn w
      go false [] = nothing_ends
      go false (t ∷ l) = changes ts t (placed (task_at ts t) Ready 1)

  send_ends : (o : ObjSlot) (w : ℕ) → OneEnds ts (sent_to k o (kind_at k.objects o) w).tasks
  send_ends o w = by_kind (kind_at k.objects o) (λ x. OneEnds ts (sent_to k o x w).tasks) nothing_ends nothing_ends (λ q e. sent_ends o q w) (λ s h e. nothing_ends) (λ b e. nothing_ends)

  receive_ends : (o : ObjSlot) (w : ℕ) → OneEnds ts (received_from k o (kind_at k.objects o) w).tasks
  receive_ends o w =
      by_kind (kind_at k.objects o) (λ x. OneEnds ts (received_from k o x w).tasks) nothing_ends nothing_ends (λ q e. received_ends o q w) (λ s h e. nothing_ends) (λ b e. nothing_ends)

  taken_ends : (o : ObjSlot) (w : ℕ) → OneEnds ts (taken k o w).tasks
  taken_ends o w =
      by_take k o (λ j. OneEnds ts j.tasks) w (λ m. nothing_ends) (λ s e. nothing_ends) (λ s e. nothing_ends) (λ s h e d. wait_ends o OwnTurn w)

  given_ends : (o : ObjSlot) → OneEnds ts (given k o).tasks
  given_ends o = by_give k o (λ j. OneEnds ts j.tasks) (λ m. nothing_ends) (λ s h e m. nothing_ends) (λ s h e m q. nothing_ends) (λ s h e m t l q. arrives_ends t Ready 1)

  clear_ends : (o : ObjSlot) (m : ℕ) → OneEnds ts (cleared_on k o (kind_at k.objects o) m).tasks
  clear_ends o m = by_clear k o (λ j. OneEnds ts j.tasks) (λ e. nothing_ends) m (λ b e. nothing_ends)

  await_ends : (o : ObjSlot) (x : Want) (w : ℕ) → OneEnds ts (awaited_on k o (kind_at k.objects o) x w).tasks
  await_ends o x w = by_await k o (λ j. OneEnds ts j.tasks) (λ e. nothing_ends) x w (λ b e q. nothing_ends) (λ b e q. wait_ends o x w)

-- ── two who are due on one tick, both of the effective priority p
module _ (t u : TaskSlot) (differ : t.0 ≡ u.0 → ⊥) (k : State) (S : Sound k) (w : ℕ) (D : BothDue t u differ w k) (p : ℕ) (level_t : level k.tasks t ≡ p) (level_u : level k.tasks u ≡ p) where
  -- both ready after it, with the effective priority that they had
  pub record NowReady (j : State) : Type 0 where
    pub first : (task_at j.tasks t).place ≡ Ready
    pub second : (task_at j.tasks u).place ≡ Ready
    pub first_level : level j.tasks t ≡ p
    pub second_level : level j.tasks u ≡ p

  t_begun : has_begun k.tasks t ≡ true
  t_begun = due_blocked w (task_at k.tasks t).place D.first

  u_begun : has_begun k.tasks u ≡ true
  u_begun = due_blocked w (task_at k.tasks u).place D.second

  not_ready : (q : Place) → wakes_at w q ≡ true → q ≡ Ready → ⊥
  not_ready q e f = false≢true (ap (wakes_at w) (sym f) ∙ e)

  -- at most one ends: not both of them
  never_both : (j : State) → OneEnds k.tasks j.tasks → (task_at j.tasks t).place ≡ Ready → (task_at j.tasks u).place ≡ Ready → ⊥
  never_both j E a b = go (eqb t.0 E.who.0) refl
    where
      go : (c : Bool) → eqb t.0 E.who.0 ≡ c → ⊥
      go true e = false≢true (sym (ap is_blocked b) ∙ E.others u (λ q. differ (eqb-true t.0 E.who.0 e ∙ sym q)) u_begun)
      go false e = false≢true (sym (ap is_blocked a) ∙ E.others t (eqb-false t.0 E.who.0 e) t_begun)

  start : Together t u differ p w k
  start = record { roomy = D.roomy; reckoned = sound_reckoned k S; first_most = omega (arith, level_t); second_most = omega (arith, level_u); so = inl D }

  low : (t.0 < 16) × (u.0 < 16)
  low = due_low t u differ D

  -- after some ticks
  ahead_then : (j : State) → Together t u differ p w j → NowReady j → Ahead t u (listed j.order)
  ahead_then j T W = go T.so
    where
      go : BothDue t u differ w j ⊎ ReadyThen t u differ p j → Ahead t u (listed j.order)
      go (inl X) = absurd (not_ready (task_at j.tasks t).place X.first W.first)
      go (inr B) = B.ahead W.first_level W.second_level

  released_ahead : NowReady (released k) → Ahead t u (listed (released k).order)
  unfolding released
  released_ahead = go (eqb k.hold 1)
    where
      held_start : Together t u differ p w (with_hold k 0 0)
      held_start =
          record {
            roomy = D.roomy;
            reckoned = start.reckoned;
            first_most = start.first_most;
            second_most = start.second_most;
            so = inl record { roomy = D.roomy; first = D.first; second = D.second; ahead = D.ahead };
          }

      go : (b : Bool) → let j = if b then ticks false k.pended (with_hold k 0 0) else with_hold k (k.hold - 1) k.pended in NowReady j → Ahead t u (listed j.order)
      go true W = ahead_then (ticks false k.pended (with_hold k 0 0)) (ticks_together t u differ p w k.pended (with_hold k 0 0) held_start low.0 low.1) W
      go false W = absurd (not_ready (task_at k.tasks t).place D.first W.first)

  -- after the turn of the line, in which the caller alone moves
  pub turned_ahead : NowReady (turned (one_tick k)) → Ahead t u (listed (turned (one_tick k)).order)
  turned_ahead W =
      let same = (turned_only j).tasks in
      turned_pair t u differ j (tick_fades k D.roomy).roomy (still_ready k ready) (other t t_begun) (other u u_begun)
      (ahead_then j (tick_together t u differ p w k start low.0 low.1)
      record { first = rw (sym same) W.first; second = rw (sym same) W.second; first_level = rw (sym same) W.first_level; second_level = rw (sym same) W.second_level })
    where
      j : State
      j = one_tick k

      ready : (task_at k.tasks k.running).place ≡ Ready
      ready = S.running.runs.ready

      other : (v : TaskSlot) → has_begun k.tasks v ≡ true → j.running.0 ≡ v.0 → ⊥
      other v e q = apart k.tasks v k.running is_blocked e (ap is_blocked ready) (sym q ∙ ap (λ (x : TaskSlot). x.0) (tick_after k).running)

  ticked_ahead : NowReady (ticked k) → Ahead t u (listed (ticked k).order)
  unfolding ticked
  ticked_ahead = go (ltb 0 k.hold)
    where
      go : (b : Bool) → let i = if b then with_hold k k.hold (k.pended + 1) else turned (one_tick k) in NowReady i → Ahead t u (listed i.order)
      go true W = absurd (not_ready (task_at k.tasks t).place D.first W.first)
      go false W = turned_ahead W

  -- a set
  set_ahead : (o : ObjSlot) (m : ℕ) → NowReady (set_on k o (kind_at k.objects o) m) → Ahead t u (listed (set_on k o (kind_at k.objects o) m).order)
  unfolding bits_set woken_by
  set_ahead o m = by_set k o (λ j. NowReady j → Ahead t u (listed j.order)) (λ e W. absurd (not_ready (task_at k.tasks t).place D.first W.first)) m (λ b e. woken_ahead (bit_or b m))
    where
      stood : (b : ℕ) {j : State} → Stand t u differ o b k j → NowReady j → Ahead t u (listed j.order)
      stood b (neither p q h) W = absurd (not_ready _ (ap (λ (y : Task). wakes_at w y.place) p ∙ D.first) W.first)
      stood b (the_first p q h) W = absurd (not_ready _ (ap (λ (y : Task). wakes_at w y.place) q ∙ D.second) W.second)
      stood b (both p q h) W = h
      stood b (the_second p q n) W = absurd (not_ready _ (ap (λ (y : Task). wakes_at w y.place) q ∙ D.first) W.first)

      woken_ahead : (b : ℕ) → NowReady (bits_set k o b) → Ahead t u (listed (bits_set k o b).order)
      woken_ahead b W =
          stood b (set_stand t u differ o b k (level_t ∙ sym level_u) 16 D.roomy D.ahead) record { first = W.first; second = W.second; first_level = W.first_level; second_level = W.second_level }

  -- working out the effective priorities makes nobody ready
  not_both : (j : State) → OneEnds k.tasks j.tasks → NowReady (worked_out j) → ⊥
  not_both j E W = never_both j E (sym (worked_place j t) ∙ W.first) (sym (worked_place j u) ∙ W.second)

  -- whatever the call; a tick and a release end with them worked out
  pub after_ahead : (c : Call) → eqb (called c).number 18 ≡ false → NowReady (after k (asked k.uses c)) → Ahead t u (listed (after k (asked k.uses c)).order)
  unfolding after effect asked created deleted resumed new_priority yielded held queue_made mutex_made group_made removed to_tail leaves
  after_ahead (Create q) e W = absurd (not_both _ (changes k.tasks (task (free_slot k.tasks)) (ready_at q)) W)
  after_ahead (Delete v) e W = absurd (not_both _ (changes k.tasks (task_slot k.uses v) _) W)
  after_ahead (Suspend v) e W = absurd (not_both _ (suspended_ends k (task_slot k.uses v)) W)
  after_ahead (Resume v) e W = absurd (not_both _ (arrives_ends k (task_slot k.uses v) Ready _) W)
  after_ahead (SetPriority v q) e W = absurd (not_both _ (changes k.tasks (task_slot k.uses v) _) W)
  after_ahead (Delay n) e W = absurd (not_both _ (delayed_ends k n) W)
  after_ahead Yield e W = absurd (not_both _ (nothing_ends k) W)
  after_ahead Hold e W = absurd (not_both _ (nothing_ends k) W)
  after_ahead Release e W = let s = worked_still (released k) (released_reckoned k S) in rw s (released_ahead (rw s at W))
  after_ahead (MakeQueue c z) e W = absurd (not_both _ (nothing_ends k) W)
  after_ahead MakeMutex e W = absurd (not_both _ (nothing_ends k) W)
  after_ahead (Remove o) e W = absurd (not_both _ (nothing_ends k) W)
  after_ahead (Send o n) e W = absurd (not_both _ (send_ends k (obj_slot k.uses o) n) W)
  after_ahead (Receive o n) e W = absurd (not_both _ (receive_ends k (obj_slot k.uses o) n) W)
  after_ahead (Take o n) e W = absurd (not_both _ (taken_ends k (obj_slot k.uses o) n) W)
  after_ahead (Give o) e W = absurd (not_both _ (given_ends k (obj_slot k.uses o)) W)
  after_ahead Tick e W = let s = worked_still (ticked k) (ticked_reckoned k S) in rw s (ticked_ahead (rw s at W))
  after_ahead (Advance n) e W = absurd (false≢true (sym e))
  after_ahead MakeRecursive e W = absurd (not_both _ (nothing_ends k) W)
  after_ahead MakeGroup e W = absurd (not_both _ (nothing_ends k) W)
  after_ahead (SetBits o m) e W = let i = obj_slot k.uses o in let s = worked_still (set_on k i (kind_at k.objects i) m) (events_reckoned k S i m) in rw s (set_ahead i m (rw s at W))
  after_ahead (ClearBits o m) e W = absurd (not_both _ (clear_ends k (obj_slot k.uses o) m) W)
  after_ahead (Await o m a c n) e W = absurd (not_both _ (await_ends k (obj_slot k.uses o) _ n) W)
