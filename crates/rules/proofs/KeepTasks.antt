-- Calls 1 to 7 keep soundness: create, delete, suspend, resume, set priority, delay, yield.
use Prim.Native.Nat.{ℕ, ◌<◌, ◌≤◌}
use mathlib.Core.Path.{◌≡◌, refl, sym, ap, ◌∙◌}
use mathlib.Core.Bool.{Bool, true, false, not, ◌&&◌, false≢true}
use native.Mathlib.Omega.{arith}
use lib.ListN.{length}
use lib.Dec.{eqb, leb}
use borrow.Author.Tests.{ne_eqb, leb-false, eqb-true, eqb-false, eq-eqb, lt-ltb, le-leb}
use Rattle.std.proofs.Common.{if◌then◌else◌}
use Rattle.lists.proofs.Bools.{and_intro, on, not_off, or_off}
use Rattle.numbers.specs.Numbers.{task, idle, is_idle}
use Rattle.calls.specs.Behind.{nothing, on_task}
use Rattle.order.proofs.Passing.{one_number}
use Rattle.slots.specs.Places.{is_free, takes_task, is_suspended, is_blocked, is_listed}
use Rattle.slots.specs.Values.{free_task, spent_task, ready_at, owned, broken_off, in_line, task_at}
use Rattle.rules.specs.Types.{TaskSlot, ObjSlot, Wake, Free, Ready, Delayed, Waiting, Spent, Task, State, Wait}
use Rattle.rules.specs.Tables.{holds, free_slot, with_task}
use Rattle.rules.specs.Lines.{level, to_tail, leaves}
use Rattle.rules.specs.Sentences.{Holds, HoldsNothing, AsIdle, TaskFits, Sound}
use Rattle.rows.specs.Applies.{out_of_range, names_none, not_for_idle, not_with_hold, none_free, not_suspended}
use Rattle.rules.specs.Refusals.{in_use}
use Rattle.rules.specs.Waits.{later, arrives}
use Rattle.rules.specs.Loans.{new_priority}
use Rattle.rules.specs.Effects.{created, deleted, suspended, resumed, yielded, delayed, effect}
use Rattle.rules.proofs.TableSlots.{takes_free}
use Rattle.rules.proofs.TableHolds.{not_held}
use Rattle.rules.proofs.RowPasses.{Passed, in_range_of}
use Rattle.rules.proofs.KeepNearly.{settled, TaskFine, Nearly, unblocked_fits, RunsIn}
use Rattle.rules.proofs.KeepSlot.{like_before, tail_nearly, tail_listed, leave_nearly, leave_listed, stay_nearly, moved_nearly}
use Rattle.rules.proofs.KeepChosen.{sound_nearly}
use Rattle.rules.proofs.KeepHeads.{runs_tail, runs_leave, runs_stay}
use Rattle.rules.proofs.KeepBlocks.{to_ready, to_wait, arrives_nearly, arrives_runs, ranked_fine, Same, arrives_same}
use Rattle.rules.proofs.Keeps.{Keeps, there_low, ready_low, apart, index_most, index_passes}

-- a wake tick that many ticks ahead is none of now
pub later_ahead : (tick n : ℕ) → tick ≤ 4294967295 → 0 < n → n ≤ 4294967294 → (leb (later tick n) 4294967295 && not (eqb (later tick n) tick)) ≡ true
later_ahead tick n h s l =
    and_intro (leb (later tick n) 4294967295) _ (le-leb (later tick n) 4294967295 (omega arith)) (not_off (eqb (later tick n) tick) (ne_eqb (later tick n) tick (λ e. omega arith)))

module _ (k : State) (S : Sound k) (store : ℕ) where
  N : Nearly (settled k.tick) k
  N = sound_nearly k S

  R : RunsIn k
  R = S.running.runs

  -- 1: create
  module _ (p : ℕ) (P : Passed k (nothing 1 p 0 1 0) store) where
    abbrev t : TaskSlot
    t = task (free_slot k.tasks)

    small : p ≤ 31
    small = (in_range_of (nothing 1 p 0 1 0) P.in_range).low

    pub has_slot : t.0 < length k.tasks
    unfolding none_free free_slot
    has_slot =
        let most = index_most (λ (x : Task). takes_task x.place) free_task k.tasks in
        let d = eqb-false (free_slot k.tasks) 16 P.slot in
        omega (arith, d, S.tables.task_slots)

    pub is_free_lem : is_free (task_at k.tasks t).place ≡ true
    unfolding free_slot task_at
    is_free_lem = takes_free (task_at k.tasks t).place (index_passes (λ (x : Task). takes_task x.place) free_task k.tasks has_slot)

    low : t.0 < 16
    low = omega (arith, has_slot, S.tables.task_slots)

    not_ready : (u : TaskSlot) → (task_at k.tasks u).place ≡ Ready → u.0 ≡ t.0 → ⊥
    not_ready u e q = apart k.tasks t u is_free is_free_lem (ap is_free e) (sym q)

    fine : TaskFine (settled k.tick) k.objects t (ready_at p)
    fine =
        record {
          fits = unblocked_fits k.objects t (ready_at p) refl refl (omega arith);
          range = small;
          due = refl;
        }

    not_idle : t.0 ≡ 0 → AsIdle (ready_at p)
    not_idle e = absurd (not_ready idle S.tables.as_idle.ready (sym e))

    no_hold : (o : ObjSlot) → Holds k.objects t o → is_free Ready ≡ false
    no_hold o h = refl

    pub create_keeps : Keeps (effect k (nothing 1 p 0 1 0))
    unfolding effect created to_tail
    create_keeps =
        record {
          nearly = tail_nearly k N t (ready_at p) low fine no_hold not_idle refl;
          runs = λ h. runs_tail k R t (ready_at p) (created k p) refl refl (not_ready k.running R.ready) (tail_listed k N t (ready_at p) low fine no_hold not_idle refl);
        }

  -- 2: delete
  module _ (t : TaskSlot) {l : Bool} (P : Passed k (on_task 2 t l 0) store) where
    there : is_free (task_at k.tasks t).place ≡ false
    unfolding names_none
    there = P.named

    busy : t.0 ≡ 0 → ⊥
    unfolding not_for_idle
    busy = eqb-false t.0 0 (or_off (is_idle t) _ P.idle).0

    free_hands : HoldsNothing k.objects t
    unfolding in_use
    free_hands = not_held k.objects t (or_off (holds k.objects t) _ P.unused).0

    other : 0 < k.hold → k.running.0 ≡ t.0 → ⊥
    unfolding not_with_hold
    other h e = eqb-false t.0 k.running.0 (rw (lt-ltb 0 k.hold h) at P.held) (sym e)

    -- free, or spent
    left : (P : Task → Type 0) → P spent_task → P free_task → P (if l then spent_task else free_task)
    left P a b = go l
      where
        go : (c : Bool) → P (if c then spent_task else free_task)
        go true = a
        go false = b

    nobody_fits : (x : Task) → x.outcome ≡ 0 → ((y : Wait) (v : Wake) → x.place ≡ Waiting y v → ⊥) → (x.place ≡ Free → x ≡ free_task) → (x.place ≡ Spent → x ≡ spent_task)
        → TaskFits k.objects t x
    nobody_fits x n w f s =
        record { waits = λ o v e. absurd (w o v e); outcome_range = omega (arith, n); delay_outcome = λ v e. n; wait_outcome = λ o v e. n; free = f; spent = s }

    gone : TaskFine (settled k.tick) k.objects t (if l then spent_task else free_task)
    gone =
        left (TaskFine (settled k.tick) k.objects t)
        (record {
          fits = nobody_fits spent_task refl (λ o v e. let z : ◌≡◌ {A = ℕ} 0 1 = cc in omega arith) (λ e. absurd (let z : ◌≡◌ {A = ℕ} 0 1 = cc in omega arith)) (λ e. refl);
          range = omega arith;
          due = refl;
        })
        (record {
          fits = nobody_fits free_task refl (λ o v e. let z : ◌≡◌ {A = ℕ} 0 1 = cc in omega arith) (λ e. refl) (λ e. absurd (let z : ◌≡◌ {A = ℕ} 0 1 = cc in omega arith));
          range = omega arith;
          due = refl;
        })

    pub delete_keeps : Keeps (effect k (on_task 2 t l 0))
    unfolding effect deleted leaves
    delete_keeps =
        let low = there_low k.tasks t S.tables.task_slots there in
        let off_List = left (λ x. is_listed x.place ≡ false) refl refl in
        record {
          nearly = leave_nearly k N t _ low gone (λ o h. absurd (free_hands o h)) (λ e. absurd (busy e)) off_List;
          runs = λ h. runs_leave k R t _ (deleted k t l) refl refl (other h) (leave_listed k N t _ low gone (λ o q. absurd (free_hands o q)) (λ e. absurd (busy e)) off_List);
        }

  -- 3: suspend
  module _ (t : TaskSlot) {l : Bool} (P : Passed k (on_task 3 t l 0) store) where
    found : is_free (task_at k.tasks t).place ≡ false
    unfolding names_none
    found = P.named

    not_idle_one : t.0 ≡ 0 → ⊥
    unfolding not_for_idle
    not_idle_one = eqb-false t.0 0 (or_off (is_idle t) _ P.idle).0

    not_caller : 0 < k.hold → k.running.0 ≡ t.0 → ⊥
    unfolding not_with_hold
    not_caller h e = eqb-false t.0 k.running.0 (rw (lt-ltb 0 k.hold h) at P.held) (sym e)

    abbrev stopped : Task
    stopped = broken_off (task_at k.tasks t)

    outcome_few : (b : Bool) → (if b then 3 else (task_at k.tasks t).outcome) ≤ 3
    outcome_few true = omega arith
    outcome_few false = (S.tables.tasks t).outcome_range

    stopped_fine : TaskFine (settled k.tick) k.objects t stopped
    stopped_fine =
        record {
          fits = unblocked_fits k.objects t stopped refl refl (outcome_few (is_blocked (task_at k.tasks t).place));
          range = N.range t;
          due = refl;
        }

    pub suspend_keeps : Keeps (effect k (on_task 3 t l 0))
    unfolding effect suspended leaves
    suspend_keeps = go (is_listed (task_at k.tasks t).place)
      where
        go : (b : Bool) → Keeps (if b then leaves (with_task k t stopped) t else k)
        go true =
            let low = there_low k.tasks t S.tables.task_slots found in
            record {
              nearly = leave_nearly k N t stopped low stopped_fine (λ o h. refl) (λ e. absurd (not_idle_one e)) refl;
              runs = λ h. runs_leave k R t stopped (leaves (with_task k t stopped) t) refl refl (not_caller h)
                  (leave_listed k N t stopped low stopped_fine (λ o q. refl) (λ e. absurd (not_idle_one e)) refl);
            }
        go false = record { nearly = N; runs = λ h. R }

  -- 4: resume
  module _ (t : TaskSlot) {l : Bool} (P : Passed k (on_task 4 t l 0) store) where
    known : is_free (task_at k.tasks t).place ≡ false
    unfolding names_none
    known = P.named

    was_suspended : is_suspended (task_at k.tasks t).place ≡ true
    unfolding not_suspended
    was_suspended = on (is_suspended (task_at k.tasks t).place) P.suspended

    pub resume_keeps : Keeps (effect k (on_task 4 t l 0))
    unfolding effect resumed arrives to_tail
    resume_keeps =
        let low = there_low k.tasks t S.tables.task_slots known in
        record {
          nearly = arrives_nearly k N t low (to_ready (S.tables.tasks t).outcome_range refl);
          runs = λ h. arrives_runs k N t low (to_ready (S.tables.tasks t).outcome_range refl) R
              (λ e. apart k.tasks t k.running is_suspended was_suspended (ap is_suspended R.ready) (sym e));
        }

  -- 5: set priority
  module _ (t : TaskSlot) (p : ℕ) {l : Bool} (P : Passed k (on_task 5 t l p) store) where
    exists : is_free (task_at k.tasks t).place ≡ false
    unfolding names_none
    exists = P.named

    in_range : p ≤ 31
    in_range = (in_range_of (on_task 5 t l p) P.in_range).low

    idle_to_0 : t.0 ≡ 0 → p ≡ 0
    unfolding not_for_idle
    idle_to_0 e = eqb-true p 0 (on (eqb p 0) (rw (eq-eqb t.0 0 e) at (or_off (is_idle t && not (eqb p 0)) _ P.idle).0))

    abbrev set_to : Task
    set_to = owned (task_at k.tasks t) p

    set_fine : TaskFine (settled k.tick) k.objects t set_to
    set_fine = ranked_fine k N t exists p (level k.tasks t) in_range

    idle_stays : t.0 ≡ 0 → AsIdle set_to
    idle_stays z =
        let q : t ≡ idle = one_number t idle z in
        record { ready = rw q N.tables.as_idle.ready; own = idle_to_0 z; effective = rw q N.tables.as_idle.effective }

    -- every line stays, and so does who heads it
    pub priority_keeps : Keeps (effect k (on_task 5 t l p))
    unfolding effect new_priority
    priority_keeps =
        let low = there_low k.tasks t S.tables.task_slots exists in
        record {
          nearly = stay_nearly k N t set_to low set_fine (λ o h. exists) idle_stays refl;
          runs = λ h. runs_stay k R t set_to (with_task k t set_to) refl refl refl (λ q. like_before k.tasks t set_to (in_line q) refl)
              (like_before k.tasks t set_to (λ (x : Task). x.place) refl k.running ∙ R.ready) (like_before k.tasks t set_to (λ (x : Task). x.effective) refl k.running);
        }

  -- 7: yield
  hold_free : Passed k (nothing 7 0 0 1 0) store → 0 < k.hold → ⊥
  unfolding not_with_hold
  hold_free P h = false≢true (sym (rw (lt-ltb 0 k.hold h) at P.held))

  caller_low : k.running.0 < 16
  caller_low = ready_low k.tasks k.running S.tables.task_slots R.ready

  yields : (0 < k.hold → ⊥) → Keeps (yielded k)
  unfolding yielded to_tail
  yields h = record { nearly = moved_nearly k N k.running caller_low (rw R.ready); runs = λ q. absurd (h q) }

  pub yield_keeps : Passed k (nothing 7 0 0 1 0) store → Keeps (effect k (nothing 7 0 0 1 0))
  unfolding effect
  yield_keeps P = yields (hold_free P)

  -- 6: delay
  module _ (n : ℕ) (P : Passed k (nothing 6 0 n 1 0) store) where
    no_hold_now : 0 < k.hold → ⊥
    unfolding not_with_hold
    no_hold_now h = false≢true (sym (rw (lt-ltb 0 k.hold h) at P.held))

    not_idle_now : k.running.0 ≡ 0 → ⊥
    unfolding not_for_idle
    not_idle_now = eqb-false k.running.0 0 P.idle

    few : n ≤ 4294967294
    unfolding out_of_range
    few = omega (arith, leb-false 4294967295 n (or_off (leb 4294967295 n) _ P.in_range).0)

    pub delay_keeps : Keeps (effect k (nothing 6 0 n 1 0))
    unfolding effect delayed arrives to_tail
    delay_keeps = go (eqb n 0) refl
      where
        go : (b : Bool) → eqb n 0 ≡ b → Keeps (if b then yielded k else arrives k k.running (Delayed (later k.tick n)) 0)
        go true e = yields no_hold_now
        go false e =
            let some : 0 < n = omega (arith, eqb-false n 0 e) in
            let a = later_ahead k.tick n S.clock.counts.tick_range some few in
            record {
              nearly = arrives_nearly k N k.running caller_low (to_wait refl not_idle_now (λ o v q. absurd (let z : ◌≡◌ {A = ℕ} 0 1 = cc in omega arith)) a);
              runs = λ h. absurd (no_hold_now h);
            }

-- ── what suspend and delay leave as it was
same : {k : State} → Same k k
same = record { tick = refl; hold = refl; pended = refl; running = refl; objects = refl; uses = refl }

pub suspended_same : (k : State) (t : TaskSlot) → Same (suspended k t) k
unfolding suspended leaves
suspended_same k t = go (is_listed (task_at k.tasks t).place)
  where
    go : (b : Bool) → Same (if b then leaves (with_task k t (broken_off (task_at k.tasks t))) t else k) k
    go true = record { tick = refl; hold = refl; pended = refl; running = refl; objects = refl; uses = refl }
    go false = same

pub delayed_same : (k : State) (n : ℕ) → Same (delayed k n) k
unfolding delayed yielded to_tail
delayed_same k n = go (eqb n 0)
  where
    go : (b : Bool) → Same (if b then yielded k else arrives k k.running (Delayed (later k.tick n)) 0) k
    go true = record { tick = refl; hold = refl; pended = refl; running = refl; objects = refl; uses = refl }
    go false = arrives_same k k.running (Delayed (later k.tick n)) 0
