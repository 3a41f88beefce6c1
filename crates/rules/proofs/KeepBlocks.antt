-- The building blocks of the calls keep a kernel nearly sound: made ready, begins to wait, an effective priority changed.
use Prim.Native.Nat.{ℕ, ◌<◌, ◌≤◌}
use mathlib.Core.Path.{◌≡◌, refl, sym, ap, ◌∙◌}
use mathlib.Core.Bool.{Bool, true, false, false≢true}
use mathlib.Core.List.{◌∷◌}
use native.Mathlib.Omega.{arith}
use lib.Dec.{eqb}
use lib.ListN.{length, set}
use borrow.Author.Tests.{eqb-true, eqb-false, eq-eqb}
use Rattle.std.proofs.Common.{if◌then◌else◌}
use Rattle.lists.proofs.Bools.{or_right}
use Rattle.numbers.specs.Numbers.{idle, same_task}
use Rattle.order.specs.Order.{listed, without}
use Rattle.order.proofs.Passing.{one_number}
use Rattle.slots.specs.Places.{is_free, is_ready, is_blocked, is_listed}
use Rattle.slots.specs.Values.{placed, levelled, in_line, task_at}
use Rattle.rules.specs.Types.{TaskSlot, ObjSlot, Wake, Place, Ready, Waiting, Task, State, Wait}
use Rattle.slots.specs.Kinds.{kind_at}
use Rattle.rules.specs.Tables.{with_task}
use Rattle.rules.specs.Lines.{level, to_tail, to_head}
use Rattle.rules.specs.Sentences.{Holds, Exists, MayWait, AsIdle, TaskFits}
use Rattle.rules.specs.Waits.{arrives}
use Rattle.rules.specs.Loans.{moved, moved_if, prioritized}
use Rattle.rules.proofs.TableSlots.{is_ready_lem, passes_there}
use Rattle.rules.proofs.KeepNearly.{Open, TaskFine, Nearly, unblocked_fits, RunsIn}
use Rattle.rules.proofs.KeepSlot.{at_same, at_other, set_same, tail_nearly, tail_listed, head_nearly, head_listed, stay_nearly}
use Rattle.rules.proofs.KeepHeads.{runs_tail, runs_stay, runs_head}

true_not_false : true ≡ false → ⊥
true_not_false e = let z : ◌≡◌ {A = ℕ} 0 1 = cc in omega arith

-- the task t may go to the place p, with the outcome n
pub record Arrival (w : Open) (k : State) (t : TaskSlot) (p : Place) (n : ℕ) : Type 0 where
  pub fits : TaskFits k.objects t (placed (task_at k.tasks t) p n)
  pub due : w t p ≡ true
  pub stands : is_listed p ≡ true
  pub idle_ready : t.0 ≡ 0 → p ≡ Ready

-- made ready
pub to_ready : {w : Open} {k : State} {t : TaskSlot} {n : ℕ} → n ≤ 3 → w t Ready ≡ true → Arrival w k t Ready n
to_ready few D = record { fits = unblocked_fits _ _ _ refl refl few; due = D; stands = refl; idle_ready = λ z. refl }

-- begins a delay or a wait
pub to_wait : {w : Open} {k : State} {t : TaskSlot} {p : Place} → is_blocked p ≡ true → (t.0 ≡ 0 → ⊥)
    → ((y : Wait) (v : Wake) → p ≡ Waiting y v → MayWait t y.want (kind_at k.objects y.object)) → w t p ≡ true → Arrival w k t p 0
to_wait {p = p} b busy W D =
    record {
      fits = record {
        waits = W;
        outcome_range = omega arith;
        delay_outcome = λ v e. refl;
        wait_outcome = λ o v e. refl;
        free = λ e. absurd (true_not_false (sym b ∙ ap is_blocked e));
        spent = λ e. absurd (true_not_false (sym b ∙ ap is_blocked e));
      };
      due = D;
      stands = or_right (is_ready p) _ b;
      idle_ready = λ z. absurd (busy z);
    }

module _ {w : Open} (k : State) (N : Nearly w k) (t : TaskSlot) (low : t.0 < 16) {p : Place} {n : ℕ} (A : Arrival w k t p n) where
  abbrev there : Task
  there = placed (task_at k.tasks t) p n

  there_fine : TaskFine w k.objects t there
  there_fine = record { fits = A.fits; range = N.range t; due = A.due }

  not_free : (o : ObjSlot) → Holds k.objects t o → is_free p ≡ false
  not_free o h = passes_there is_listed p refl refl A.stands

  -- idle has its priorities
  idle_still : t.0 ≡ 0 → AsIdle there
  idle_still z = rw (one_number t idle z) record { ready = A.idle_ready z; own = N.tables.as_idle.own; effective = N.tables.as_idle.effective }

  pub arrives_nearly : Nearly w (arrives k t p n)
  unfolding arrives
  arrives_nearly = tail_nearly k N t there low there_fine not_free idle_still A.stands

  pub arrives_runs : RunsIn k → (k.running.0 ≡ t.0 → ⊥) → RunsIn (arrives k t p n)
  unfolding arrives to_tail
  arrives_runs R d = runs_tail k R t there (arrives k t p n) refl refl d (tail_listed k N t there low there_fine not_free idle_still A.stands)

-- ── an effective priority changed
-- unchanged, it stays
pub same_level : (k : State) (t : TaskSlot) (eff : ℕ) → level k.tasks t ≡ eff → prioritized k t eff ≡ k
unfolding prioritized moved_if
same_level k t eff e = rw (sym e, eq-eqb (level k.tasks t) (level k.tasks t) refl) (go (is_ready (task_at k.tasks t).place))
  where
    go : (a : Bool) → (if a then with_task k t (task_at k.tasks t) else with_task k t (task_at k.tasks t)) ≡ k
    go true = set_same k t
    go false = set_same k t

-- an existing task with other priorities, the own one in its range, is fine
pub ranked_fine : {w : Open} (k : State) → Nearly w k → (t : TaskSlot) → Exists k.tasks t → (own eff : ℕ) → own ≤ 31
    → TaskFine w k.objects t (record { place = (task_at k.tasks t).place; own = own; effective = eff; outcome = (task_at k.tasks t).outcome })
ranked_fine k N t X own eff few =
    let F = N.tables.tasks t in
    record {
      fits = record {
        waits = F.waits;
        outcome_range = F.outcome_range;
        delay_outcome = F.delay_outcome;
        wait_outcome = F.wait_outcome;
        free = λ e. absurd (false≢true (sym X ∙ ap is_free e));
        spent = λ e. absurd (false≢true (sym X ∙ ap is_free e));
      };
      range = few;
      due = N.due t;
    }

-- that of a task that exists and is not idle
module _ {w : Open} (k : State) (N : Nearly w k) (t : TaskSlot) (low : t.0 < 16) (eff : ℕ) (X : Exists k.tasks t) (B : t.0 ≡ 0 → ⊥) where
  abbrev new : Task
  new = levelled (task_at k.tasks t) eff

  new_fine : TaskFine w k.objects t new
  new_fine = ranked_fine k N t X (task_at k.tasks t).own eff (N.range t)

  idle_new : t.0 ≡ 0 → AsIdle new
  idle_new z = absurd (B z)

  stay : Nearly w (with_task k t new)
  stay = stay_nearly k N t new low new_fine (λ o h. X) idle_new refl

  moves : is_ready (task_at k.tasks t).place ≡ true → Nearly w (moved (with_task k t new) t)
  unfolding moved
  moves e = go (same_task t k.running)
    where
      ready_listed : is_listed new.place ≡ true
      ready_listed = rw e

      go : (b : Bool) → Nearly w (if b then to_head (with_task k t new) t else to_tail (with_task k t new) t)
      go true = head_nearly k N t new low new_fine (λ o h. X) idle_new ready_listed
      go false = tail_nearly k N t new low new_fine (λ o h. X) idle_new ready_listed

  changed_nearly : Nearly w (prioritized k t eff)
  unfolding prioritized moved_if
  changed_nearly = go (is_ready (task_at k.tasks t).place) refl (eqb (level k.tasks t) eff)
    where
      go : (a : Bool) → is_ready (task_at k.tasks t).place ≡ a → (b : Bool) → Nearly w (if a then (if b then with_task k t new else moved (with_task k t new) t) else with_task k t new)
      go true e true = stay
      go true e false = moves e
      go false e b = stay

  -- the running task heads its line afterwards, too
  new_at : task_at (with_task k t new).tasks t ≡ new
  new_at = at_same k.tasks t new (omega (arith, N.tables.task_slots))

  module _ (R : RunsIn k) where
    runs_unready : is_ready (task_at k.tasks t).place ≡ false → RunsIn (with_task k t new)
    runs_unready q =
        let o = at_other k.tasks t new k.running other in
        runs_stay k R t new (with_task k t new) refl refl refl lines_stay (ap (λ (y : Task). y.place) o ∙ R.ready) (ap (λ (y : Task). y.effective) o)
      where
        other : k.running.0 ≡ t.0 → ⊥
        other e = true_not_false (sym (ap is_ready (sym (ap (λ v. (task_at k.tasks v).place) (one_number k.running t e)) ∙ R.ready)) ∙ q)

        lines_stay : (p : ℕ) (v : TaskSlot) → in_line p (task_at (with_task k t new).tasks v) ≡ in_line p (task_at k.tasks v)
        lines_stay p v = go (same_task v t) refl
          where
            go : (b : Bool) → same_task v t ≡ b → in_line p (task_at (with_task k t new).tasks v) ≡ in_line p (task_at k.tasks v)
            go true e = rw (one_number v t (eqb-true v.0 t.0 e)) (ap (in_line p) new_at ∙ rw q)
            go false e = ap (in_line p) (at_other k.tasks t new v (eqb-false v.0 t.0 e))

    runs_moved : is_ready (task_at k.tasks t).place ≡ true → RunsIn (moved (with_task k t new) t)
    unfolding moved to_head to_tail
    runs_moved e = go (same_task t k.running) refl
      where
        ready_listed : is_listed new.place ≡ true
        ready_listed = rw e

        go : (b : Bool) → same_task t k.running ≡ b → RunsIn (if b then to_head (with_task k t new) t else to_tail (with_task k t new) t)
        go true q =
            let u : t ≡ k.running = one_number t k.running (eqb-true t.0 k.running.0 q) in
            runs_head k new (to_head (with_task k t new) t) (ap (λ (v : TaskSlot). set k.tasks v.0 new) u) refl (omega (arith, N.tables.task_slots, ap (λ (v : TaskSlot). v.0) u)) (is_ready_lem _ e)
            (head_listed k N t new low new_fine (λ o h. X) idle_new ready_listed ∙ ap (λ (v : TaskSlot). v ∷ without v (listed k.order)) u)
        go false q =
            runs_tail k R t new (to_tail (with_task k t new) t) refl refl (λ z. eqb-false t.0 k.running.0 q (sym z)) (tail_listed k N t new low new_fine (λ o h. X) idle_new ready_listed)

    changed_runs : eqb (level k.tasks t) eff ≡ false → RunsIn (prioritized k t eff)
    unfolding prioritized moved_if
    changed_runs c = go (is_ready (task_at k.tasks t).place) refl
      where
        go : (a : Bool) → is_ready (task_at k.tasks t).place ≡ a → RunsIn (if a then (if eqb (level k.tasks t) eff then with_task k t new else moved (with_task k t new) t) else with_task k t new)
        go true e = rw c (runs_moved e)
        go false e = runs_unready e

-- so of every task, if it exists and is not idle where its effective priority changes
module _ {w : Open} (k : State) (N : Nearly w k) (t : TaskSlot) (low : t.0 < 16) (eff : ℕ) (C : (level k.tasks t ≡ eff → ⊥) → Exists k.tasks t × (t.0 ≡ 0 → ⊥)) where
  pub prioritized_nearly : Nearly w (prioritized k t eff)
  prioritized_nearly = go (eqb (level k.tasks t) eff) refl
    where
      go : (b : Bool) → eqb (level k.tasks t) eff ≡ b → Nearly w (prioritized k t eff)
      go true e = rw (same_level k t eff (eqb-true (level k.tasks t) eff e)) N
      go false e = let c = C (eqb-false (level k.tasks t) eff e) in changed_nearly k N t low eff c.0 c.1

  pub prioritized_runs : RunsIn k → RunsIn (prioritized k t eff)
  prioritized_runs R = go (eqb (level k.tasks t) eff) refl
    where
      go : (b : Bool) → eqb (level k.tasks t) eff ≡ b → RunsIn (prioritized k t eff)
      go true e = rw (same_level k t eff (eqb-true (level k.tasks t) eff e)) R
      go false e = let c = C (eqb-false (level k.tasks t) eff e) in changed_runs k N t low eff c.0 c.1 R e

-- the counts, who runs and the objects are as they were
pub record Same (j k : State) : Type 0 where
  pub tick : j.tick ≡ k.tick
  pub hold : j.hold ≡ k.hold
  pub pended : j.pended ≡ k.pended
  pub running : j.running ≡ k.running
  pub objects : j.objects ≡ k.objects
  pub uses : j.uses ≡ k.uses

pub same_trans : {i j k : State} → Same i j → Same j k → Same i k
same_trans a b =
    record {
      tick = a.tick ∙ b.tick;
      hold = a.hold ∙ b.hold;
      pended = a.pended ∙ b.pended;
      running = a.running ∙ b.running;
      objects = a.objects ∙ b.objects;
      uses = a.uses ∙ b.uses;
    }

pub arrives_same : (k : State) (t : TaskSlot) (p : Place) (n : ℕ) → Same (arrives k t p n) k
unfolding arrives to_tail
arrives_same k t p n = record { tick = refl; hold = refl; pended = refl; running = refl; objects = refl; uses = refl }

pub arrives_at : (k : State) (t : TaskSlot) (p : Place) (n : ℕ) → t.0 < length k.tasks → task_at (arrives k t p n).tasks t ≡ placed (task_at k.tasks t) p n
unfolding arrives to_tail
arrives_at k t p n h = at_same k.tasks t (placed (task_at k.tasks t) p n) h

-- the task's slot, and no other
pub prioritized_tasks : (k : State) (t : TaskSlot) (eff : ℕ) → (prioritized k t eff).tasks ≡ set k.tasks t.0 (levelled (task_at k.tasks t) eff)
unfolding prioritized moved_if moved to_head to_tail
prioritized_tasks k t eff = go (is_ready (task_at k.tasks t).place) (eqb (level k.tasks t) eff) (same_task t k.running)
  where
    new : State
    new = with_task k t (levelled (task_at k.tasks t) eff)

    go : (a b c : Bool) → (if a then (if b then new else (if c then to_head new t else to_tail new t)) else new).tasks ≡ new.tasks
    go true true c = refl
    go true false true = refl
    go true false false = refl
    go false b c = refl

pub prioritized_same : (k : State) (t : TaskSlot) (eff : ℕ) → Same (prioritized k t eff) k
unfolding prioritized moved_if moved to_head to_tail
prioritized_same k t eff = go (is_ready (task_at k.tasks t).place) (eqb (level k.tasks t) eff) (same_task t k.running)
  where
    new : State
    new = with_task k t (levelled (task_at k.tasks t) eff)

    go : (a b c : Bool) → Same (if a then (if b then new else (if c then to_head new t else to_tail new t)) else new) k
    go true true c = record { tick = refl; hold = refl; pended = refl; running = refl; objects = refl; uses = refl }
    go true false true = record { tick = refl; hold = refl; pended = refl; running = refl; objects = refl; uses = refl }
    go true false false = record { tick = refl; hold = refl; pended = refl; running = refl; objects = refl; uses = refl }
    go false b c = record { tick = refl; hold = refl; pended = refl; running = refl; objects = refl; uses = refl }
