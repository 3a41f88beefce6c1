-- The effective priorities worked out afresh: what becomes of each task and of all else, that nothing changes where each has the rule's already, and that a nearly sound
-- kernel stays so.
use Prim.Native.Nat.{ℕ, zero, suc, ◌<◌, ◌≤◌}
use mathlib.Core.Logic.{inl}
use mathlib.Core.Path.{◌≡◌, refl, sym, ap, ◌∙◌}
use mathlib.Core.Bool.{Bool, true, false, false≢true}
use mathlib.Core.List.{List}
use native.Mathlib.Omega.{arith}
use lib.Dec.{eqb}
use lib.ListN.{length, get_or, set, length-set}
use borrow.Author.Tests.{eqb-true, eqb-false}
use Rattle.lists.specs.Lists.{up_to}
use Rattle.numbers.specs.Numbers.{task, idle}
use Rattle.order.proofs.Passing.{one_number}
use Rattle.slots.specs.Places.{is_free}
use Rattle.slots.specs.Values.{levelled, task_at}
use Rattle.rules.specs.Types.{TaskSlot, Place, Free, Ready, Delayed, Waiting, Suspended, Spent, Task, Object, State}
use Rattle.rules.specs.Lines.{level}
use Rattle.rules.specs.Loans.{for_whom, waits_for, ruled, prioritized, relevelled, worked_out, Reckoned}
use Rattle.rules.specs.Sentences.{Exists, HoldsNothing, NoCircle}
use Rattle.rules.proofs.LoanRule.{ruled_same, alone_own}
use Rattle.rules.proofs.CircleRule.{loosened}
use Rattle.rules.proofs.KeepNearly.{Open, Nearly, RunsIn}
use Rattle.rules.proofs.KeepSlot.{at_same, at_other, like_before}
use Rattle.rules.proofs.KeepBlocks.{Same, same_trans, same_level, prioritized_same, prioritized_tasks, prioritized_nearly, prioritized_runs}

-- ── slot by slot
module _ (ls : List ℕ) (k : State) where
  -- when the first n have theirs
  abbrev pub up_to_slot : ℕ → State
  up_to_slot n = up_to (λ j m. prioritized j (task m) (get_or ls m 0)) n k

  pub slots_same : (n : ℕ) → Same (up_to_slot n) k
  unfolding up_to
  slots_same zero = record { tick = refl; hold = refl; pended = refl; running = refl; objects = refl; uses = refl }
  slots_same (suc n) = same_trans (prioritized_same (up_to_slot n) (task n) (get_or ls n 0)) (slots_same n)

  slots_many : (n : ℕ) → length (up_to_slot n).tasks ≡ length k.tasks
  unfolding up_to
  slots_many zero = refl
  slots_many (suc n) = ap length (prioritized_tasks (up_to_slot n) (task n) (get_or ls n 0)) ∙ length-set (up_to_slot n).tasks n _ ∙ slots_many n

  -- all but the effective priority stays
  slots_keep : {A : Type 0} (f : Task → A) → ((x : Task) (m : ℕ) → f (levelled x m) ≡ f x) → (n : ℕ) (t : TaskSlot) → f (task_at (up_to_slot n).tasks t) ≡ f (task_at k.tasks t)
  unfolding up_to
  slots_keep f e zero t = refl
  slots_keep f e (suc n) t =
      ap (λ ts. f (task_at ts t)) (prioritized_tasks (up_to_slot n) (task n) (get_or ls n 0))
      ∙ like_before (up_to_slot n).tasks (task n) (levelled (task_at (up_to_slot n).tasks (task n)) (get_or ls n 0)) f (e (task_at (up_to_slot n).tasks (task n)) (get_or ls n 0)) t
      ∙ slots_keep f e n t

  -- those from n on are as they were, those below n have their level
  pub slots_later : (n : ℕ) (t : TaskSlot) → n ≤ t.0 → task_at (up_to_slot n).tasks t ≡ task_at k.tasks t
  unfolding up_to
  slots_later zero t h = refl
  slots_later (suc n) t h =
      ap (λ ts. task_at ts t) (prioritized_tasks (up_to_slot n) (task n) (get_or ls n 0)) ∙ at_other (up_to_slot n).tasks (task n) _ t (λ e. omega arith) ∙ slots_later n t (omega arith)

  have_theirs : (n : ℕ) (t : TaskSlot) → t.0 < n → t.0 < length k.tasks → task_at (up_to_slot n).tasks t ≡ levelled (task_at k.tasks t) (get_or ls t.0 0)
  unfolding up_to
  have_theirs zero t h l = absurd (omega arith)
  have_theirs (suc n) t h l = ap (λ ts. task_at ts t) (prioritized_tasks (up_to_slot n) (task n) (get_or ls n 0)) ∙ go (eqb t.0 n) refl (have_theirs n t)
    where
      go : (b : Bool) → eqb t.0 n ≡ b → (t.0 < n → t.0 < length k.tasks → task_at (up_to_slot n).tasks t ≡ levelled (task_at k.tasks t) (get_or ls t.0 0))
          → task_at (set (up_to_slot n).tasks n (levelled (task_at (up_to_slot n).tasks (task n)) (get_or ls n 0))) t ≡ levelled (task_at k.tasks t) (get_or ls t.0 0)
      go true e ih =
          let q : t ≡ task n = one_number t (task n) (eqb-true t.0 n e) in
          rw q (at_same (up_to_slot n).tasks (task n) _ (omega (arith, slots_many n, eqb-true t.0 n e)) ∙ ap (λ x. levelled x (get_or ls n 0)) (slots_later n (task n) (omega arith)))
      go false e ih = at_other (up_to_slot n).tasks (task n) _ t (eqb-false t.0 n e) ∙ ih (omega (arith, eqb-false t.0 n e)) l

-- ── where each has the rule's already nothing changes
still_slots : (ls : List ℕ) (k : State) (n : ℕ) → ((m : ℕ) → m < n → level k.tasks (task m) ≡ get_or ls m 0) → up_to_slot ls k n ≡ k
unfolding up_to
still_slots ls k zero f = refl
still_slots ls k (suc n) f =
    ap (λ (j : State). prioritized j (task n) (get_or ls n 0)) (still_slots ls k n (λ m l. f m (omega arith))) ∙ same_level k (task n) (get_or ls n 0) (f n (omega arith))

pub worked_still : (k : State) → Reckoned k.tasks k.objects → worked_out k ≡ k
unfolding worked_out relevelled
worked_still k R = still_slots (ruled k.tasks k.objects) k 16 (λ m l. R (task m) l)

-- ── what becomes of each task, and of all else
pub worked_same : (k : State) → Same (worked_out k) k
unfolding worked_out relevelled
worked_same k = slots_same (ruled k.tasks k.objects) k 16

pub worked_many : (k : State) → length (worked_out k).tasks ≡ length k.tasks
unfolding worked_out relevelled
worked_many k = slots_many (ruled k.tasks k.objects) k 16

module _ (k : State) where
  pub worked_keeps : {A : Type 0} (f : Task → A) → ((x : Task) (n : ℕ) → f (levelled x n) ≡ f x) → (t : TaskSlot) → f (task_at (worked_out k).tasks t) ≡ f (task_at k.tasks t)
  unfolding worked_out relevelled
  worked_keeps f e = slots_keep (ruled k.tasks k.objects) k f e 16

  pub worked_place : (t : TaskSlot) → (task_at (worked_out k).tasks t).place ≡ (task_at k.tasks t).place
  worked_place = worked_keeps (λ (x : Task). x.place) (λ x n. refl)

  pub worked_own : (t : TaskSlot) → (task_at (worked_out k).tasks t).own ≡ (task_at k.tasks t).own
  worked_own = worked_keeps (λ (x : Task). x.own) (λ x n. refl)

  -- so nothing changes that the rule looks at, nor any chain
  worked_waits : (t : TaskSlot) → waits_for (worked_out k).tasks (worked_out k).objects t ≡ waits_for k.tasks k.objects t
  worked_waits t = ap (λ (os : List Object). waits_for (worked_out k).tasks os t) (worked_same k).objects ∙ ap (for_whom k.objects) (worked_place t)

  pub worked_ruled : ruled (worked_out k).tasks (worked_out k).objects ≡ ruled k.tasks k.objects
  worked_ruled =
      ruled_same (worked_out k).tasks k.tasks (worked_out k).objects k.objects (λ t h. worked_own t) (λ t h. worked_waits t)

  module _ (full : length k.tasks ≡ 16) where
    pub worked_at : (t : TaskSlot) → t.0 < 16 → task_at (worked_out k).tasks t ≡ levelled (task_at k.tasks t) (get_or (ruled k.tasks k.objects) t.0 0)
    unfolding worked_out relevelled
    worked_at t h = have_theirs (ruled k.tasks k.objects) k 16 t h (omega arith)

    pub worked_reckoned : Reckoned (worked_out k).tasks (worked_out k).objects
    worked_reckoned t h = ap (λ (x : Task). x.effective) (worked_at t h) ∙ ap (λ ls. get_or ls t.0 0) (sym worked_ruled)

    pub worked_circles : NoCircle k.tasks k.objects → NoCircle (worked_out k).tasks (worked_out k).objects
    worked_circles C = loosened k.tasks (worked_out k).tasks k.objects (worked_out k).objects full (worked_many k ∙ full) C (λ t. inl (worked_waits t))

-- ── a nearly sound kernel stays so
module _ {w : Open} (k : State) (N : Nearly w k) where
  abbrev rules : List ℕ
  rules = ruled k.tasks k.objects

  -- a free slot and idle, which hold nothing, have 0 already
  settled_if : (t : TaskSlot) → t.0 < 16 → HoldsNothing k.objects t → (task_at k.tasks t).own ≡ (task_at k.tasks t).effective → level k.tasks t ≡ get_or rules t.0 0
  settled_if t h f e = sym e ∙ sym (alone_own k.tasks k.objects N.tables.task_slots t h f)

  free_nothing : (t : TaskSlot) → is_free (task_at k.tasks t).place ≡ true → HoldsNothing k.objects t
  free_nothing t e o h = false≢true (sym (N.tables.holders t o h) ∙ e)

  free_same : (t : TaskSlot) (p : Place) → (task_at k.tasks t).place ≡ p → is_free p ≡ true → (task_at k.tasks t).own ≡ (task_at k.tasks t).effective
  free_same t Free e f = rw ((N.tables.tasks t).free e)
  free_same t Ready e f = absurd (false≢true f)
  free_same t (Delayed v) e f = absurd (false≢true f)
  free_same t (Waiting o v) e f = absurd (false≢true f)
  free_same t Suspended e f = absurd (false≢true f)
  free_same t Spent e f = rw ((N.tables.tasks t).spent e)

  -- so where an effective priority changes there is a task, and it is not idle
  pub changes_there : (t : TaskSlot) → t.0 < 16 → (level k.tasks t ≡ get_or rules t.0 0 → ⊥) → Exists k.tasks t × (t.0 ≡ 0 → ⊥)
  changes_there t h c = (exists, λ z. c (idle_same z))
    where
      exists : Exists k.tasks t
      exists = go (is_free (task_at k.tasks t).place) refl
        where
          go : (b : Bool) → is_free (task_at k.tasks t).place ≡ b → b ≡ false
          go true e = absurd (c (settled_if t h (free_nothing t e) (free_same t (task_at k.tasks t).place refl e)))
          go false e = refl

      idle_same : t.0 ≡ 0 → level k.tasks t ≡ get_or rules t.0 0
      idle_same z =
          let q : t ≡ idle = one_number t idle z in
          settled_if t h (rw q N.tables.idle_holds) (rw q (N.tables.as_idle.own ∙ sym N.tables.as_idle.effective))

  slots_nearly : (n : ℕ) → n ≤ 16 → Nearly w (up_to_slot rules k n) × (RunsIn k → RunsIn (up_to_slot rules k n))
  unfolding up_to
  slots_nearly zero h = (N, λ R. R)
  slots_nearly (suc n) h =
      let ih = slots_nearly n (omega arith) in
      let j = up_to_slot rules k n in
      let same : task_at j.tasks (task n) ≡ task_at k.tasks (task n) = slots_later rules k n (task n) (omega arith) in
      let C : (level j.tasks (task n) ≡ get_or rules n 0 → ⊥) → Exists j.tasks (task n) × (n ≡ 0 → ⊥) =
      λ c. let r = changes_there (task n) (omega arith) (λ e. c (ap (λ (x : Task). x.effective) same ∙ e)) in (ap (λ (x : Task). is_free x.place) same ∙ r.0, r.1) in
      (prioritized_nearly j ih.0 (task n) (omega arith) (get_or rules n 0) C, λ R. prioritized_runs j ih.0 (task n) (omega arith) (get_or rules n 0) C (ih.1 R))

  pub worked_nearly : Nearly w (worked_out k)
  unfolding worked_out relevelled
  worked_nearly = (slots_nearly 16 (omega arith)).0

  pub worked_runs : RunsIn k → RunsIn (worked_out k)
  unfolding worked_out relevelled
  worked_runs = (slots_nearly 16 (omega arith)).1
