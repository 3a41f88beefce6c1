-- Holders exist: seen from the objects, and seen from the tasks.
use Rattle.std.proofs.Common.{◌≡◌, ℕ, ◌<◌, Bool, true, false, not, ◌&&◌, ◌||◌, eqb, ltb, List, length, get_or, refl, ◌∙◌, arith, ltb-false, ltb-true, eq-eqb, eqb-true}
use mathlib.Core.Bool.{false≢true}
use lib.ListN.{get_or-eq_default}
use Rattle.lists.specs.Lists.{all_below}
use Rattle.lists.proofs.Bools.{and_left, and_right, and_intro, same_test, all_below_lem, below_all}
use Rattle.lists.proofs.Tests.{any_at, any_none}
use Rattle.numbers.specs.declared.TaskSlot.{TaskSlot}
use Rattle.numbers.specs.Numbers.{task, object}
use Rattle.slots.specs.Types.{Task, Holder, Nobody, By, Object}
use Rattle.slots.specs.Places.{is_free}
use Rattle.slots.specs.Values.{free_task, task_at}
use Rattle.slots.specs.Kinds.{unused, kind_at, is_by, hands, held_by, marks_of}
use Rattle.slots.specs.SoundSlots.{holder_there, holder_slot, free_holds}
use Rattle.slots.proofs.Marks.{marks_hold}

module _ (ts : List Task) (os : List Object) (few : length ts ≡ 16) (many : length os ≡ 16) where
  abbrev there : ℕ → Bool
  there n = holder_there ts (hands (kind_at os (object n)))

  abbrev slotted : ℕ → Bool
  slotted n = holder_slot (hands (kind_at os (object n)))

  abbrev unheld : ℕ → Bool
  unheld n = free_holds (get_or (marks_of os) n false) (task_at ts (task n)).place

  -- a number past the table is no task's
  past : (t : TaskSlot) → not (is_free (task_at ts t).place) ≡ true → ltb t.0 16 ≡ true
  unfolding task_at
  past t e = go (ltb t.0 16) refl
    where
      go : (b : Bool) → ltb t.0 16 ≡ b → b ≡ true
      go true q = refl
      go false q = absurd (false≢true (rw (get_or-eq_default ts free_task {n = t.0} (omega (arith, ltb-false t.0 16 q))) at e))

  -- from the objects
  one_slotted : (h : Holder) → holder_there ts h ≡ true → holder_slot h ≡ true
  one_slotted Nobody e = refl
  one_slotted (By t) e = past t e

  not_held : (m : ℕ) → is_free (task_at ts (task m)).place ≡ true → (h : Holder) → holder_there ts h ≡ true → is_by (task m) h ≡ false
  unfolding task_at
  not_held m f Nobody e = refl
  not_held m f (By t) e = go (eqb t.0 m) refl
    where
      go : (b : Bool) → eqb t.0 m ≡ b → b ≡ false
      go true q = absurd (false≢true (rw (eqb-true t.0 m q, f) at e))
      go false q = refl

  module _ (h : all_below 16 there ≡ true) where
    no_holder : (m : ℕ) → is_free (task_at ts (task m)).place ≡ true → (i : ℕ) → held_by (task m) (get_or os i unused).kind ≡ false
    unfolding kind_at
    no_holder m f i = go (ltb i 16) refl
      where
        go : (b : Bool) → ltb i 16 ≡ b → held_by (task m) (get_or os i unused).kind ≡ false
        go true q = not_held m f (hands (get_or os i unused).kind) (all_below_lem 16 there h i (ltb-true i 16 q))
        go false q = rw (get_or-eq_default os unused {n = i} (omega (arith, ltb-false i 16 q)))

    each_unheld : (m : ℕ) → m < 16 → unheld m ≡ true
    each_unheld m l = go (is_free (task_at ts (task m)).place) refl
      where
        go : (b : Bool) → is_free (task_at ts (task m)).place ≡ b → (not b || not (get_or (marks_of os) m false)) ≡ true
        go true f = rw (marks_hold os m l, any_none (λ (x : Object). held_by (task m) x.kind) os unused (no_holder m f))
        go false f = refl

    to_halves : (all_below 16 slotted && all_below 16 unheld) ≡ true
    to_halves =
        and_intro (all_below 16 slotted) (all_below 16 unheld)
        (below_all 16 slotted (λ n l. one_slotted (hands (kind_at os (object n))) (all_below_lem 16 there h n l)))
        (below_all 16 unheld each_unheld)

  -- from the tasks
  module _ (h : (all_below 16 slotted && all_below 16 unheld) ≡ true) where
    marked : (n : ℕ) (t : TaskSlot) → hands (kind_at os (object n)) ≡ By t → t.0 < 16 → get_or (marks_of os) t.0 false ≡ true
    unfolding kind_at
    marked n t e l =
        marks_hold os t.0 l
        ∙ any_at (λ (x : Object). held_by (task t.0) x.kind) os n unused refl (rw e (eq-eqb t.0 t.0 refl))

    one_there : (n : ℕ) → n < 16 → (h : Holder) → hands (kind_at os (object n)) ≡ h → holder_slot h ≡ true → holder_there ts h ≡ true
    unfolding task_at
    one_there n l Nobody e s = refl
    one_there n l (By t) e s =
        let low = ltb-true t.0 16 s in
        let m = all_below_lem 16 unheld (and_right (all_below 16 slotted) (all_below 16 unheld) h) t.0 low in
        or_first (not (is_free (task_at ts t).place)) (rw (marked n t e low) at m)
      where
        or_first : (b : Bool) → (b || false) ≡ true → b ≡ true
        or_first true q = refl
        or_first false q = q

    from_halves : all_below 16 there ≡ true
    from_halves = below_all 16 there (λ n l. one_there n l (hands (kind_at os (object n))) refl (all_below_lem 16 slotted (and_left (all_below 16 slotted) (all_below 16 unheld) h) n l))

  pub holders_exist : (all_below 16 slotted && all_below 16 unheld) ≡ all_below 16 there
  holders_exist = same_test (all_below 16 slotted && all_below 16 unheld) (all_below 16 there) from_halves to_halves
