-- Every call keeps the uses in their ranges, and idle's at 0.
use Prim.Native.Nat.{ℕ, ◌+◌, ◌≤◌}
use mathlib.Core.Path.{◌≡◌, refl, sym, ◌∙◌}
use mathlib.Core.Bool.{Bool, true, false}
use mathlib.Core.List.{List}
use native.Mathlib.Omega.{arith}
use lib.Dec.{eqb}
use lib.ListN.{length, length-set}
use lib.Seq.{get_or-set_same, get_or-set_other, set_out}
use borrow.Author.Tests.{eqb-true, eqb-false, ltb-true, ltb-false}
use lib.Dec.{ltb}
use Rattle.std.proofs.Common.{if◌then◌else◌}
use Rattle.calls.specs.Door.{use_in, next_use, given_up}
use Rattle.rules.specs.Types.{Uses, Asked, State}
use Rattle.rows.specs.Asking.{is}
use Rattle.rules.specs.Sentences.{Used}
use Rattle.rules.specs.Steps.{uses_after}

next_range : (u : ℕ) → u ≤ 65535 → next_use u ≤ 65535
next_range u h = go (eqb u 65535) refl
  where
    go : (b : Bool) → eqb u 65535 ≡ b → (if b then u else u + 1) ≤ 65535
    go true e = h
    go false e = omega (arith, eqb-false u 65535 e)

module _ (us : List ℕ) (s : ℕ) where
  -- another slot's use stays
  pub up_other : (n : ℕ) → (n ≡ s → ⊥) → use_in (given_up us s) n ≡ use_in us n
  up_other n d = get_or-set_other us s n (next_use (use_in us s)) 0 d

  up_range : ((n : ℕ) → use_in us n ≤ 65535) → (n : ℕ) → use_in (given_up us s) n ≤ 65535
  up_range f n = go (eqb n s) refl (ltb s (length us)) refl
    where
      go : (d : Bool) → eqb n s ≡ d → (i : Bool) → ltb s (length us) ≡ i → use_in (given_up us s) n ≤ 65535
      go false q i r = rw (up_other n (eqb-false n s q)) (f n)
      go true q true r = rw (eqb-true n s q, get_or-set_same us s (next_use (use_in us s)) 0 (ltb-true s (length us) r)) (next_range (use_in us s) (f s))
      go true q false r = rw (set_out us s (next_use (use_in us s)) (ltb-false s (length us) r)) (f n)

pub used_after : (k : State) (a : Asked) → Used k.uses → (is 2 a ≡ true → a.task.0 ≡ 0 → ⊥) → Used (uses_after k.uses a)
unfolding uses_after
used_after k a U I = go (is 2 a) refl (is 12 a)
  where
    us : Uses
    us = k.uses

    go : (b : Bool) → is 2 a ≡ b → (c : Bool)
        → Used (if b then record { tasks = given_up us.tasks a.task.0; objects = us.objects }
        else if c then record { tasks = us.tasks; objects = given_up us.objects a.object.0 } else us)
    go true e c =
        record {
          tasks = λ t. up_range us.tasks a.task.0 (λ n. U.tasks (record { 0 = n })) t.0;
          objects = U.objects;
          idle_none = up_other us.tasks a.task.0 0 (λ q. I e (sym q)) ∙ U.idle_none;
          task_slots = length-set us.tasks a.task.0 (next_use (use_in us.tasks a.task.0)) ∙ U.task_slots;
          object_slots = U.object_slots;
        }
    go false e true =
        record {
          tasks = U.tasks;
          objects = λ o. up_range us.objects a.object.0 (λ n. U.objects (record { 0 = n })) o.0;
          idle_none = U.idle_none;
          task_slots = U.task_slots;
          object_slots = length-set us.objects a.object.0 (next_use (use_in us.objects a.object.0)) ∙ U.object_slots;
        }
    go false e false = U
