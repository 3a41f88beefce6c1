-- How often a number stands in a line: as often as in the order, if it passes the line's test.
use Prim.Native.Nat.{ℕ, ◌+◌}
use mathlib.Core.Path.{◌≡◌, refl, sym, ap, ◌∙◌}
use mathlib.Core.Bool.{Bool, true, false, false≢true}
use mathlib.Core.List.{List, [], ◌∷◌}
use native.Mathlib.Omega.{arith}
use lib.Dec.{eqb}
use borrow.Author.Tests.{eqb-true}
use Rattle.std.proofs.Common.{if◌then◌else◌}
use Rattle.lists.specs.Lists.{kept}
use Rattle.numbers.specs.declared.TaskSlot.{TaskSlot}
use Rattle.numbers.specs.Numbers.{task}
use Rattle.order.specs.Tidy.{count}
use Rattle.order.proofs.Passing.{one_number}

pub count_kept : (p : TaskSlot → Bool) (n : ℕ) (l : List TaskSlot) → count n (kept p l) ≡ (if p (task n) then count n l else 0)
unfolding count kept
count_kept p n [] = go (p (task n))
  where
    go : (b : Bool) → ◌≡◌ {A = ℕ} 0 (if b then 0 else 0)
    go true = refl
    go false = refl
count_kept p n (x ∷ l) = go (p x) refl (eqb x.0 n) refl (p (task n)) refl (count_kept p n l)
  where
    same : x.0 ≡ n → p x ≡ p (task n)
    same e = ap p (one_number x (task n) e)

    go : (a : Bool) → p x ≡ a → (b : Bool) → eqb x.0 n ≡ b → (c : Bool) → p (task n) ≡ c
        → count n (kept p l) ≡ (if p (task n) then count n l else 0)
        → count n (if a then x ∷ kept p l else kept p l) ≡ (if c then (if b then 1 else 0) + count n l else 0)
    go true e true f true g ih = rw (f, ih, g)
    go true e true f false g ih = absurd (false≢true (sym (sym e ∙ same (eqb-true x.0 n f) ∙ g)))
    go true e false f true g ih = rw (f, ih, g)
    go true e false f false g ih = rw (f, ih, g)
    go false e true f true g ih = absurd (false≢true (sym e ∙ same (eqb-true x.0 n f) ∙ g))
    go false e true f false g ih = rw (ih, g)
    go false e false f true g ih = rw (ih, g) (omega arith)
    go false e false f false g ih = rw (ih, g)
