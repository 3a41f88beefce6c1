-- What a column says, by the function or the list that it stands for.
use Prim.Native.Nat.{ℕ, zero, suc, ◌≤◌, ◌<◌}
use native.Mathlib.Omega.{arith}
use mathlib.Core.Path.{◌≡◌, refl, sym, ap, ◌∙◌}
use mathlib.Core.Bool.{Bool, true, false}
use mathlib.Core.List.{List, [], ◌∷◌, map}
use lib.Dec.{ltb}
use lib.ListN.{length, get_or, get_or-eq_default}
use borrow.Author.Tests.{ltb-true, ltb-false}
use Rattle.std.proofs.Common.{if◌then◌else◌}
use Rattle.chains.specs.Columns.{says}

pub says_at : (l : List ℕ) (f : ℕ → ℕ) → ((i : ℕ) → i < 16 → get_or l i 0 ≡ f i) → ((i : ℕ) → 16 ≤ i → f i ≡ 16) → (i : ℕ) → says l i ≡ f i
says_at l f at past i = go (ltb i 16) refl
  where
    go : (b : Bool) → ltb i 16 ≡ b → (if b then get_or l i 0 else 16) ≡ f i
    go true e = at i (ltb-true i 16 e)
    go false e = sym (past i (ltb-false i 16 e))

mapped_at : {A : Type 0} (f : A → ℕ) (d : A) (xs : List A) (i : ℕ) → i < length xs → get_or (map f xs) i 0 ≡ f (get_or xs i d)
mapped_at f d [] i l = absurd (omega arith)
mapped_at f d (x ∷ xs) zero l = refl
mapped_at f d (x ∷ xs) (suc i) l = mapped_at f d xs i (omega arith)

-- a column that stands for a list
pub says_map : {A : Type 0} (f : A → ℕ) (d : A) → f d ≡ 16 → (xs : List A) → length xs ≡ 16 → (i : ℕ) → says (map f xs) i ≡ f (get_or xs i d)
says_map f d e xs l =
    says_at (map f xs) (λ i. f (get_or xs i d)) (λ i h. mapped_at f d xs i (omega arith)) (λ i h. ap f (get_or-eq_default xs d {n = i} (omega arith)) ∙ e)
