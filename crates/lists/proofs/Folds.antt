-- A loop that takes the elements of a list to a state in turn has folded those that it has passed.
use Prim.Native.Nat.{ℕ, ◌+◌, ◌<◌, ◌≤◌}
use mathlib.Core.Path.{◌≡◌, refl}
use mathlib.Core.List.{List, []}
use lib.ListN.{length, get_or, take}
use lib.Seq.{take_all}
use Rattle.std.proofs.lemmas.List.{take_more}
use Rattle.lists.specs.Lists.{foldl}
use Rattle.lists.proofs.Loops.{fold_append}

module _ {A B : Type 0} (f : B → A → B) (b : B) (xs : List A) where
  pub fold_none : foldl f b [] ≡ b
  unfolding foldl
  fold_none = refl

  pub fold_more : (i : ℕ) (d : A) → i < length xs → foldl f b (take (i + 1) xs) ≡ f (foldl f b (take i xs)) (get_or xs i d)
  unfolding foldl
  fold_more i d h = rw (take_more xs i d h, fold_append)

  pub fold_all : (i : ℕ) → length xs ≤ i → foldl f b (take i xs) ≡ foldl f b xs
  fold_all i h = rw (take_all i xs h)
