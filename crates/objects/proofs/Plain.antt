-- The columns that stand for a list have 0 for every number that is not used.
use Prim.Native.Nat.{ℕ, ◌<◌}
use mathlib.Core.Path.{◌≡◌, ap, ◌∙◌}
use mathlib.Core.Bool.{true}
use mathlib.Core.List.{List}
use lib.ListN.{get_or}
use Rattle.lists.proofs.Bools.{and_right, and_intro, all_below_lem, below_all}
use Rattle.slots.specs.declared.Object.{Object}
use Rattle.slots.specs.Kinds.{unused}
use Rattle.objects.specs.declared.Objects.{Objects}
use Rattle.objects.specs.Columns.{objects_of, known, canonical, cells_at, kind_in}
use Rattle.objects.specs.Fine.{ranges_fine, fine_at}
use Rattle.objects.proofs.Columns.{kind_back, cells_of_lem}

pub objects_plain : (xs : List Object) → canonical (objects_of xs) ≡ true
unfolding canonical
objects_plain xs = below_all 16 _ (λ i l. ap known (cells_of_lem xs i) ∙ (kind_back (get_or xs i unused).kind).1)

-- what is fine of an object has no number that is not used, and is in its ranges
module _ (os : Objects) (n : ℕ) where
  pub ranges_of : fine_at os n ≡ true → ranges_fine (kind_in os n) ≡ true
  ranges_of e = and_right (known (cells_at os n)) _ e

  pub fine_of : canonical os ≡ true → n < 16 → ranges_fine (kind_in os n) ≡ true → fine_at os n ≡ true
  unfolding canonical
  fine_of c l e = and_intro (known (cells_at os n)) _ (all_below_lem 16 (λ i. known (cells_at os i)) c n l) e
