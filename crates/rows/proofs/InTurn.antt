-- The first row that applies, found row by row, from the last to the first.
use Prim.Native.Nat.{ℕ}
use mathlib.Core.Path.{◌≡◌, refl, ap, ◌∙◌}
use mathlib.Core.Bool.{Bool, true, not, ◌&&◌}
use mathlib.Core.List.{List, [], ◌∷◌}
use lib.Dec.{eqb}
use Rattle.std.proofs.Common.{if◌then◌else◌}
use Rattle.rows.specs.Applies.{Row, row, first_row}

-- every row has a number that is not 0
unfoldable pub all_numbered : List Row → Bool
all_numbered [] = true
all_numbered (r ∷ rs) = not (eqb r.number 0) && all_numbered rs

-- the rows rs were looked at, and the number so far is n
pub record Given (rs : List Row) (n : ℕ) : Type 0 where
  pub so : n ≡ first_row rs

pub no_row : Given [] 0
no_row = record { so = refl }

pub row_before : {r m : ℕ} {rs : List Row} {b t : Bool} (n : ℕ) → Given rs m → r ≡ (if b then n else m) → b ≡ t → Given (row n t ∷ rs) r
row_before {m = m} {b = b} {t} n f e q = record { so = e ∙ ap (λ (x : Bool). if x then n else m) q ∙ ap (λ (x : ℕ). if t then n else x) f.so }
