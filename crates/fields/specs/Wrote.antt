-- What a writer does to a lent line.
use Rattle.std.specs.Prelude.{ℕ, ◌+◌, ◌-◌, min, ◌≡◌, List, length}
use Rattle.std.proofs.lemmas.List.Edits.{sets}

-- the bytes bs were stored in l from the place at on, as far as l goes, which gave m; r is the place after the last that was stored
pub record Wrote (l : List ℕ) (at : ℕ) (bs : List ℕ) (r : ℕ) (m : List ℕ) : Type 0 where
  pub next : r ≡ at + min (length bs) (length l - at)
  pub line : m ≡ sets l at bs
