-- Bytes of the lent store, or of a part of it.
use Rattle.std.specs.Prelude.{ℕ, List, take, drop}
use Rattle.std.proofs.lemmas.List.Edits.{sets}

-- n bytes from a place on
unfoldable pub bytes_at : ℕ → ℕ → List ℕ → List ℕ
bytes_at at n store = take n (drop at store)

-- bytes put from a place on; "All other bytes stay"
unfoldable pub put_at : ℕ → List ℕ → List ℕ → List ℕ
put_at at bytes store = sets store at bytes
