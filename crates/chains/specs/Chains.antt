-- Chains of waits: sixteen tasks, each of which waits for at most one other.
use Rattle.std.specs.Prelude.{ℕ, zero, suc, Bool, ◌||◌, eqb, leb, if◌then◌else◌}
use Rattle.lists.specs.Lists.{larger, up_to}

-- u lies at most n links from s, where `next` says whom each waits for; a number past the sixteen is nobody
unfoldable pub within : (ℕ → ℕ) → ℕ → ℕ → ℕ → Bool
within next zero s u = eqb s u
within next (suc n) s u = eqb s u || within next n (next s) u

-- the chain from s ends: after at most n links nobody is waited for
unfoldable pub ends : (ℕ → ℕ) → ℕ → ℕ → Bool
ends next zero s = leb 16 s
ends next (suc n) s = leb 16 s || ends next n (next s)

-- u lies any number of links from s
pub data Along (next : ℕ → ℕ) : ℕ → ℕ → Type 0 where
  here : {s : ℕ} → Along next s s
  link : {s u : ℕ} → Along next (next s) u → Along next s u

-- the largest own priority among the sixteen from which u lies at most 16 links
unfoldable pub largest_own : (ℕ → ℕ) → (ℕ → ℕ) → ℕ → ℕ
largest_own own next u = up_to (λ m s. if within next 16 s u then larger m (own s) else m) 16 0
