-- Loans along the chains: "a circle must still end".
use Rattle.std.specs.Prelude.{ℕ, zero, suc, List, ltb, if◌then◌else◌}
use Rattle.lists.specs.Lists.{up_to, values}
use Rattle.chains.specs.Columns.{raised}

-- the loan p goes to t, and on to whom t waits for, to n tasks at most
unfoldable pub goes_on : (ℕ → ℕ) → ℕ → ℕ → ℕ → List ℕ → List ℕ
goes_on next zero t p ls = ls
goes_on next (suc n) t p ls = if ltb t 16 then goes_on next n (next t) p (raised t p ls) else ls

-- everyone has its own priority, and lends it to whom it waits for
unfoldable pub levels : (ℕ → ℕ) → (ℕ → ℕ) → List ℕ
levels own next = up_to (λ ls s. goes_on next 16 (next s) (own s) ls) 16 (values own 16)
