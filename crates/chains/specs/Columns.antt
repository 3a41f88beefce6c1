-- The chains in columns of numbers, and the loans along them.
use Rattle.std.specs.Prelude.{ℕ, zero, suc, Bool, List, ltb, get_or, set, if◌then◌else◌}
use Rattle.lists.specs.Lists.{larger, up_to, all_below}
use Rattle.chains.specs.Chains.{ends}

-- what a column says of i; past it, 16
abbrev pub says : List ℕ → ℕ → ℕ
says l i = if ltb i 16 then get_or l i 0 else 16

-- whom t waits for: the holder, in `by`, of the object that t waits on, in `onto`; 16 for none and nobody
abbrev pub next_by : List ℕ → List ℕ → ℕ → ℕ
next_by onto by t = says by (says onto t)

-- the level of t made at least p; past the table nobody's
unfoldable pub raised : ℕ → ℕ → List ℕ → List ℕ
raised t p ls = if ltb t 16 then set ls t (larger (get_or ls t 0) p) else ls

-- t gets the loan p, and so does, for n links, whom it waits for
unfoldable pub lent : List ℕ → List ℕ → ℕ → ℕ → ℕ → List ℕ → List ℕ
lent onto by zero t p ls = raised t p ls
lent onto by (suc n) t p ls = lent onto by n (next_by onto by t) p (raised t p ls)

-- the mutex o passes the loan to its holder
abbrev pub passed : List ℕ → List ℕ → ℕ → ℕ → ℕ → List ℕ → List ℕ
passed onto by zero o p ls = ls
passed onto by (suc n) o p ls = lent onto by n (says by o) p ls

-- everyone has its own; the loan of each of the first n goes to the mutex it waits on, and on from there
abbrev pub levels_to : List ℕ → List ℕ → List ℕ → ℕ → List ℕ
levels_to own onto by n = up_to (λ ls i. passed onto by 16 (says onto i) (get_or own i 0) ls) n own

unfoldable pub levels_by : List ℕ → List ℕ → List ℕ → List ℕ
levels_by own onto by = levels_to own onto by 16

-- each of the first n waits for someone whose chain ends
abbrev pub ended_to : List ℕ → List ℕ → ℕ → Bool
ended_to onto by n = all_below n (λ i. ends (next_by onto by) 16 (next_by onto by i))
