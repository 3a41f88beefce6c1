-- A number's text: "in decimal without needless zeros".
use Rattle.std.specs.Prelude.{ℕ, zero, suc, ◌+◌, ◌/◌, ◌%◌, List, [], ◌∷◌, ◌++◌, ltb, if◌then◌else◌}

-- the digits of n, up to k + 1 of them; 48 is the digit 0
unfoldable pub digits : ℕ → ℕ → List ℕ
digits zero n = (48 + n % 10) ∷ []
digits (suc k) n = if ltb n 10 then (48 + n) ∷ [] else digits k (n / 10) ++ ((48 + n % 10) ∷ [])

-- the digits of a number of at most 64 bits, which has at most 20
unfoldable pub dec : ℕ → List ℕ
dec n = digits 19 n
