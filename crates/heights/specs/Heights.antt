-- The word of occupied lines, and the highest of them.
use Rattle.std.specs.Prelude.{ℕ, ◌-◌, ◌/◌, ◌%◌, ◌^◌, Bool, List, [], ◌∷◌, eqb, ltb, if◌then◌else◌}
use Rattle.std.specs.Int.Bits.{bit_or}
use Rattle.std.specs.Int.Count.{count_leading_zeros}
use Rattle.lists.specs.Lists.{larger, foldl}
use Rattle.heights.specs.declared.Lines.{Lines}

-- the word w with the bit of line p set; whether that bit is set
unfoldable pub lit : ℕ → ℕ → ℕ
lit w p = bit_or w (2 ^ p)

unfoldable pub is_lit : ℕ → ℕ → Bool
is_lit w p = eqb (w / 2 ^ p % 2) 1

-- the line of the highest bit, by the count of leading zeros; 0 where no bit is set
unfoldable pub top : ℕ → ℕ
top w = 31 - count_leading_zeros 32 w

-- nobody stands in a line
abbrev pub no_lines : Lines
no_lines = record { word = 0; over = 0 }

-- one task more, of priority p: it stands in a line if it is ready; a priority past the 32 lines has no bit
abbrev pub noted : Lines → Bool → ℕ → Lines
noted o ready p =
    if ready
    then if ltb p 32 then record { word = lit o.word p; over = o.over } else record { word = o.word; over = larger o.over p }
    else o

-- the highest occupied line; 0 where none is
abbrev pub height : Lines → ℕ
height o = larger (top o.word) o.over

-- the lines of several, where a test says who is ready
unfoldable pub occupied : {A : Type 0} → (A → Bool) → (A → ℕ) → List A → Lines
occupied ready level xs = foldl (λ o x. noted o (ready x) (level x)) no_lines xs

-- the largest number that the elements give, 0 for none
unfoldable pub largest : {A : Type 0} → (A → ℕ) → List A → ℕ
largest f [] = 0
largest f (x ∷ xs) = larger (f x) (largest f xs)
