-- "four bytes, low byte first": a number in four bytes, of which the last is what is left, a byte of any number below 2^32; and back.
use Rattle.std.specs.Prelude.{ℕ, ◌+◌, ◌*◌, ◌/◌, ◌%◌, List, [], ◌∷◌}

-- the first, the second, the third, and what is left
abbrev pub low_byte : ℕ → ℕ
low_byte n = n % 256

abbrev pub second_byte : ℕ → ℕ
second_byte n = n / 256 % 256

abbrev pub third_byte : ℕ → ℕ
third_byte n = n / 256 / 256 % 256

abbrev pub last_byte : ℕ → ℕ
last_byte n = n / 256 / 256 / 256

abbrev pub four_bytes : ℕ → List ℕ
four_bytes n = low_byte n ∷ second_byte n ∷ third_byte n ∷ last_byte n ∷ []

-- the number that four bytes say
abbrev pub of_bytes : ℕ → ℕ → ℕ → ℕ → ℕ
of_bytes a b c d = a + 256 * (b + 256 * (c + 256 * d))
