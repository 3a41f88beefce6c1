-- An item's text: "lower-case hex, two digits a byte".
use Rattle.std.specs.Prelude.{ℕ, ◌+◌, ◌/◌, ◌%◌, ◌<◌, List, [], ◌∷◌, ltb, if◌then◌else◌}
use Rattle.fields.specs.Texts.{texts}

-- the digit of a number below 16: 48 is the digit 0, and 97 the letter a
unfoldable pub hex_digit : ℕ → ℕ
hex_digit n = if ltb n 10 then 48 + n else 87 + n

-- "two digits a byte"
abbrev pub two_digits : ℕ → List ℕ
two_digits b = hex_digit (b / 16) ∷ hex_digit (b % 16) ∷ []

-- the digits of all bytes
abbrev pub hex : List ℕ → List ℕ
hex b = texts two_digits b

-- each is a byte
abbrev pub Bytes : List ℕ → Type 0
Bytes [] = Unit {0}
Bytes (x ∷ xs) = (x < 256) × Bytes xs
