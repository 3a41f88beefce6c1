-- What a byte counts as a digit.
use Rattle.std.specs.Prelude.{ℕ, ◌+◌, ◌-◌, min, ltb, if◌then◌else◌, Option, Some, None}

-- the value of the byte b among those from `first` to `last`, of which the first counts as v; 256 for any other byte
unfoldable pub among : ℕ → ℕ → ℕ → ℕ → ℕ
among first last v b = if ltb b first then 256 else if ltb last b then 256 else v + (b - first)

-- a decimal digit's value, and 256 for any other byte
abbrev pub digit_of : ℕ → ℕ
digit_of b = among 48 57 0 b

-- a lower-case hexadecimal digit's value, and 256 for any other byte
unfoldable pub nibble_of : ℕ → ℕ
nibble_of b = min (among 48 57 0 b) (among 97 102 10 b)

-- n where it lies below m, which is no value; else none
abbrev pub below : ℕ → ℕ → Option ℕ
below m n = if ltb n m then Some n else None
