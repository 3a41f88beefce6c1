-- What is read as a number at a place.
use Rattle.std.specs.Prelude.{ℕ, ◌+◌, ◌*◌, min, List, [], ◌∷◌, ltb, eqb, if◌then◌else◌, Option, Some, None}
use Rattle.fields.specs.Digit.{digit_of}
use Rattle.fields.specs.declared.Number.{Number}

-- v with the digit b after it; 2 ^ 32 where b is no digit or the number would not be below that
unfoldable pub grow : ℕ → ℕ → ℕ
grow v b = if ltb (digit_of b) 256 then min (v * 10 + digit_of b) 4294967296 else 4294967296

-- the number v, and the place i after it
abbrev pub got : ℕ → ℕ → Option Number
got v i = Some record { value = v; next = i }

-- v was read up to the place i, and l is left: the digits that go on with it are taken
abbrev pub more : ℕ → ℕ → List ℕ → Option Number
more v i [] = got v i
more v i (x ∷ l) = if ltb (grow v x) 4294967296 then more (grow v x) (i + 1) l else got v i

-- the longest number at the front of l, which begins at the place i
abbrev pub read_number : ℕ → List ℕ → Option Number
read_number i [] = None
read_number i (x ∷ l) = if ltb (digit_of x) 256 then if eqb (digit_of x) 0 then got 0 (i + 1) else more (digit_of x) (i + 1) l else None
