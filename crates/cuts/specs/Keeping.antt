-- What there is of a line, byte by byte.
use Rattle.std.specs.Prelude.{ℕ, ◌+◌, ◌≡◌, Bool, true, false, Result, Ok, Err, List, [], ◌∷◌, eqb, ltb, set, replicate, if◌then◌else◌}
use Rattle.lists.specs.Lists.{index}
use Rattle.cuts.specs.declared.Cut.{Cut}

abbrev pub cut_of : List ℕ → ℕ → Cut
cut_of bytes n = record { bytes = bytes; len = n }

-- no byte yet
unfoldable pub no_byte : Cut
no_byte = cut_of (replicate 256 0) 0

abbrev pub is_blank : Cut → Bool
is_blank c = eqb c.len 0

-- one more byte of a line. "A line has at most 256 bytes with its newline": of a longer one it is only known that it is longer
unfoldable pub with_byte : Cut → ℕ → Cut
with_byte c b = if ltb c.len 256 then cut_of (set c.bytes c.len b) (c.len + 1) else cut_of c.bytes 257

-- no byte yet of the next line
unfoldable pub ended : Cut → Cut
ended c = cut_of c.bytes 0

-- it ends a line
abbrev pub is_newline : ℕ → Bool
is_newline b = eqb b 10

-- the place of the next newline in the bytes l of a block, from the place i on; their end where there is none
abbrev pub newline_from : ℕ → List ℕ → ℕ
newline_from i l = i + index is_newline l

-- where a block is left: the place, what there is of the line then, and whether its newline stands there
pub record Gathered : Type 0 where
  pub next : ℕ
  pub cut : Cut
  pub newline : Bool

-- the bytes l of a block, from the place i on, are kept as far as the next newline
unfoldable pub gathered : ℕ → Cut → List ℕ → Gathered
gathered i c [] = record { next = i; cut = c; newline = false }
gathered i c (b ∷ l) = if eqb b 10 then record { next = i; cut = c; newline = true } else gathered (i + 1) (with_byte c b) l

-- what is told of it: the place of the newline or, where there is none, the place where the block ended; and what there is of the line then
pub record Gathers (g : Gathered) (r : Result ℕ ℕ) (after : Cut) : Type 0 where
  pub next : r ≡ (if g.newline then Ok g.next else Err g.next)
  pub cut : after ≡ g.cut
