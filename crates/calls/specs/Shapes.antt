-- How the arguments of a number's call stand in a line: so many numbers, then an item if there is one, then so many numbers more.
use Rattle.std.specs.Prelude.{ℕ, ◌+◌, ◌≤◌, Bool, true, false, Option, None, Some}
use Rattle.calls.specs.declared.Shape.{Shape as Laid}

-- `known` is false where a number is no call's
pub record Shape : Type 0 where
  pub known : Bool
  pub before : ℕ
  pub item : Bool
  pub after : ℕ

abbrev pub shaped : Bool → ℕ → Bool → ℕ → Shape
shaped k m i n = record { known = k; before = m; item = i; after = n }

abbrev pub unknown : Shape
unknown = shaped false 0 false 0

-- the shape that the code has, if it has one
abbrev pub shape_told : Option Laid → Shape
shape_told None = unknown
shape_told (Some s) = shaped true s.before s.item s.after

abbrev pub Narrow : Option Laid → Type 0
Narrow s = (shape_told s).before + (shape_told s).after ≤ 5
