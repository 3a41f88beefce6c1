-- How long the board may sleep: until the tick, so many from now, on which somebody is due; or for ever.
use Rattle.std.specs.Prelude.{ℕ, Option}

abbrev pub Sleep : Type 0
Sleep = Option ℕ
