-- What a call asks, as the rows of the refusal table speak of it.
use Rattle.std.specs.Prelude.{ℕ, Bool, not, ◌||◌, eqb}
use Rattle.rows.specs.Types.{Asked}

-- it is the call of this number
abbrev pub is : ℕ → Asked → Bool
is n a = eqb a.number n

-- make queue, make mutex, make recursive mutex, make event group
abbrev pub makes_object : Asked → Bool
makes_object a = is 10 a || (is 11 a || (is 19 a || is 20 a))

-- "create or make"
abbrev pub makes : Asked → Bool
makes a = is 1 a || makes_object a

-- "delete or suspend"
abbrev pub stops : Asked → Bool
stops a = is 2 a || is 3 a

-- "any wait other than 0"
abbrev pub waits : Asked → Bool
waits a = not (eqb a.wait 0)
