-- What each row wants, as two columns of numbers; and back.
use Rattle.std.specs.Prelude.{ℕ, Bool, true, false, not, ◌||◌, List, map, eqb, leb, get_or, set, if◌then◌else◌}
use Rattle.slots.specs.declared.Want.{Want}
use Rattle.slots.specs.declared.Want.TheVariants.{OwnTurn, Bits}
use Rattle.tasks.specs.declared.Wants.{Wants}

-- 0 says that it waits for its turn, or does not wait; else bits are wanted, and the two flags with them
abbrev pub flagged : Bool → Bool → ℕ
flagged false false = 1
flagged true false = 2
flagged false true = 3
flagged true true = 4

abbrev pub flags_of : Want → ℕ
flags_of OwnTurn = 0
flags_of (Bits m all clear) = flagged all clear

abbrev pub mask_of : Want → ℕ
mask_of OwnTurn = 0
mask_of (Bits m all clear) = m

abbrev pub want_of : ℕ → ℕ → Want
want_of m f = if eqb f 0 then OwnTurn else Bits m (eqb f 2 || eqb f 4) (leb 3 f)

-- the columns that stand for a list of wants; with the row n changed; what the row n wants
unfoldable pub wants_of : List Want → Wants
wants_of ws = record { mask = map mask_of ws; flags = map flags_of ws }

unfoldable pub want_put : Wants → ℕ → Want → Wants
want_put x n w = record { mask = set x.mask n (mask_of w); flags = set x.flags n (flags_of w) }

unfoldable pub want_at : Wants → ℕ → Want
want_at x n = want_of (get_or x.mask n 0) (get_or x.flags n 0)

-- "a number that a state does not use is 0": a mask is used only with flags
abbrev pub mask_fine : ℕ → ℕ → Bool
mask_fine m f = not (eqb f 0) || eqb m 0
