-- "wait: object, mask, all, clear, wait": what is wanted of an event group, and when its bits satisfy that.
use Rattle.std.specs.Prelude.{ℕ, ◌-◌, Bool, false, not, ◌&&◌, ◌==◌, bit_and, nat_le, if◌then◌else◌}
use Rattle.numbers.specs.declared.ObjSlot.{ObjSlot}
use Rattle.numbers.specs.Numbers.{same_object}
use Rattle.slots.specs.Types.{Want, OwnTurn, Bits, Wait, Place}
use Rattle.slots.specs.Places.{of_blocked}

-- "24 bits"
abbrev pub all_bits : ℕ
all_bits = 16777215

-- "any bit of the mask or all of them": with all, every bit of the mask is set, else at least one (`satisfied_says`)
abbrev pub holds_of : ℕ → ℕ → Bool → Bool
holds_of b m all = if all then (bit_and b m == m) else not (bit_and b m == 0)

-- what the bits satisfy; whoever waits for its turn waits for no bits
abbrev pub satisfied : ℕ → Want → Bool
satisfied b OwnTurn = false
satisfied b (Bits m all clear) = holds_of b m all

-- those of the bits that are not in the mask: "kept or cleared when satisfied"
abbrev pub cleared : ℕ → ℕ → ℕ
cleared b m = b - bit_and b m

-- the bits that it asks to have cleared
abbrev pub clears : Want → ℕ
clears OwnTurn = 0
clears (Bits m all clear) = if clear then m else 0

-- "with a mask and flags that the call accepts": a flag is 0 or 1, which is false or true here
abbrev pub accepted_mask : ℕ → Bool
accepted_mask m = nat_le 1 m && nat_le m all_bits

-- a wait on this object, for this
abbrev pub wait_on : ObjSlot → Want → Wait
wait_on o x = record { object = o; want = x }

-- it waits on o, and the bits satisfy it
abbrev pub satisfied_on : ObjSlot → ℕ → Place → Bool
satisfied_on o b p = of_blocked false (λ w. false) (λ x w. same_object x.object o && satisfied b x.want) p

-- what a task in this place wants; its turn, if it does not wait
abbrev pub want_in : Place → Want
want_in p = of_blocked OwnTurn (λ w. OwnTurn) (λ x w. x.want) p
