-- Bits that are cleared: whom they do not satisfy, fewer of them do not either.
use Rattle.std.proofs.Common.{◌≡◌, ℕ, zero, suc, ◌+◌, ◌-◌, ◌*◌, ◌/◌, ◌%◌, ◌≤◌, min, Bool, true, false, not, eqb, sym, refl, ap, arith, eq-eqb, ne_eqb, eqb-true}
use mathlib.Core.Bool.{false≢true}
use lib.Bits.{bit_and, bit_or, and_step, and_zero_l, and_le_l, and_le_r, or_lt}
use borrow.Author.Tests.{eqb-false}
use Rattle.slots.specs.Types.{Want, OwnTurn, Bits}
use Rattle.slots.specs.Wants.{all_bits, holds_of, satisfied, cleared}

-- what is left of the bits shares no more with a mask than they did
fewer_by : (f b c m : ℕ) → b ≤ f → bit_and (b - bit_and b c) m ≤ bit_and b m
fewer_by zero b c m h =
    let z : b ≡ 0 = omega arith in
    rw (z, and_zero_l c, and_zero_l m) (omega arith)
fewer_by (suc f) b c m h =
    let e = b - bit_and b c in
    let a = bit_and (b / 2) (c / 2) in
    let s : bit_and b c ≡ a * 2 + min (b % 2) (c % 2) = and_step b c in
    let l : a ≤ b / 2 = and_le_l (b / 2) (c / 2) in
    let half : e / 2 ≡ b / 2 - a = omega (arith, s, l) in
    let rest : e % 2 ≤ b % 2 = omega (arith, s, l) in
    let ih : bit_and (b / 2 - a) (m / 2) ≤ bit_and (b / 2) (m / 2) = fewer_by f (b / 2) (c / 2) (m / 2) (omega arith) in
    omega (arith, and_step e m, and_step b m, ih, rest, ap (λ (x : ℕ). bit_and x (m / 2)) half)

pub fewer : (b c m : ℕ) → bit_and (cleared b c) m ≤ bit_and b m
fewer b c m = fewer_by b b c m (omega arith)

pub fewer_hold : (b c m : ℕ) (all : Bool) → holds_of b m all ≡ false → holds_of (cleared b c) m all ≡ false
fewer_hold b c m true h = ne_eqb (bit_and (cleared b c) m) m (λ e. eqb-false (bit_and b m) m h (omega (arith, fewer b c m, and_le_r b m)))
fewer_hold b c m false h = go (eqb (bit_and b m) 0) refl
  where
    go : (y : Bool) → eqb (bit_and b m) 0 ≡ y → not (eqb (bit_and (cleared b c) m) 0) ≡ false
    go true e = rw (eq-eqb (bit_and (cleared b c) m) 0 (omega (arith, fewer b c m, eqb-true (bit_and b m) 0 e)))
    go false e = absurd (false≢true (sym (rw e at h)))

pub fewer_satisfied : (b c : ℕ) (x : Want) → satisfied b x ≡ false → satisfied (cleared b c) x ≡ false
fewer_satisfied b c OwnTurn h = refl
fewer_satisfied b c (Bits m all clear) h = fewer_hold b c m all h

-- and they are within the 24, as the two are that are joined
pub cleared_within : (b c : ℕ) → b ≤ all_bits → cleared b c ≤ all_bits
cleared_within b c h = omega arith

pub joined_within : (b c : ℕ) → b ≤ all_bits → c ≤ all_bits → bit_or b c ≤ all_bits
joined_within b c h k = omega (arith, or_lt 24 b c (omega arith) (omega arith))
