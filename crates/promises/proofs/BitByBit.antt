-- Numbers bit by bit: what the bits of two joined are, of what both have, and of what is cleared; and that numbers with the same bits are the same.
use Prim.Native.Nat.{ℕ, zero, suc, ◌+◌, ◌-◌, ◌/◌, ◌%◌, ◌^◌, ◌<◌, ◌≤◌, min, max}
use mathlib.Core.Path.{◌≡◌, refl, sym, ap, ◌∙◌}
use mathlib.Core.Bool.{Bool, true, false, not, ◌&&◌, ◌||◌, false≢true, and-false}
use native.Mathlib.Nat.{pow-succ', div-div-eq-div-mul, div-eq_of_lt}
use native.Mathlib.Omega.{arith}
use lib.Arith.{bin_ind}
use lib.Bits.{bit_and, bit_or, and_step, or_step, and_shr, or_shr, and_le_l}
use lib.Dec.{eqb}
use lib.Pow.{pow_pos}
use borrow.Author.Tests.{eqb-true, eqb-false, eq-eqb, ne_eqb}
use Rattle.lists.proofs.Bools.{and_left, and_right}
use Rattle.slots.specs.Wants.{holds_of, cleared}
use Rattle.promises.specs.EventGroups.{has_bit, EveryBit, SomeBit, SatisfiedSays}

-- ── the lowest bit, and the others
pub low_bit : (n : ℕ) → has_bit 0 n ≡ eqb (n % 2) 1
low_bit n = let e : n / 1 ≡ n = omega arith in rw e

pub higher_bit : (i n : ℕ) → has_bit (suc i) n ≡ has_bit i (n / 2)
higher_bit i n = rw (pow-succ' 2 i, div-div-eq-div-mul n 2 (2 ^ i))

pub none_in_zero : (i : ℕ) → has_bit i 0 ≡ false
none_in_zero i = rw (div-eq_of_lt (pow_pos i))

-- ── of one digit each
by_digits : (P : ℕ → ℕ → Type 0) → P 0 0 → P 0 1 → P 1 0 → P 1 1 → (x y : ℕ) → x < 2 → y < 2 → P x y
by_digits P a b c d zero zero h l = a
by_digits P a b c d zero (suc zero) h l = b
by_digits P a b c d zero (suc (suc y)) h l = absurd (omega arith)
by_digits P a b c d (suc zero) zero h l = c
by_digits P a b c d (suc zero) (suc zero) h l = d
by_digits P a b c d (suc zero) (suc (suc y)) h l = absurd (omega arith)
by_digits P a b c d (suc (suc x)) y h l = absurd (omega arith)

or_digit : (x y : ℕ) → x < 2 → y < 2 → eqb (max x y) 1 ≡ (eqb x 1 || eqb y 1)
or_digit = by_digits (λ x y. eqb (max x y) 1 ≡ (eqb x 1 || eqb y 1)) refl refl refl refl

and_digit : (x y : ℕ) → x < 2 → y < 2 → eqb (min x y) 1 ≡ (eqb x 1 && eqb y 1)
and_digit = by_digits (λ x y. eqb (min x y) 1 ≡ (eqb x 1 && eqb y 1)) refl refl refl refl

less_digit : (x y : ℕ) → x < 2 → y < 2 → eqb (x - min x y) 1 ≡ (eqb x 1 && not (eqb y 1))
less_digit = by_digits (λ x y. eqb (x - min x y) 1 ≡ (eqb x 1 && not (eqb y 1))) refl refl refl refl

same_digit : (x y : ℕ) → x < 2 → y < 2 → eqb x 1 ≡ eqb y 1 → x ≡ y
same_digit = by_digits (λ x y. eqb x 1 ≡ eqb y 1 → x ≡ y) (λ e. refl) (λ e. absurd (false≢true e)) (λ e. absurd (false≢true (sym e))) (λ e. refl)

digit : (n : ℕ) → n % 2 < 2
digit n = omega arith

-- ── joined, in both, cleared
or_odd : (a b : ℕ) → bit_or a b % 2 ≡ max (a % 2) (b % 2)
or_odd a b = omega (arith, or_step a b)

and_odd : (a b : ℕ) → bit_and a b % 2 ≡ min (a % 2) (b % 2)
and_odd a b = omega (arith, and_step a b)

less_odd : (a b : ℕ) → cleared a b % 2 ≡ a % 2 - min (a % 2) (b % 2)
less_odd a b = omega (arith, and_step a b, and_le_l (a / 2) (b / 2))

less_half : (a b : ℕ) → cleared a b / 2 ≡ cleared (a / 2) (b / 2)
less_half a b = omega (arith, and_step a b, and_le_l (a / 2) (b / 2))

pub joined_says : (i b m : ℕ) → has_bit i (bit_or b m) ≡ (has_bit i b || has_bit i m)
joined_says i b m = rw (or_shr b m i, or_odd (b / 2 ^ i) (m / 2 ^ i)) (or_digit (b / 2 ^ i % 2) (m / 2 ^ i % 2) (digit (b / 2 ^ i)) (digit (m / 2 ^ i)))

pub both_say : (i b m : ℕ) → has_bit i (bit_and b m) ≡ (has_bit i b && has_bit i m)
both_say i b m = rw (and_shr b m i, and_odd (b / 2 ^ i) (m / 2 ^ i)) (and_digit (b / 2 ^ i % 2) (m / 2 ^ i % 2) (digit (b / 2 ^ i)) (digit (m / 2 ^ i)))

pub cleared_says : (i b m : ℕ) → has_bit i (cleared b m) ≡ (has_bit i b && not (has_bit i m))
cleared_says zero b m = rw (low_bit (cleared b m), low_bit b, low_bit m, less_odd b m) (less_digit (b % 2) (m % 2) (digit b) (digit m))
cleared_says (suc i) b m = rw (higher_bit i (cleared b m), higher_bit i b, higher_bit i m, less_half b m) (cleared_says i (b / 2) (m / 2))

-- ── numbers with the same bits are the same
same_by : (f a b : ℕ) → a ≤ f → b ≤ f → ((i : ℕ) → has_bit i a ≡ has_bit i b) → a ≡ b
same_by zero a b h l e = omega arith
same_by (suc f) a b h l e =
    let odd : a % 2 ≡ b % 2 = same_digit (a % 2) (b % 2) (digit a) (digit b) (sym (low_bit a) ∙ e 0 ∙ low_bit b) in
    let half : a / 2 ≡ b / 2 = same_by f (a / 2) (b / 2) (omega arith) (omega arith) (λ i. sym (higher_bit i a) ∙ e (suc i) ∙ higher_bit i b) in
    omega arith

pub same_bits_lem : (a b : ℕ) → ((i : ℕ) → has_bit i a ≡ has_bit i b) → a ≡ b
same_bits_lem a b e = same_by (a + b) a b (omega arith) (omega arith) e

-- a number that is not 0 has a bit
pub record ABit (n : ℕ) : Type 0 where
  pub which : ℕ
  pub there : has_bit which n ≡ true

pub a_bit : (n : ℕ) → (n ≡ 0 → ⊥) → ABit n
a_bit = bin_ind (λ n. (n ≡ 0 → ⊥) → ABit n) (λ z. absurd (z refl)) (λ n ih z. go n ih z (eqb (n % 2) 1) refl)
  where
    go : (n : ℕ) → ((n / 2 ≡ 0 → ⊥) → ABit (n / 2)) → (n ≡ 0 → ⊥) → (y : Bool) → eqb (n % 2) 1 ≡ y → ABit n
    go n ih z true e = record { which = 0; there = low_bit n ∙ e }
    go n ih z false e =
        let r = ih (λ h. z (omega (arith, eqb-false (n % 2) 1 e))) in
        record { which = suc r.which; there = higher_bit r.which n ∙ r.there }

-- ── "any bit of the mask or all of them"
module _ (b m : ℕ) where
  within_both : EveryBit b m → (i : ℕ) → has_bit i (bit_and b m) ≡ has_bit i m
  within_both f i = both_say i b m ∙ go (has_bit i m) (f i)
    where
      go : (y : Bool) → (y ≡ true → has_bit i b ≡ true) → (has_bit i b && y) ≡ y
      go true g = rw (g refl)
      go false g = and-false (has_bit i b)

  all_there_so : holds_of b m true ≡ true → EveryBit b m
  all_there_so h i e = and_left (has_bit i b) (has_bit i m) (sym (both_say i b m) ∙ ap (has_bit i) (eqb-true (bit_and b m) m h) ∙ e)

  any_there_so : (y : Bool) → eqb (bit_and b m) 0 ≡ y → not y ≡ true → SomeBit b m
  any_there_so true e h = absurd (false≢true h)
  any_there_so false e h =
      let r = a_bit (bit_and b m) (eqb-false (bit_and b m) 0 e) in
      let t = sym (both_say r.which b m) ∙ r.there in
      record { which = r.which; asked_for = and_right (has_bit r.which b) _ t; there = and_left (has_bit r.which b) _ t }

  any_holds_so : SomeBit b m → bit_and b m ≡ 0 → ⊥
  any_holds_so s z = false≢true (sym (none_in_zero s.which) ∙ ap (has_bit s.which) (sym z) ∙ both_say s.which b m ∙ rw (s.asked_for, s.there))

  pub satisfied_says : SatisfiedSays b m
  satisfied_says =
      record {
        all_there = all_there_so;
        all_hold = λ f. eq-eqb (bit_and b m) m (same_bits_lem (bit_and b m) m (within_both f));
        any_there = any_there_so (eqb (bit_and b m) 0) refl;
        any_holds = λ s. rw (ne_eqb (bit_and b m) 0 (any_holds_so s));
      }
