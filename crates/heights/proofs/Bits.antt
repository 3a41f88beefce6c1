-- The word's bits: that of line p is set exactly if a ready task stands in line p.
use Prim.Native.Nat.{ℕ, zero, suc, ◌+◌, ◌-◌, ◌/◌, ◌%◌, ◌^◌, ◌<◌}
use native.Mathlib.Nat.{pow-suc, mod-lt, div_self, div-eq_of_lt}
use native.Mathlib.Omega.{arith}
use mathlib.Core.Path.{◌≡◌, refl, ◌∙◌, ap}
use mathlib.Core.Bool.{Bool, true, false, ◌&&◌, ◌||◌, or-false, or_assoc}
use mathlib.Core.List.{List, [], ◌∷◌}
use lib.Bits.{bit_or, or_shr, or_mod}
use lib.Dec.{eqb, ltb}
use lib.Pow.{pow_pos, pow-lt, pow-add, shl-shr}
use borrow.Author.Tests.{ltb-true, ltb-false, eqb-true, eqb-false, ne_eqb}
use Rattle.lists.specs.Lists.{foldl, any}
use Rattle.heights.specs.declared.Lines.{Lines}
use Rattle.heights.specs.Heights.{lit, is_lit, no_lines, noted, occupied}
use Rattle.heights.proofs.Counts.{each_noted}

-- the bit of line p in the power of q
power_bit : (p q : ℕ) → eqb (2 ^ q / 2 ^ p % 2) 1 ≡ eqb q p
power_bit p q = go (eqb q p) (ltb q p) refl refl
  where
    go : (b l : Bool) → eqb q p ≡ b → ltb q p ≡ l → eqb (2 ^ q / 2 ^ p % 2) 1 ≡ b
    go true l e f = rw (eqb-true q p e, div_self (pow_pos p))
    go false true e f = rw (div-eq_of_lt (pow-lt (ltb-true q p f)))
    go false false e f =
        let d = q - suc p in
        let k : q ≡ suc d + p = omega (arith, eqb-false q p e, ltb-false q p f) in
        let z : 2 ^ suc d % 2 ≡ 0 = omega (arith, pow-suc 2 d) in
        rw (k, pow-add 2 (suc d) p, shl-shr (2 ^ suc d) p, z)

or_bit : (x y : ℕ) → x < 2 → y < 2 → eqb (bit_or x y) 1 ≡ (eqb x 1 || eqb y 1)
or_bit zero y h l = refl
or_bit (suc zero) zero h l = refl
or_bit (suc zero) (suc zero) h l = refl
or_bit (suc zero) (suc (suc y)) h l = absurd (omega arith)
or_bit (suc (suc x)) y h l = absurd (omega arith)

lit_bit : (w q p : ℕ) → is_lit (lit w q) p ≡ (is_lit w p || eqb q p)
unfolding lit is_lit
lit_bit w q p =
    rw (or_shr w (2 ^ q) p, or_mod (w / 2 ^ p) (2 ^ q / 2 ^ p) 1)
    (or_bit (w / 2 ^ p % 2) (2 ^ q / 2 ^ p % 2) (mod-lt _ (omega arith)) (mod-lt _ (omega arith)) ∙ ap (λ b. is_lit w p || b) (power_bit p q))

no_bit : (p : ℕ) → is_lit 0 p ≡ false
unfolding is_lit
no_bit p = rw (div-eq_of_lt (pow_pos p))

-- one task more; a priority past the lines has no bit
noted_bit : (o : Lines) (ready : Bool) (q p : ℕ) → p < 32 → is_lit (noted o ready q).word p ≡ (is_lit o.word p || (ready && eqb q p))
noted_bit o ready q p l =
    each_noted (λ n. is_lit n.word p ≡ (is_lit o.word p || (ready && eqb q p))) o ready q
    (λ e f. rw e (lit_bit o.word q p))
    (λ e f. rw (e, ne_eqb q p (λ z. omega (arith, z)), or-false))
    (λ e. rw (e, or-false))

module _ {A : Type 0} (ready : A → Bool) (level : A → ℕ) (p : ℕ) (l : p < 32) where
  bits : (o : Lines) (xs : List A) → is_lit (foldl (λ s x. noted s (ready x) (level x)) o xs).word p ≡ (is_lit o.word p || any (λ x. ready x && eqb (level x) p) xs)
  unfolding foldl any
  bits o [] = rw or-false
  bits o (x ∷ xs) = bits (noted o (ready x) (level x)) xs ∙ rw (noted_bit o (ready x) (level x) p l, or_assoc)

  pub word_bit : (xs : List A) → is_lit (occupied ready level xs).word p ≡ any (λ x. ready x && eqb (level x) p) xs
  unfolding occupied
  word_bit xs = bits no_lines xs ∙ rw (no_bit p)
