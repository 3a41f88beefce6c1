-- The count of leading zeros finds the highest occupied line.
use Prim.Native.Nat.{ℕ, zero, suc, ◌-◌, ◌*◌, ◌%◌, ◌^◌, ◌≤◌, ◌<◌, max}
use native.Mathlib.Nat.{pow-suc, one-mul}
use native.Mathlib.Omega.{arith}
use mathlib.Core.Path.{◌≡◌, refl, sym, ◌∙◌, ap}
use mathlib.Core.Bool.{Bool, true, false}
use mathlib.Core.List.{List, [], ◌∷◌}
use lib.Bits.{bit_or, or_zero_l, or_lt, or_add_and, and_le_l, and_le_r}
use lib.Count.{count_leading_zeros, leading_of_zero, leading_top}
use lib.Dec.{ltb}
use lib.Pow.{pow_mono, pow_pos, shl_exact}
use borrow.Author.Tests.{ltb-true, ltb-false}
use Rattle.std.proofs.Common.{if◌then◌else◌}
use Rattle.lists.specs.Lists.{larger, foldl, kept}
use Rattle.lists.proofs.Tests.{larger-max}
use Rattle.heights.specs.declared.Lines.{Lines}
use Rattle.heights.specs.Heights.{lit, top, no_lines, noted, height, occupied, largest}

-- a power below a power
below : (i j : ℕ) → 2 ^ i < 2 ^ j → i < j
below i j h = go (ltb i j) refl
  where
    go : (t : Bool) → ltb i j ≡ t → i < j
    go true e = ltb-true i j e
    go false e = absurd (omega (arith, pow_mono (ltb-false i j e)))

-- a word that is not 0 lies between the power of its top and twice that
top_in : (w : ℕ) → 0 < w → w < 2 ^ 32 → (2 ^ top w ≤ w) × (w ≤ 2 * 2 ^ top w - 1)
unfolding top
top_in w p h =
    let t = leading_top 32 w p h in
    let j : 31 - count_leading_zeros 32 w ≡ t.0 = omega (arith, t.1) in
    rw j (t.2, omega (arith, t.3, pow-suc 2 t.0))

-- and that is the top's only
top_only : (w i : ℕ) → w < 2 ^ 32 → 2 ^ i ≤ w → w ≤ 2 * 2 ^ i - 1 → top w ≡ i
top_only w i h a b =
    let t = top_in w (omega (arith, pow_pos i)) h in
    let l : i < suc (top w) = below i (suc (top w)) (omega (arith, pow-suc 2 (top w), t.1, pow_pos (top w))) in
    let r : top w < suc i = below (top w) (suc i) (omega (arith, pow-suc 2 i, t.0, pow_pos i)) in
    omega arith

-- so it is i exactly if w lies between 2^i and twice that less one
pub top_iff : (w i : ℕ) → 0 < w → w < 2 ^ 32 → (top w ≡ i → (2 ^ i ≤ w) × (w ≤ 2 * 2 ^ i - 1)) × ((2 ^ i ≤ w) × (w ≤ 2 * 2 ^ i - 1) → top w ≡ i)
top_iff w i p h = (λ e. rw e at (top_in w p h), λ b. top_only w i h b.0 b.1)

top_none : top 0 ≡ 0
unfolding top
top_none = rw (leading_of_zero 32)

-- ── a word with one bit more
le_or_l : (a b : ℕ) → a ≤ bit_or a b
le_or_l a b = omega (arith, or_add_and a b, and_le_r a b)

le_or_r : (a b : ℕ) → b ≤ bit_or a b
le_or_r a b = omega (arith, or_add_and a b, and_le_l a b)

-- as the machine computes it
pub lit_is : (w p : ℕ) → p < 32 → bit_or w (1 * 2 ^ p % 2 ^ 32) ≡ lit w p
unfolding lit
lit_is w p l = ap (bit_or w) (shl_exact 1 p 32 (omega arith) (omega arith) ∙ one-mul (2 ^ p))

lit_fits : (w p : ℕ) → w < 2 ^ 32 → p < 32 → lit w p < 2 ^ 32
unfolding lit
lit_fits w p h l = or_lt 32 w (2 ^ p) h (omega (arith, pow_mono {i = suc p} {j = 32} l, pow-suc 2 p, pow_pos p))

top-lit : (w p : ℕ) → w < 2 ^ 32 → p < 32 → top (lit w p) ≡ max (top w) p
unfolding lit
top-lit zero p h l =
    rw or_zero_l (top_only (2 ^ p) p (omega (arith, pow_mono {i = suc p} {j = 32} l, pow-suc 2 p, pow_pos p)) (omega arith) (omega (arith, pow_pos p)) ∙ rw top_none (omega arith))
top-lit (suc v) p h l =
    let w = suc v in
    let t = top_in w (omega arith) h in
    let m = max (top w) p in
    let q : (2 ^ suc (top w) ≤ 2 ^ suc m) × (2 ^ suc p ≤ 2 ^ suc m) = (pow_mono (omega arith), pow_mono (omega arith)) in
    let u : lit w p < 2 ^ suc m = or_lt (suc m) w (2 ^ p) (omega (arith, t.1, pow-suc 2 (top w), pow_pos (top w), q.0)) (omega (arith, pow-suc 2 p, pow_pos p, q.1)) in
    top_only (lit w p) m (lit_fits w p h l) (go (ltb (top w) p) refl) (omega (arith, u, pow-suc 2 m))
  where
    go : (b : Bool) → ltb (top (suc v)) p ≡ b → 2 ^ max (top (suc v)) p ≤ bit_or (suc v) (2 ^ p)
    go true e =
        let k : max (top (suc v)) p ≡ p = omega (arith, ltb-true (top (suc v)) p e) in
        rw k (le_or_r (suc v) (2 ^ p))
    go false e =
        let k : max (top (suc v)) p ≡ top (suc v) = omega (arith, ltb-false (top (suc v)) p e) in
        rw k (omega (arith, le_or_l (suc v) (2 ^ p), (top_in (suc v) (omega arith) h).0))

-- ── one task more: it has a bit, or stands past the lines, or in none
pub each_noted : (P : Lines → Type 0) (o : Lines) (ready : Bool) (p : ℕ)
    → (ready ≡ true → p < 32 → P (record { word = lit o.word p; over = o.over }))
    → (ready ≡ true → 32 ≤ p → P (record { word = o.word; over = larger o.over p }))
    → (ready ≡ false → P o)
    → P (noted o ready p)
each_noted P o ready p bit past off = go ready refl (ltb p 32) refl
  where
    go : (b : Bool) → ready ≡ b → (t : Bool) → ltb p 32 ≡ t
        → P (if b then if t then record { word = lit o.word p; over = o.over } else record { word = o.word; over = larger o.over p } else o)
    go true e true f = bit e (ltb-true p 32 f)
    go true e false f = past e (ltb-false p 32 f)
    go false e t f = off e

module _ (o : Lines) (ready : Bool) (p : ℕ) (h : o.word < 2 ^ 32) where
  noted_fits : (noted o ready p).word < 2 ^ 32
  noted_fits = each_noted (λ n. n.word < 2 ^ 32) o ready p (λ e l. lit_fits o.word p h l) (λ e l. h) (λ e. h)

  height-noted : height (noted o ready p) ≡ (if ready then max (height o) p else height o)
  height-noted =
      each_noted (λ n. height n ≡ (if ready then max (height o) p else height o)) o ready p
      (λ e l. rw (e, larger-max (top (lit o.word p)) o.over, larger-max (top o.word) o.over, top-lit o.word p h l) (omega arith))
      (λ e l. rw (e, larger-max o.over p, larger-max (top o.word) (max o.over p), larger-max (top o.word) o.over) (omega arith))
      (λ e. rw e)

-- ── all of them: the height is the largest priority of the ready
module _ {A : Type 0} (ready : A → Bool) (level : A → ℕ) where
  heights : (o : Lines) (xs : List A) → o.word < 2 ^ 32 → height (foldl (λ s x. noted s (ready x) (level x)) o xs) ≡ max (height o) (largest level (kept ready xs))
  unfolding foldl kept largest
  heights o [] h = omega arith
  heights o (x ∷ xs) h = heights (noted o (ready x) (level x)) xs (noted_fits o (ready x) (level x) h) ∙ go (kept ready xs) (ready x) (height-noted o (ready x) (level x) h)
    where
      go : (rest : List A) (b : Bool) → height (noted o (ready x) (level x)) ≡ (if b then max (height o) (level x) else height o)
          → max (height (noted o (ready x) (level x))) (largest level rest) ≡ max (height o) (largest level (if b then x ∷ rest else rest))
      go rest true e = rw (e, larger-max (level x) (largest level rest)) (omega arith)
      go rest false e = rw e

  pub height-largest : (xs : List A) → height (occupied ready level xs) ≡ largest level (kept ready xs)
  unfolding occupied
  height-largest xs = heights no_lines xs (omega arith) ∙ rw (larger-max (top 0) 0, top_none) (omega arith)

  -- where every ready one has a line, the word says it all
  none_over : (o : Lines) (xs : List A) → ((x : A) → ready x ≡ true → level x < 32) → (foldl (λ s x. noted s (ready x) (level x)) o xs).over ≡ o.over
  unfolding foldl
  none_over o [] low = refl
  none_over o (x ∷ xs) low =
      none_over (noted o (ready x) (level x)) xs low
      ∙ each_noted (λ n. n.over ≡ o.over) o (ready x) (level x) (λ e l. refl) (λ e l. absurd (omega (arith, low x e))) (λ e. refl)

  pub top-largest : (xs : List A) → ((x : A) → ready x ≡ true → level x < 32) → top (occupied ready level xs).word ≡ largest level (kept ready xs)
  unfolding occupied
  top-largest xs low = sym (rw (none_over no_lines xs low, larger-max (top (occupied ready level xs).word) 0) (omega arith)) ∙ height-largest xs

-- the largest of those kept, by what each of them gives
pub largest_same : {A : Type 0} (f g : A → ℕ) (p : A → Bool) → ((x : A) → p x ≡ true → f x ≡ g x) → (xs : List A) → largest f (kept p xs) ≡ largest g (kept p xs)
unfolding largest kept
largest_same f g p same [] = refl
largest_same {A} f g p same (x ∷ xs) = go (p x) refl (largest_same f g p same xs)
  where
    go : (b : Bool) → p x ≡ b → largest f (kept p xs) ≡ largest g (kept p xs) → largest f (if b then x ∷ kept p xs else kept p xs) ≡ largest g (if b then x ∷ kept p xs else kept p xs)
    go true e ih = rw (same x e, ih)
    go false e ih = ih
