-- Whoever lies along a chain lies within 16 links: there are only sixteen tasks to pass.
use Prim.Native.Nat.{ℕ, zero, suc, ◌+◌, ◌-◌, ◌≤◌, ◌<◌}
use native.Mathlib.Nat.{add-zero, add-suc, add_comm}
use native.Mathlib.Omega.{arith}
use mathlib.Core.Path.{◌≡◌, refl, sym, ◌∙◌, ap}
use mathlib.Core.Logic.{◌⊎◌, inl, inr}
use mathlib.Core.Bool.{Bool, true, false, ◌||◌}
use lib.Dec.{eqb, ltb}
use borrow.Author.Tests.{ltb-true, ltb-false, eqb-true, eqb-false, eq-eqb, ne_eqb}
use Rattle.lists.proofs.Bools.{or_left, or_right}
use Rattle.chains.specs.Chains.{within, Along, here, link}
use Rattle.chains.proofs.Many.{how_many, many_at_most, many_le, many_same, many_some}

pub within_along : (next : ℕ → ℕ) (n s u : ℕ) → within next n s u ≡ true → Along next s u
unfolding within
within_along next zero s u e = rw (eqb-true s u e) here
within_along next (suc n) s u e = go (eqb s u) refl (within_along next n (next s) u) e
  where
    go : (b : Bool) → eqb s u ≡ b → (within next n (next s) u ≡ true → Along next (next s) u) → (b || within next n (next s) u) ≡ true → Along next s u
    go true t ih e = rw (eqb-true s u t) here
    go false t ih e = link (ih e)

module _ (next : ℕ → ℕ) (past : (s : ℕ) → 16 ≤ s → 16 ≤ next s) (u : ℕ) (h : u < 16) where
  -- from past the sixteen none of them is met
  pub within_past : (n s : ℕ) → 16 ≤ s → within next n s u ≡ false
  unfolding within
  within_past zero s l = ne_eqb s u (λ e. omega arith)
  within_past (suc n) s l = rw (ne_eqb s u (λ e. omega arith)) (within_past n (next s) (past s l))

  -- more links lead to no fewer
  within_more : (n s : ℕ) → within next n s u ≡ true → within next (suc n) s u ≡ true
  unfolding within
  within_more zero s e = or_left (eqb s u) (within next 0 (next s) u) e
  within_more (suc n) s e = go (eqb s u) (within next n (next s) u) (within_more n (next s)) e
    where
      go : (b c : Bool) → (c ≡ true → (eqb (next s) u || within next n (next (next s)) u) ≡ true) → (b || c) ≡ true → (b || (eqb (next s) u || within next n (next (next s)) u)) ≡ true
      go true c f e = refl
      go false c f e = f e

  within_add : (n m s : ℕ) → within next n s u ≡ true → within next (n + m) s u ≡ true
  within_add n zero s e = rw (add-zero n) e
  within_add n (suc m) s e = rw (add-suc n m) (within_more (n + m) s (within_add n m s e))

  -- where one link more leads from nobody new, no number of links does
  Still : ℕ → Type 0
  Still n = (s : ℕ) → within next n s u ≡ within next (suc n) s u

  still : (n : ℕ) → ((s : ℕ) → s < 16 → within next n s u ≡ within next (suc n) s u) → Still n
  unfolding Still
  still n f s = go (ltb s 16) refl
    where
      go : (b : Bool) → ltb s 16 ≡ b → within next n s u ≡ within next (suc n) s u
      go true e = f s (ltb-true s 16 e)
      go false e = within_past n s (ltb-false s 16 e) ∙ sym (within_past (suc n) s (ltb-false s 16 e))

  still_more : (n : ℕ) → Still n → Still (suc n)
  unfolding Still within
  still_more n f s = ap (λ b. eqb s u || b) (f (next s))

  stays : (n m : ℕ) → Still n → Still (n + m)
  stays n zero f = rw (add-zero n) f
  stays n (suc m) f = rw (add-suc n m) (still_more (n + m) (stays n m f))

  still_add : (n m : ℕ) → Still n → (s : ℕ) → within next (n + m) s u ≡ within next n s u
  unfolding Still
  still_add n zero f s = rw (add-zero n)
  still_add n (suc m) f s = rw (add-suc n m) (sym (stays n m f s) ∙ still_add n m f s)

  from : ℕ → ℕ
  from n = how_many 16 (λ s. within next n s u)

  -- with each link u is met from someone new, or from nobody new again
  new_or_still : (n : ℕ) → (Still n) ⊎ (from n < from (suc n))
  unfolding from
  new_or_still n = go (eqb (from n) (from (suc n))) refl
    where
      f : (s : ℕ) → within next n s u ≡ true → within next (suc n) s u ≡ true
      f s e = within_more n s e

      go : (b : Bool) → eqb (from n) (from (suc n)) ≡ b → (Still n) ⊎ (from n < from (suc n))
      go true e = inl (still n (many_same (λ s. within next n s u) (λ s. within next (suc n) s u) f 16 (eqb-true (from n) (from (suc n)) e)))
      go false e = inr (omega (arith, eqb-false (from n) (from (suc n)) e, many_le (λ s. within next n s u) (λ s. within next (suc n) s u) f 16))

  -- so among sixteen that has ended within 16 links
  stops : (m : ℕ) → ((n : ℕ) × (n ≤ m) × Still n) ⊎ (m < from m)
  unfolding from within
  stops zero = inr (many_some 16 (λ s. within next 0 s u) u h (eq-eqb u u refl))
  stops (suc m) = go (stops m) (new_or_still m)
    where
      go : ((n : ℕ) × (n ≤ m) × Still n) ⊎ (m < from m) → (Still m) ⊎ (from m < from (suc m)) → ((n : ℕ) × (n ≤ suc m) × Still n) ⊎ (suc m < from (suc m))
      go (inl t) e = inl (t.0, omega (arith, t.1), t.2)
      go (inr l) (inl f) = inl (m, omega arith, f)
      go (inr l) (inr k) = inr (omega arith)

  stopped : (n : ℕ) × (n ≤ 16) × Still n
  unfolding from
  stopped = go (stops 16)
    where
      go : ((n : ℕ) × (n ≤ 16) × Still n) ⊎ (16 < from 16) → (n : ℕ) × (n ≤ 16) × Still n
      go (inl t) = t
      go (inr l) = absurd (omega (arith, many_at_most 16 (λ s. within next 16 s u)))

  links : {s t : ℕ} → Along next s t → t ≡ u → (k : ℕ) × (within next k s u ≡ true)
  unfolding within
  links {s} here e = (0, eq-eqb s u e)
  links {s} (link r) e =
      let t = links r e in
      (suc t.0, or_right (eqb s u) (within next t.0 (next s) u) t.1)

  pub along_within : (s : ℕ) → Along next s u → within next 16 s u ≡ true
  along_within s r =
      let t = links r refl in
      let n = stopped in
      let a : within next (n.0 + t.0) s u ≡ true = rw (add_comm n.0 t.0) (within_add t.0 n.0 s t.1) in
      let b : within next n.0 s u ≡ true = sym (still_add n.0 t.0 n.2 s) ∙ a in
      let c : n.0 + (16 - n.0) ≡ 16 = omega (arith, n.1) in
      rw c at (within_add n.0 (16 - n.0) s b)

-- to whom no link leads, only it leads to itself
pub within_alone : (next : ℕ → ℕ) (u : ℕ) → ((s : ℕ) → next s ≡ u → ⊥) → (n s : ℕ) → within next n s u ≡ true → s ≡ u
unfolding within
within_alone next u f zero s e = eqb-true s u e
within_alone next u f (suc n) s e = go (eqb s u) refl (within_alone next u f n (next s)) e
  where
    go : (b : Bool) → eqb s u ≡ b → (within next n (next s) u ≡ true → next s ≡ u) → (b || within next n (next s) u) ≡ true → s ≡ u
    go true t ih e = eqb-true s u t
    go false t ih e = absurd (f s (ih e))

pub within_itself : (next : ℕ → ℕ) (n u : ℕ) → within next n u u ≡ true
unfolding within
within_itself next zero u = eq-eqb u u refl
within_itself next (suc n) u = or_left (eqb u u) (within next n (next u) u) (eq-eqb u u refl)
