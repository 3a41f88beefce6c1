-- How many of the first numbers pass a test.
use Prim.Native.Nat.{ℕ, zero, suc, ◌+◌, ◌≤◌, ◌<◌}
use native.Mathlib.Omega.{arith}
use mathlib.Core.Path.{◌≡◌, refl, sym}
use mathlib.Core.Bool.{Bool, true, false}
use lib.Dec.{eqb}
use borrow.Author.Tests.{eqb-true, eqb-false}

-- how many below k pass
abbrev bit : Bool → ℕ
bit true = 1
bit false = 0

pub how_many : ℕ → (ℕ → Bool) → ℕ
how_many zero p = 0
how_many (suc k) p = bit (p k) + how_many k p

bit_le : (b c : Bool) → (b ≡ true → c ≡ true) → bit b ≤ bit c
bit_le true c f = rw (f refl) (omega arith)
bit_le false c f = omega arith

bit_same : (b c : Bool) → (b ≡ true → c ≡ true) → bit b ≡ bit c → b ≡ c
bit_same true c f e = sym (f refl)
bit_same false true f e = absurd (omega (arith, e))
bit_same false false f e = refl

pub many_at_most : (k : ℕ) (p : ℕ → Bool) → how_many k p ≤ k
unfolding how_many
many_at_most zero p = omega arith
many_at_most (suc k) p = omega (arith, many_at_most k p, one (p k))
  where
    one : (b : Bool) → bit b ≤ 1
    one true = omega arith
    one false = omega arith

module _ (p q : ℕ → Bool) (f : (i : ℕ) → p i ≡ true → q i ≡ true) where
  pub many_le : (k : ℕ) → how_many k p ≤ how_many k q
  unfolding how_many
  many_le zero = omega arith
  many_le (suc k) = omega (arith, many_le k, bit_le (p k) (q k) (f k))

  -- as many of the wider test: the two are one
  pub many_same : (k : ℕ) → how_many k p ≡ how_many k q → (i : ℕ) → i < k → p i ≡ q i
  unfolding how_many
  many_same zero e i l = absurd (omega arith)
  many_same (suc k) e i l =
      let a : bit (p k) ≡ bit (q k) = omega (arith, e, many_le k, bit_le (p k) (q k) (f k)) in
      let r : how_many k p ≡ how_many k q = omega (arith, e, many_le k, bit_le (p k) (q k) (f k)) in
      go a (many_same k r i) (eqb i k) refl
    where
      go : bit (p k) ≡ bit (q k) → (i < k → p i ≡ q i) → (b : Bool) → eqb i k ≡ b → p i ≡ q i
      go a ih true t = rw (eqb-true i k t) (bit_same (p k) (q k) (f k) a)
      go a ih false t = ih (omega (arith, eqb-false i k t))

pub many_some : (k : ℕ) (p : ℕ → Bool) (i : ℕ) → i < k → p i ≡ true → 0 < how_many k p
unfolding how_many
many_some zero p i l e = absurd (omega arith)
many_some (suc k) p i l e = go (many_some k p i) (eqb i k) refl
  where
    go : (i < k → p i ≡ true → 0 < how_many k p) → (b : Bool) → eqb i k ≡ b → 0 < bit (p k) + how_many k p
    go ih true t =
        let y : p k ≡ true = rw (eqb-true i k t) at e in
        rw y (omega arith)
    go ih false t = omega (arith, ih (omega (arith, eqb-false i k t)) e)
