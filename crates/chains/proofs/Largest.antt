-- The largest own priority along the chains that lead to a task: at least each of them, and one of them.
use Prim.Native.Nat.{ℕ, zero, suc, ◌≤◌, ◌<◌, max}
use native.Mathlib.Omega.{arith}
use mathlib.Core.Path.{◌≡◌, refl, sym, ap, ◌∙◌}
use mathlib.Core.Logic.{◌⊎◌, inl, inr}
use mathlib.Core.Bool.{Bool, true, false, false≢true}
use lib.Dec.{eqb, ltb}
use borrow.Author.Tests.{ltb-true, ltb-false, eqb-true, eqb-false}
use Rattle.std.proofs.Common.{if◌then◌else◌}
use Rattle.lists.specs.Lists.{larger, up_to}
use Rattle.lists.proofs.Tests.{larger-max}
use Rattle.chains.specs.Chains.{within, largest_own}
use Rattle.chains.proofs.Paths.{within_itself, within_alone}

module _ (own next : ℕ → ℕ) (u : ℕ) where
  -- the largest of the first m
  abbrev pub among : ℕ → ℕ
  among m = up_to (λ l s. if within next 16 s u then larger l (own s) else l) m 0

  pub one_more : (m : ℕ) → among (suc m) ≡ (if within next 16 m u then max (among m) (own m) else among m)
  unfolding up_to
  one_more m = rw (larger-max (among m) (own m))

  above : (m s : ℕ) → s < m → within next 16 s u ≡ true → own s ≤ among m
  above zero s l e = absurd (omega arith)
  above (suc m) s l e = go (above m s) (eqb s m) (within next 16 m u) refl refl (one_more m)
    where
      go : (s < m → within next 16 s u ≡ true → own s ≤ among m) → (b c : Bool) → eqb s m ≡ b → within next 16 m u ≡ c → among (suc m) ≡ (if c then max (among m) (own m) else among m)
          → own s ≤ among (suc m)
      go ih true true p q o = rw (eqb-true s m p) (omega (arith, o))
      go ih true false p q o = absurd (false≢true (sym q ∙ (rw (eqb-true s m p) at e)))
      go ih false true p q o = omega (arith, o, ih (omega (arith, eqb-false s m p)) e)
      go ih false false p q o = omega (arith, o, ih (omega (arith, eqb-false s m p)) e)

  -- one of theirs, or 0 still
  abbrev One : ℕ → Type 0
  One m = (s : ℕ) × (s < m) × (within next 16 s u ≡ true) × (own s ≡ among m)

  one_of : (m : ℕ) → (among m ≡ 0) ⊎ One m
  unfolding up_to
  one_of zero = inl refl
  one_of (suc m) = go (one_of m) (within next 16 m u) (ltb (among m) (own m)) refl refl (one_more m)
    where
      go : (among m ≡ 0) ⊎ One m → (c b : Bool) → within next 16 m u ≡ c → ltb (among m) (own m) ≡ b → among (suc m) ≡ (if c then max (among m) (own m) else among m)
          → (among (suc m) ≡ 0) ⊎ One (suc m)
      go t true true p q o = inr (m, omega arith, p, omega (arith, o, ltb-true (among m) (own m) q))
      go (inl z) true false p q o = inl (omega (arith, o, ltb-false (among m) (own m) q))
      go (inr t) true false p q o = inr (t.0, omega (arith, t.1), t.2, omega (arith, o, t.3, ltb-false (among m) (own m) q))
      go (inl z) false b p q o = inl (omega (arith, o))
      go (inr t) false b p q o = inr (t.0, omega (arith, t.1), t.2, omega (arith, o, t.3))

  pub largest_least : (s : ℕ) → s < 16 → within next 16 s u ≡ true → own s ≤ largest_own own next u
  unfolding largest_own
  largest_least s l e = above 16 s l e

  pub largest_one : u < 16 → (s : ℕ) × (s < 16) × (within next 16 s u ≡ true) × (own s ≡ largest_own own next u)
  unfolding largest_own
  largest_one h = go (one_of 16)
    where
      go : (among 16 ≡ 0) ⊎ One 16 → One 16
      go (inl z) = (u, h, within_itself next 16 u, omega (arith, z, above 16 u h (within_itself next 16 u)))
      go (inr t) = t

  -- where no link leads to u it has its own
  pub largest_own_lem : u < 16 → ((s : ℕ) → next s ≡ u → ⊥) → largest_own own next u ≡ own u
  largest_own_lem h f =
      let t = largest_one h in
      sym (ap own (sym (within_alone next u f 16 t.0 t.2)) ∙ t.3)

-- it rests on the priorities of the sixteen and on the links alone
among_same : (own own' next : ℕ → ℕ) (u m : ℕ) → ((s : ℕ) → s < m → own s ≡ own' s) → among own next u m ≡ among own' next u m
unfolding up_to
among_same own own' next u zero e = refl
among_same own own' next u (suc m) e = rw (among_same own own' next u m (λ s l. e s (omega arith)), e m (omega arith))

pub largest_same : (own own' next next' : ℕ → ℕ) → ((s : ℕ) → s < 16 → own s ≡ own' s) → ((s : ℕ) → next s ≡ next' s) → (u : ℕ) → largest_own own next u ≡ largest_own own' next' u
unfolding largest_own
largest_same own own' next next' e f u = among_same own own' next u 16 e ∙ ap (λ (g : ℕ → ℕ). among own' g u 16) (λ i s. f s i)
