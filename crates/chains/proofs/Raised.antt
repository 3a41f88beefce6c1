-- What the loans make of each level: the largest own priority along the chains that lead to it.
use Prim.Native.Nat.{ℕ, zero, suc, ◌<◌, max}
use native.Mathlib.Omega.{arith}
use mathlib.Core.Path.{◌≡◌, refl, sym, ◌∙◌}
use mathlib.Core.Bool.{Bool, true, false, ◌||◌}
use mathlib.Core.List.{List}
use lib.Dec.{eqb, ltb}
use lib.ListN.{length, get_or, set, replicate, length-set, get_or-replicate}
use lib.Seq.{get_or-set_same, get_or-set_other}
use borrow.Author.Tests.{ltb-false, eqb-true, eqb-false, eq-eqb, ne_eqb}
use Rattle.std.proofs.Common.{if◌then◌else◌}
use Rattle.lists.specs.Lists.{larger, up_to}
use Rattle.lists.proofs.Tests.{larger-max}
use Rattle.chains.specs.Chains.{within, largest_own}
use Rattle.chains.specs.Columns.{says, next_by, raised, lent, passed, levels_by}
use Rattle.chains.proofs.Paths.{within_itself}
use Rattle.chains.proofs.Largest.{among, one_more, largest_least}

pub raised-length : (t p : ℕ) (ls : List ℕ) → length (raised t p ls) ≡ length ls
unfolding raised
raised-length t p ls = go (ltb t 16)
  where
    go : (b : Bool) → length (if b then set ls t (larger (get_or ls t 0) p) else ls) ≡ length ls
    go true = length-set ls t (larger (get_or ls t 0) p)
    go false = refl

pub raised_at : (t p : ℕ) (ls : List ℕ) (u : ℕ) → u < 16 → length ls ≡ 16 → get_or (raised t p ls) u 0 ≡ (if eqb t u then max (get_or ls u 0) p else get_or ls u 0)
unfolding raised
raised_at t p ls u h l = go (eqb t u) (ltb t 16) refl refl
  where
    go : (b c : Bool) → eqb t u ≡ b → ltb t 16 ≡ c → get_or (if c then set ls t (larger (get_or ls t 0) p) else ls) u 0 ≡ (if b then max (get_or ls u 0) p else get_or ls u 0)
    go true true e f = rw (eqb-true t u e, get_or-set_same ls u (larger (get_or ls u 0) p) 0 (omega arith)) (larger-max (get_or ls u 0) p)
    go true false e f = absurd (omega (arith, eqb-true t u e, ltb-false t 16 f))
    go false true e f = get_or-set_other ls t u (larger (get_or ls t 0) p) 0 (λ q. eqb-false t u e (sym q))
    go false false e f = refl

module _ (onto by : List ℕ) where
  lent_length : (n s p : ℕ) (ls : List ℕ) → length (lent onto by n s p ls) ≡ length ls
  unfolding lent
  lent_length zero s p ls = raised-length s p ls
  lent_length (suc n) s p ls = lent_length n (next_by onto by s) p (raised s p ls) ∙ raised-length s p ls

  module _ (p u : ℕ) (h : u < 16) where
    -- who lies within the loan's links is raised, the others stay
    lent_at : (n s : ℕ) (ls : List ℕ) → length ls ≡ 16 → get_or (lent onto by n s p ls) u 0 ≡ (if within (next_by onto by) n s u then max (get_or ls u 0) p else get_or ls u 0)
    unfolding lent within
    lent_at zero s ls l = raised_at s p ls u h l
    lent_at (suc n) s ls l =
        lent_at n (next_by onto by s) (raised s p ls) (raised-length s p ls ∙ l) ∙ go (eqb s u) (within (next_by onto by) n (next_by onto by s) u) (raised_at s p ls u h l)
      where
        go : (b c : Bool) → get_or (raised s p ls) u 0 ≡ (if b then max (get_or ls u 0) p else get_or ls u 0)
            → (if c then max (get_or (raised s p ls) u 0) p else get_or (raised s p ls) u 0) ≡ (if b || c then max (get_or ls u 0) p else get_or ls u 0)
        go true true e = rw e (omega arith)
        go true false e = e
        go false true e = rw e
        go false false e = e

  -- a loan of 1 where nobody has anything yet marks who lies within 16 links of h
  pub marks_at : (h u : ℕ) → u < 16 → eqb (get_or (lent onto by 16 h 1 (replicate 16 0)) u 0) 1 ≡ within (next_by onto by) 16 h u
  marks_at h u l = one (within (next_by onto by) 16 h u) _ _ (get_or-replicate {A = ℕ} 16 u 0 0 l) (lent_at 1 u l 16 h (replicate 16 0) refl)
    where
      one : (b : Bool) (m n : ℕ) → n ≡ 0 → m ≡ (if b then max n 1 else n) → eqb m 1 ≡ b
      one true m n z e = eq-eqb m 1 (omega arith)
      one false m n z e = ne_eqb m 1 (λ q. omega arith)

module _ (own onto by : List ℕ) (full : length own ≡ 16) where
  -- when the loans of the first m have gone their way
  abbrev levels : ℕ → List ℕ
  levels m = up_to (λ ls i. passed onto by 16 (says onto i) (get_or own i 0) ls) m own

  long : (m : ℕ) → length (levels m) ≡ 16
  unfolding up_to
  long zero = full
  long (suc m) = lent_length onto by 15 (next_by onto by m) (get_or own m 0) (levels m) ∙ long m

  pub levels_length : length (levels_by own onto by) ≡ 16
  unfolding levels_by
  levels_length = long 16

  module _ (u : ℕ) (h : u < 16) where
    abbrev most : ℕ → ℕ
    most m = among (λ s. get_or own s 0) (next_by onto by) u m

    so_far : (m : ℕ) → get_or (levels m) u 0 ≡ max (get_or own u 0) (most m)
    unfolding up_to within
    so_far zero = omega arith
    so_far (suc m) =
        lent_at onto by (get_or own m 0) u h 15 (next_by onto by m) (levels m) (long m)
        ∙ go (eqb m u) (within (next_by onto by) 15 (next_by onto by m) u) refl (so_far m) (one_more (λ s. get_or own s 0) (next_by onto by) u m)
      where
        go : (b c : Bool) → eqb m u ≡ b → get_or (levels m) u 0 ≡ max (get_or own u 0) (most m) → most (suc m) ≡ (if b || c then max (most m) (get_or own m 0) else most m)
            → (if c then max (get_or (levels m) u 0) (get_or own m 0) else get_or (levels m) u 0) ≡ max (get_or own u 0) (most (suc m))
        go true true e ih o = let q : get_or own m 0 ≡ get_or own u 0 = rw (eqb-true m u e) in omega arith
        go true false e ih o = let q : get_or own m 0 ≡ get_or own u 0 = rw (eqb-true m u e) in omega arith
        go false true e ih o = omega arith
        go false false e ih o = omega arith

    pub levels_at : get_or (levels_by own onto by) u 0 ≡ largest_own (λ s. get_or own s 0) (next_by onto by) u
    unfolding levels_by largest_own
    levels_at = omega (arith, so_far 16, largest_least (λ s. get_or own s 0) (next_by onto by) u u h (within_itself (next_by onto by) 16 u))
