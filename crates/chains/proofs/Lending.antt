-- Everyone's loan gone its way, each has the largest own priority among those from which it lies any number of links: at most 16 are enough.
use Prim.Native.Nat.{ℕ, zero, suc, ◌<◌, ◌≤◌, max}
use native.Mathlib.Omega.{arith}
use mathlib.Core.Path.{◌≡◌, refl, sym, ap, ◌∙◌}
use mathlib.Core.Bool.{Bool, true, false, ◌||◌}
use mathlib.Core.List.{List}
use lib.Dec.{eqb, ltb}
use lib.ListN.{length, get_or}
use borrow.Author.Tests.{ltb-true, ltb-false, eqb-true}
use Rattle.std.proofs.Common.{if◌then◌else◌}
use Rattle.lists.specs.Lists.{up_to, values}
use Rattle.lists.proofs.Loops.{values_many, value_at, values_same}
use Rattle.chains.specs.Chains.{within, largest_own, Along}
use Rattle.chains.specs.Columns.{raised}
use Rattle.chains.specs.Lent.{goes_on, levels}
use Rattle.chains.proofs.Paths.{within_along, along_within, within_past, within_itself}
use Rattle.chains.proofs.Largest.{among, one_more, largest_least, largest_one}
use Rattle.chains.proofs.Raised.{raised-length, raised_at}

goes_length : (next : ℕ → ℕ) (n t p : ℕ) (ls : List ℕ) → length (goes_on next n t p ls) ≡ length ls
unfolding goes_on
goes_length next zero t p ls = refl
goes_length next (suc n) t p ls = go (ltb t 16) (goes_length next n (next t) p (raised t p ls))
  where
    go : (b : Bool) → length (goes_on next n (next t) p (raised t p ls)) ≡ length (raised t p ls) → length (if b then goes_on next n (next t) p (raised t p ls) else ls) ≡ length ls
    go true ih = ih ∙ raised-length t p ls
    go false ih = refl

module _ (own next : ℕ → ℕ) where
  -- when the loans of the first m have gone their way
  abbrev lent_by : ℕ → List ℕ
  lent_by m = up_to (λ ls s. goes_on next 16 (next s) (own s) ls) m (values own 16)

  long : (m : ℕ) → length (lent_by m) ≡ 16
  unfolding up_to
  long zero = values_many own 16
  long (suc m) = goes_length next 16 (next m) (own m) (lent_by m) ∙ long m

  pub levels_sixteen : length (levels own next) ≡ 16
  unfolding levels
  levels_sixteen = long 16

  module _ (past : (s : ℕ) → 16 ≤ s → 16 ≤ next s) (u : ℕ) (h : u < 16) where
    abbrev raised_if : Bool → ℕ → List ℕ → ℕ
    raised_if b p ls = if b then max (get_or ls u 0) p else get_or ls u 0

    -- past the sixteen the loan ends
    ends_past : (n t p : ℕ) (ls : List ℕ) (l : List ℕ) (b : Bool) → ltb t 16 ≡ b → (ltb t 16 ≡ true → get_or l u 0 ≡ raised_if (within next n t u) p ls) → get_or (if b then l else ls) u 0 ≡ raised_if (within next n t u) p ls
    ends_past n t p ls l true e f = f e
    ends_past n t p ls l false e f = rw (within_past next past u h n t (ltb-false t 16 e))

    -- who lies within the loan's links is raised, the others stay
    goes_at : (n t p : ℕ) (ls : List ℕ) → length ls ≡ 16 → get_or (goes_on next (suc n) t p ls) u 0 ≡ raised_if (within next n t u) p ls
    unfolding goes_on within
    goes_at zero t p ls l = ends_past zero t p ls (raised t p ls) (ltb t 16) refl (λ e. raised_at t p ls u h l)
    goes_at (suc n) t p ls l =
        ends_past (suc n) t p ls (goes_on next (suc n) (next t) p (raised t p ls)) (ltb t 16) refl
        (λ e. goes_at n (next t) p (raised t p ls) (raised-length t p ls ∙ l) ∙ join (eqb t u) (within next n (next t) u) (raised_at t p ls u h l))
      where
        join : (b c : Bool) → get_or (raised t p ls) u 0 ≡ raised_if b p ls → raised_if c p (raised t p ls) ≡ raised_if (b || c) p ls
        join true true e = rw e (omega arith)
        join true false e = e
        join false true e = rw e
        join false false e = e

    abbrev most : ℕ → ℕ
    most m = among own next u m

    so_far : (m : ℕ) → get_or (lent_by m) u 0 ≡ max (own u) (most m)
    unfolding up_to within
    so_far zero = value_at own 16 u 0 h ∙ omega arith
    so_far (suc m) =
        goes_at 15 (next m) (own m) (lent_by m) (long m)
        ∙ go (eqb m u) (within next 15 (next m) u) refl (so_far m) (one_more own next u m)
      where
        go : (b c : Bool) → eqb m u ≡ b → get_or (lent_by m) u 0 ≡ max (own u) (most m) → most (suc m) ≡ (if b || c then max (most m) (own m) else most m)
            → (if c then max (get_or (lent_by m) u 0) (own m) else get_or (lent_by m) u 0) ≡ max (own u) (most (suc m))
        go true true e ih o = let q : own m ≡ own u = rw (eqb-true m u e) in omega arith
        go true false e ih o = let q : own m ≡ own u = rw (eqb-true m u e) in omega arith
        go false true e ih o = omega arith
        go false false e ih o = omega arith

    pub level_is : get_or (levels own next) u 0 ≡ largest_own own next u
    unfolding levels largest_own
    level_is = omega (arith, so_far 16, largest_least own next u u h (within_itself next 16 u))

    -- no less than any own priority on a chain that leads to u, and one of them
    pub level_least : (s : ℕ) → s < 16 → Along next s u → own s ≤ get_or (levels own next) u 0
    level_least s l a = rw level_is (largest_least own next u s l (along_within next past u h s a))

    pub level_one : (s : ℕ) × (s < 16) × Along next s u × (own s ≡ get_or (levels own next) u 0)
    level_one = let t = largest_one own next u h in (t.0, t.1, within_along next 16 t.0 u t.2, t.3 ∙ sym level_is)

-- they rest on the sixteen alone
module _ (own mine next on : ℕ → ℕ) (e : (s : ℕ) → s < 16 → own s ≡ mine s) (f : (s : ℕ) → s < 16 → next s ≡ on s) where
  goes_same : (n t p : ℕ) (ls : List ℕ) → goes_on next n t p ls ≡ goes_on on n t p ls
  unfolding goes_on
  goes_same zero t p ls = refl
  goes_same (suc n) t p ls = go (ltb t 16) refl (goes_same n (next t) p (raised t p ls))
    where
      go : (b : Bool) → ltb t 16 ≡ b → goes_on next n (next t) p (raised t p ls) ≡ goes_on on n (next t) p (raised t p ls)
          → (if b then goes_on next n (next t) p (raised t p ls) else ls) ≡ (if b then goes_on on n (on t) p (raised t p ls) else ls)
      go true q ih = ih ∙ ap (λ v. goes_on on n v p (raised t p ls)) (f t (ltb-true t 16 q))
      go false q ih = refl

  lent_same : (m : ℕ) (ls : List ℕ) → m ≤ 16 → up_to (λ l s. goes_on next 16 (next s) (own s) l) m ls ≡ up_to (λ l s. goes_on on 16 (on s) (mine s) l) m ls
  unfolding up_to
  lent_same zero ls l = refl
  lent_same (suc m) ls l =
      ap (λ v. goes_on next 16 (next m) (own m) v) (lent_same m ls (omega arith)) ∙ goes_same 16 (next m) (own m) _
      ∙ rw (f m (omega arith), e m (omega arith))

  pub levels_same : levels own next ≡ levels mine on
  unfolding levels
  levels_same = lent_same 16 (values own 16) (omega arith) ∙ ap (up_to (λ l s. goes_on on 16 (on s) (mine s) l) 16) (values_same own mine 16 e)
