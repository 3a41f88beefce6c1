-- A loan's steps: past the columns, and from a task to its mutex and on to the holder.
use Prim.Native.Nat.{ℕ, zero, suc, ◌-◌, ◌≤◌, ◌<◌}
use native.Mathlib.Omega.{arith}
use mathlib.Core.Path.{◌≡◌, refl, sym}
use mathlib.Core.Bool.{true}
use mathlib.Core.List.{List}
use lib.Dec.{leb}
use lib.ListN.{get_or}
use borrow.Author.Tests.{lt-ltb, le-ltb, le-leb, lt-leb}
use Rattle.chains.specs.Chains.{ends}
use Rattle.chains.specs.Columns.{says, next_by, raised, lent, passed}

raised_past : (t p : ℕ) (ls : List ℕ) → 16 ≤ t → raised t p ls ≡ ls
unfolding raised
raised_past t p ls h = rw (le-ltb t 16 h)

module _ (onto by : List ℕ) (p : ℕ) where
  pub lent_past : (n t : ℕ) (ls : List ℕ) → 16 ≤ t → lent onto by n t p ls ≡ ls
  unfolding lent
  lent_past zero t ls h = raised_past t p ls h
  lent_past (suc n) t ls h = rw (le-ltb t 16 h, raised_past t p ls h) (lent_past n 16 ls (omega arith))

  pub lent_on : (n t : ℕ) (ls : List ℕ) → t < 16 → lent onto by n t p ls ≡ passed onto by n (get_or onto t 0) p (raised t p ls)
  unfolding lent
  lent_on zero t ls h = refl
  lent_on (suc n) t ls h = rw (lt-ltb t 16 h)

  pub passed_past : (n o : ℕ) (ls : List ℕ) → 16 ≤ o → passed onto by n o p ls ≡ ls
  passed_past zero o ls h = refl
  passed_past (suc n) o ls h = rw (le-ltb o 16 h) (lent_past n 16 ls (omega arith))

  pub passed_none : (n o : ℕ) (ls : List ℕ) → n ≤ 0 → passed onto by n o p ls ≡ ls
  passed_none zero o ls l = refl
  passed_none (suc n) o ls l = absurd (omega arith)

  pub passed_on : (n o : ℕ) (ls : List ℕ) → 0 < n → o < 16 → passed onto by n o p ls ≡ lent onto by (n - 1) (get_or by o 0) p ls
  passed_on zero o ls l h = absurd (omega arith)
  passed_on (suc n) o ls l h = let z : suc n - 1 ≡ n = omega arith in rw (lt-ltb o 16 h, z)

-- ── whether the chain ends
module _ (onto by : List ℕ) where
  pub ends_past : (n s : ℕ) → 16 ≤ s → ends (next_by onto by) n s ≡ true
  unfolding ends
  ends_past zero s h = le-leb 16 s h
  ends_past (suc n) s h = rw (le-leb 16 s h)

  pub ends_on : (n t : ℕ) → t < 16 → ends (next_by onto by) (suc n) t ≡ ends (next_by onto by) n (says by (get_or onto t 0))
  unfolding ends
  ends_on n t h = rw (lt-leb 16 t h, lt-ltb t 16 h)

  -- from the holder of the object o, where tasks are left and where none is; and past the columns
  pub passes_on : (n o : ℕ) → 0 < n → o < 16 → ends (next_by onto by) (suc (n - 1)) (get_or by o 0) ≡ ends (next_by onto by) n (says by o)
  passes_on n o l h = let z : suc (n - 1) ≡ n = omega arith in rw (z, lt-ltb o 16 h)

  pub passes_none : (n o : ℕ) → n ≤ 0 → o < 16 → leb 16 (get_or by o 0) ≡ ends (next_by onto by) n (says by o)
  unfolding ends
  passes_none zero o l h = rw (lt-ltb o 16 h)
  passes_none (suc n) o l h = absurd (omega arith)

  pub passes_past : (n o : ℕ) → 16 ≤ o → true ≡ ends (next_by onto by) n (says by o)
  passes_past n o h = rw (le-ltb o 16 h) (sym (ends_past n 16 (omega arith)))
