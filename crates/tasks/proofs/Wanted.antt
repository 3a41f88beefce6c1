-- What each row wants, in two columns, and the list that they stand for.
use Prim.Native.Nat.{ℕ, zero, suc, ◌+◌, ◌<◌, ◌≤◌}
use mathlib.Core.Path.{◌≡◌, refl, sym, ap, ◌∙◌}
use mathlib.Core.Bool.{Bool, true, false, not, ◌&&◌}
use mathlib.Core.List.{List, map}
use native.Mathlib.Omega.{arith}
use lib.Dec.{eqb, leb}
use lib.ListN.{length, get_or, set, length-map, get_or-map, get_or-eq_default}
use lib.Seq.{set_out, ext_get_or}
use borrow.Author.Tests.{eqb-true, leb-true}
use Rattle.std.proofs.Common.{if◌then◌else◌}
use Rattle.lists.specs.Lists.{up_to}
use Rattle.lists.proofs.Tests.{by_six}
use Rattle.slots.proofs.Sweeps.{map-set, none_counted}
use Rattle.slots.specs.declared.Want.{Want}
use Rattle.slots.specs.declared.Want.TheVariants.{OwnTurn, Bits}
use Rattle.slots.specs.declared.Task.{Task}
use Rattle.slots.specs.Values.{free_task}
use Rattle.slots.specs.Wants.{want_in}
use Rattle.tasks.specs.declared.Tasks.{Tasks}
use Rattle.tasks.specs.declared.Wants.{Wants}
use Rattle.tasks.specs.Masks.{flags_of, mask_of, want_of, wants_of, want_put, want_at, mask_fine}
use Rattle.tasks.specs.Numbering.{cells, place_of}
use Rattle.tasks.specs.Columns.{want_cell, row_at}
use Rattle.tasks.specs.Fine.{wanting_in}
use Rattle.tasks.proofs.StateTests.{is_suspended}

-- a column is what a list says of it
pub column : {A : Type 0} (f : A → ℕ) (xs : List A) (d : A) (col : List ℕ) → length xs ≡ length col → f d ≡ 0 → ((i : ℕ) → i < length col → f (get_or xs i d) ≡ get_or col i 0) → map f xs ≡ col
column f xs d col long z each =
    ext_get_or 0 (map f xs) col (length-map xs f ∙ long)
    (λ i h. ap (λ (e : ℕ). get_or (map f xs) i e) (sym z) ∙ get_or-map f xs i d ∙ each i (rw (← long, ← length-map xs f) h))

-- the numbers of a want say it, and one that it does not use is 0
pub want_back : (w : Want) → (want_of (mask_of w) (flags_of w) ≡ w) × (((leb (flags_of w) 4 && true) && mask_fine (mask_of w) (flags_of w)) ≡ true)
want_back OwnTurn = (refl, refl)
want_back (Bits m false false) = (refl, refl)
want_back (Bits m true false) = (refl, refl)
want_back (Bits m false true) = (refl, refl)
want_back (Bits m true true) = (refl, refl)

-- numbers that say a want, with zeros for what it does not use, are its numbers
numbers_back : (m f : ℕ) → leb f 4 ≡ true → mask_fine m f ≡ true → (mask_of (want_of m f) ≡ m) × (flags_of (want_of m f) ≡ f)
numbers_back m zero l h = (sym (eqb-true m 0 h), refl)
numbers_back m (suc zero) l h = (refl, refl)
numbers_back m (suc (suc zero)) l h = (refl, refl)
numbers_back m (suc (suc (suc zero))) l h = (refl, refl)
numbers_back m (suc (suc (suc (suc zero)))) l h = (refl, refl)
numbers_back m (suc (suc (suc (suc (suc n))))) l h = absurd (omega (arith, leb-true (suc (suc (suc (suc (suc n))))) 4 l))

-- the columns that stand for a list: a row, and a store
pub want_of_lem : (ws : List Want) (n : ℕ) → want_at (wants_of ws) n ≡ get_or ws n OwnTurn
unfolding want_at wants_of
want_of_lem ws n = rw (get_or-map mask_of ws n OwnTurn, get_or-map flags_of ws n OwnTurn) (want_back (get_or ws n OwnTurn)).0

pub want_put_of : (ws : List Want) (n : ℕ) (w : Want) → want_put (wants_of ws) n w ≡ wants_of (set ws n w)
unfolding want_put wants_of
want_put_of ws n w = rw (map-set mask_of ws n w, map-set flags_of ws n w)

-- the same of a list of tasks
pub cell_of : (xs : List Task) (n : ℕ) → want_at (wants_of (map want_cell xs)) n ≡ want_cell (get_or xs n free_task)
cell_of xs n = want_of_lem (map want_cell xs) n ∙ get_or-map want_cell xs n free_task

pub cell_put : (xs : List Task) (n : ℕ) (x : Task) → want_put (wants_of (map want_cell xs)) n (want_cell x) ≡ wants_of (map want_cell (set xs n x))
cell_put xs n x = want_put_of (map want_cell xs) n (want_cell x) ∙ ap wants_of (map-set want_cell xs n x)

module _ (x : Wants) (masks : length x.mask ≡ 16) (flags : length x.flags ≡ 16) where
  -- a number past the table names who wants nothing, and what is stored there is lost
  pub past_want : (n : ℕ) → 16 ≤ n → want_at x n ≡ OwnTurn
  unfolding want_at
  past_want n h = rw (get_or-eq_default x.flags 0 {n = n} (omega arith))

  pub lost_want : (n : ℕ) → 16 ≤ n → (w : Want) → want_put x n w ≡ x
  unfolding want_put
  lost_want n h w = rw (set_out x.mask n (mask_of w) (omega arith), set_out x.flags n (flags_of w) (omega arith))

  -- columns without a number that is not used stand for the wants that they read as
  pub wants_back : (ws : List Want) → length ws ≡ 16 → ((i : ℕ) → i < 16 → (leb (get_or x.flags i 0) 4 ≡ true) × (mask_fine (get_or x.mask i 0) (get_or x.flags i 0) ≡ true))
      → ((i : ℕ) → i < 16 → get_or ws i OwnTurn ≡ want_at x i) → wants_of ws ≡ x
  unfolding wants_of want_at
  wants_back ws long plain same = λ j. record {
    mask = column mask_of ws OwnTurn x.mask (long ∙ sym masks) refl (λ i l. (at i (omega arith)).0) j;
    flags = column flags_of ws OwnTurn x.flags (long ∙ sym flags) refl (λ i l. (at i (omega arith)).1) j;
  }
    where
      at : (i : ℕ) → i < 16 → (mask_of (get_or ws i OwnTurn) ≡ get_or x.mask i 0) × (flags_of (get_or ws i OwnTurn) ≡ get_or x.flags i 0)
      at i l = rw (same i l) (numbers_back (get_or x.mask i 0) (get_or x.flags i 0) (plain i l).0 (plain i l).1)

-- where nobody has flags, each wants its turn
turn_in : (s o w : ℕ) → want_in (place_of (cells s o w OwnTurn)) ≡ OwnTurn
unfolding place_of
turn_in s o w = by_six (λ n. want_in (place_of (cells n o w OwnTurn)) ≡ OwnTurn) refl refl refl refl refl refl (λ n h. rw (is_suspended n o w OwnTurn h)) s

pub one_unless : (b : Bool) → ◌≡◌ {A = ℕ} (if not b then 1 else 0) (if b then 0 else 1)
one_unless true = refl
one_unless false = refl

module _ (ts : Tasks) (none : wanting_in ts ≡ 0) where
  abbrev flags_at : ℕ → ℕ
  flags_at i = get_or ts.wants.flags i 0

  no_flags : (i : ℕ) → i < 16 → eqb (flags_at i) 0 ≡ true
  unfolding wanting_in
  no_flags i l = on (eqb (flags_at i) 0) (none_counted (λ k. not (eqb (flags_at k) 0)) 16 (ap (λ (f : ℕ → ℕ). up_to (λ n k. n + f k) 16 0) (λ j k. one_unless (eqb (flags_at k) 0) j) ∙ none) i l)
    where
      on : (b : Bool) → not b ≡ false → b ≡ true
      on true e = refl
      on false e = sym e

  pub none_bits : (i : ℕ) → i < 16 → want_in (row_at ts i).place ≡ OwnTurn
  unfolding row_at want_at
  none_bits i l = rw (no_flags i l) (turn_in (get_or ts.state i 0) (get_or ts.object i 0) (get_or ts.wake i 0))
