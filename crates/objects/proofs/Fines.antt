-- The tests in numbers are those in words.
use Prim.Native.Nat.{ℕ, zero, suc, ◌<◌, ◌≤◌}
use mathlib.Core.Path.{◌≡◌, refl, sym, ap, ◌∙◌}
use mathlib.Core.Bool.{Bool, true, false, not, ◌&&◌, ◌||◌, or-false}
use mathlib.Core.List.{List, [], ◌∷◌, map}
use native.Mathlib.Omega.{arith}
use lib.Dec.{eqb, ltb, leb}
use lib.ListN.{length, get_or, replicate, length-map, get_or-map}
use lib.Seq.{ext_get_or, set_out as set_past}
use borrow.Author.Tests.{eqb-true, eqb-false, ne_eqb, lt-ltb, ltb-true, le-leb, lt-leb}
use Rattle.std.proofs.Common.{if◌then◌else◌}
use Rattle.lists.specs.Lists.{all_below, foldl}
use Rattle.lists.specs.FourBytes.{of_bytes}
use Rattle.lists.proofs.Tests.{by_seven}
use Rattle.lists.proofs.Bools.{and_left, and_right, all_below_lem, below_all, all_same}
use Rattle.numbers.specs.declared.TaskSlot.{TaskSlot}
use Rattle.slots.specs.declared.Object.{Object}
use Rattle.slots.specs.Kinds.{unused, holder_of, mark, marks_of}
use Rattle.slots.proofs.Sweeps.{Filled}
use Rattle.slots.specs.Wants.{all_bits}
use Rattle.slots.specs.SoundSlots.{awaits_turn, may_wait_on, ring_fine}
use Rattle.objects.specs.declared.Objects.{Objects}
use Rattle.objects.specs.Columns.{six, ring, no_ring, in_bytes, known, cells_at, kind_of, kind_in, rows_of, holders_in, canonical}
use Rattle.objects.specs.Fine.{ranges_fine, fine_at, row_fine, marking, open_at, taken_at, Each}
use Rattle.objects.proofs.Columns.{Full, held_kind, row_at_lem, rows_many}

-- where nobody holds the holder's number is 0, which is in its range
module _ (c z f k h : ℕ) where
  in_slots : (P : Bool → Bool → Type 0) → P true true → P false (ltb h 16) → P (eqb h 0) (ltb h 16)
  in_slots P a b = go (eqb h 0) refl
    where
      go : (y : Bool) → eqb h 0 ≡ y → P y (ltb h 16)
      go true e = rw (eqb-true h 0 e) a
      go false e = b

  -- nobody holds it: nothing but a ring is asked of a queue, nothing of a count but that it is 0
  free_row : (a m : Bool) → (a && (m && (eqb h 0 && ltb h 16))) ≡ ((a && (m && eqb h 0)) && true)
  free_row true true = in_slots (λ y l. (y && l) ≡ (y && true)) refl refl
  free_row true false = refl
  free_row false m = refl

  ring_row : (a : Bool) → (eqb h 0 && (a && ltb h 16)) ≡ (eqb h 0 && (a && true))
  ring_row a = in_slots (λ y l. (y && (a && l)) ≡ (y && (a && true))) refl refl

  none_row : (a m : Bool) → (a && (m && (eqb h 0 && ltb h 16))) ≡ ((a && eqb h 0) && (m && true))
  none_row true true = in_slots (λ y l. (y && l) ≡ (y && true)) refl refl
  none_row true false = in_slots (λ y l. false ≡ (y && false)) refl refl
  none_row false m = refl

  -- somebody holds it
  once_row : (a m l : Bool) → (a && (m && l)) ≡ ((a && (m && true)) && l)
  once_row true true l = refl
  once_row true false l = refl
  once_row false m l = refl

  again_row : (a m l : Bool) → (a && (m && l)) ≡ ((a && true) && (m && l))
  again_row true m l = refl
  again_row false m l = refl

  -- bits within the 24: the fourth byte is 0
  fourth : (ltb c 256 && (ltb z 256 && ltb f 256)) ≡ true → leb (of_bytes c z f k) all_bits ≡ eqb k 0
  fourth e = go (eqb k 0) refl
    where
      p : c < 256
      p = ltb-true c 256 (and_left (ltb c 256) _ e)

      r : (ltb z 256 && ltb f 256) ≡ true
      r = and_right (ltb c 256) _ e

      go : (y : Bool) → eqb k 0 ≡ y → leb (of_bytes c z f k) all_bits ≡ y
      go true q = le-leb (of_bytes c z f k) all_bits (omega (arith, p, ltb-true z 256 (and_left (ltb z 256) _ r), ltb-true f 256 (and_right (ltb z 256) _ r), eqb-true k 0 q))
      go false q = lt-leb (of_bytes c z f k) all_bits (omega (arith, eqb-false k 0 q))

  group_row : (y : Bool) → (ltb c 256 && (ltb z 256 && ltb f 256)) ≡ y
      → ((ltb c 256 && (ltb z 256 && ltb f 256)) && (eqb k 0 && (eqb h 0 && ltb h 16))) ≡ (((ltb c 256 && (ltb z 256 && ltb f 256)) && eqb h 0) && (leb (of_bytes c z f k) all_bits && true))
  group_row true e = rw (e, fourth e) (none_row true (eqb k 0))
  group_row false e = rw e

  row_is : (s : ℕ) → row_fine (six s c z f k h) ≡ (known (six s c z f k h) && ranges_fine (kind_of (six s c z f k h)))
  unfolding row_fine kind_of
  row_is zero = free_row (no_ring c z f) (eqb k 0)
  row_is (suc zero) = ring_row (ring_fine (ring c z f k))
  row_is (suc (suc zero)) = free_row (no_ring c z f) (eqb k 0)
  row_is (suc (suc (suc zero))) = free_row (no_ring c z f) (eqb k 0)
  row_is (suc (suc (suc (suc zero)))) = none_row (no_ring c z f) (eqb k 0)
  row_is (suc (suc (suc (suc (suc zero))))) = group_row (ltb c 256 && (ltb z 256 && ltb f 256)) refl
  row_is (suc (suc (suc (suc (suc (suc zero)))))) = once_row (no_ring c z f) (eqb k 0) (ltb h 16)
  row_is (suc (suc (suc (suc (suc (suc (suc zero))))))) = again_row (no_ring c z f) (leb 1 k && leb k 255) (ltb h 16)
  row_is (suc (suc (suc (suc (suc (suc (suc (suc n)))))))) = rw (lt-leb (suc (suc (suc (suc (suc (suc (suc (suc n)))))))) 7 (omega arith))

-- what the types say already
pub in_bytes_lem : (s c z f : ℕ) → c < 256 → z < 256 → f < 256 → in_bytes s c z f ≡ true
in_bytes_lem s c z f p q r = rw (lt-ltb c 256 p, lt-ltb z 256 q, lt-ltb f 256 r) (go (eqb s 5))
  where
    go : (b : Bool) → (not b || true) ≡ true
    go true = refl
    go false = refl

fine_is : (os : Objects) (n : ℕ) → row_fine (cells_at os n) ≡ fine_at os n
unfolding kind_in
fine_is os n = row_is (get_or os.capacity n 0) (get_or os.size n 0) (get_or os.first n 0) (get_or os.count n 0) (get_or os.holder n 0) (get_or os.state n 0)

pub fines_are : (os : Objects) (n : ℕ) → n ≡ 16 → all_below n (λ i. row_fine (cells_at os i)) ≡ all_below 16 (fine_at os)
fines_are os n e = ap (λ (m : ℕ). all_below m (λ i. row_fine (cells_at os i))) e ∙ all_same 16 (λ i. row_fine (cells_at os i)) (fine_at os) (λ i l. fine_is os i)

-- who holds
holder_is : (os : Objects) (n : ℕ) → (holder_of (kind_in os n)).0 ≡ (if leb 6 (get_or os.state n 0) then get_or os.holder n 0 else 16)
unfolding kind_in kind_of
holder_is os n =
    by_seven
    (λ s. (holder_of (kind_of (six s (get_or os.capacity n 0) (get_or os.size n 0) (get_or os.first n 0) (get_or os.count n 0) (get_or os.holder n 0)))).0
    ≡ (if leb 6 s then get_or os.holder n 0 else 16))
    refl refl refl refl refl refl refl (λ s l. rw (held_kind os n s l, le-leb 6 s (omega (arith, l)))) (get_or os.state n 0)

abbrev pub holding : List ℕ → List ℕ → ℕ → ℕ
holding states holders i = if leb 6 (get_or states i 0) then get_or holders i 0 else 16

-- no mark is set past the table
pub unmarked : (c : List Bool) (t : ℕ) → length c ≤ t → marking c t ≡ c
unmarked c t h = set_past c t true h

marks_by : (c : List Bool) (xs : List Object) → foldl marking c (map (λ (x : Object). (holder_of x.kind).0) xs) ≡ foldl mark c xs
unfolding foldl
marks_by c [] = refl
marks_by c (x ∷ xs) = marks_by (mark c x) xs

pub marks_are : (os : Objects) (by : List ℕ) → by ≡ holders_in os → foldl marking (replicate 16 false) by ≡ marks_of (rows_of os)
unfolding holders_in marks_of
marks_are os by e = ap (foldl marking (replicate 16 false)) e ∙ marks_by (replicate 16 false) (rows_of os)

pub none_marked : foldl marking (replicate 16 false) (replicate 16 16) ≡ replicate 16 false
unfolding foldl
none_marked = refl

-- who may wait
pub wait_is : (os : Objects) (t : TaskSlot) (n : ℕ) → (open_at os n || (taken_at os n && not (eqb (get_or os.holder n 0) t.0))) ≡ awaits_turn t (kind_in os n)
unfolding kind_in kind_of
wait_is os t n =
    by_seven
    (λ s. ((eqb s 1 && (eqb (get_or os.count n 0) 0 || eqb (get_or os.count n 0) (get_or os.capacity n 0))) || (leb 6 s && not (eqb (get_or os.holder n 0) t.0)))
    ≡ awaits_turn t (kind_of (six s (get_or os.capacity n 0) (get_or os.size n 0) (get_or os.first n 0) (get_or os.count n 0) (get_or os.holder n 0))))
    refl (or-false _) refl refl refl refl refl (λ s l. rw (held_kind os n s l, le-leb 6 s (omega (arith, l)), ne_eqb s 1 (λ e. omega arith))) (get_or os.state n 0)

pub waits_is : (os : Objects) (t : TaskSlot) {opens takes : List Bool} (n : ℕ) → Each (open_at os) opens → Each (taken_at os) takes → n < 16
    → may_wait_on opens takes os.holder t n ≡ awaits_turn t (kind_in os n)
waits_is os t n o k l = rw (o.each n l, k.each n l) (wait_is os t n)

-- what is fine is canonical
pub fine_canonical : (os : Objects) → all_below 16 (fine_at os) ≡ true → canonical os ≡ true
unfolding canonical
fine_canonical os h = below_all 16 (λ i. known (cells_at os i)) (λ i l. and_left (known (cells_at os i)) (ranges_fine (kind_in os i)) (all_below_lem 16 (fine_at os) h i l))

-- the holders, when a loop has filled them
pub holders_done : (os : Objects) → Full os → {out : List ℕ} {i : ℕ} → Filled (holding os.state os.holder) 16 out i → 16 ≤ i → out ≡ holders_in os
unfolding holders_in
holders_done os f {out} inv h = ext_get_or 16 out (map (λ (x : Object). (holder_of x.kind).0) (rows_of os)) (inv.wide ∙ sym long) at
  where
    long : length (map (λ (x : Object). (holder_of x.kind).0) (rows_of os)) ≡ 16
    long = length-map (rows_of os) (λ (x : Object). (holder_of x.kind).0) ∙ rows_many os ∙ f.states

    at : (n : ℕ) → n < length out → get_or out n 16 ≡ get_or (map (λ (x : Object). (holder_of x.kind).0) (rows_of os)) n 16
    at n l =
        inv.filled n (omega (arith, inv.wide))
        ∙ sym (get_or-map (λ (x : Object). (holder_of x.kind).0) (rows_of os) n unused ∙ ap (λ x. (holder_of x).0) (row_at_lem os n (omega (arith, inv.wide, f.states))) ∙ holder_is os n)
