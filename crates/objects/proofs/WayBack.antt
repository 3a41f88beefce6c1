-- Where every number that is not used is 0, the columns are those of the list that they read as.
use Prim.Native.Nat.{ℕ, zero, suc, ◌<◌}
use mathlib.Core.Path.{◌≡◌, refl, sym, ap, ◌∙◌}
use mathlib.Core.Bool.{true, ◌&&◌}
use mathlib.Core.List.{List, map}
use native.Mathlib.Omega.{arith}
use lib.Dec.{eqb, ltb, leb}
use lib.ListN.{length, get_or, length-map, get_or-map}
use lib.Seq.{ext_get_or}
use borrow.Author.Tests.{eqb-true, ltb-true, leb-true}
use Rattle.lists.proofs.Bools.{and_left, and_right, all_below_lem}
use Rattle.lists.specs.FourBytes.{of_bytes}
use Rattle.lists.proofs.Bytes.{low_of, second_of, third_of, last_of}
use Rattle.slots.specs.declared.Kind.TheVariants.{Group}
use Rattle.slots.specs.declared.Object.{Object}
use Rattle.slots.specs.Kinds.{unused}
use Rattle.objects.specs.declared.Objects.{Objects}
use Rattle.objects.specs.declared.Cells.{Cells}
use Rattle.objects.specs.Columns.{six, bare, cells_of, kind_of, objects_of, kind_in, rows_of, no_ring, known, cells_at, canonical}
use Rattle.objects.proofs.Columns.{Full, rows_many, row_at_lem}

-- no ring, with any count and holder
no_ring_back : (s c z f k h : ℕ) → no_ring c z f ≡ true → six s 0 0 0 k h ≡ six s c z f k h
no_ring_back s c z f k h e =
    let r = and_right (eqb c 0) _ e in
    rw (eqb-true c 0 (and_left (eqb c 0) _ e), eqb-true z 0 (and_left (eqb z 0) _ r), eqb-true f 0 (and_right (eqb z 0) _ r))

-- a number that is not used is 0
bare_back : (s c z f k h : ℕ) → (no_ring c z f && (eqb k 0 && eqb h 0)) ≡ true → bare s 0 0 ≡ six s c z f k h
bare_back s c z f k h e =
    let r = and_right (no_ring c z f) _ e in
    rw (eqb-true k 0 (and_left (eqb k 0) _ r), eqb-true h 0 (and_right (eqb k 0) _ r)) (no_ring_back s c z f 0 0 (and_left (no_ring c z f) _ e))

cells_back : (s c z f k h : ℕ) → known (six s c z f k h) ≡ true → cells_of (kind_of (six s c z f k h)) ≡ six s c z f k h
unfolding kind_of
cells_back zero c z f k h e = bare_back 0 c z f k h e
cells_back (suc zero) c z f k h e = rw (eqb-true h 0 e)
cells_back (suc (suc zero)) c z f k h e = bare_back 2 c z f k h e
cells_back (suc (suc (suc zero))) c z f k h e = bare_back 3 c z f k h e
cells_back (suc (suc (suc (suc zero)))) c z f k h e = rw (eqb-true h 0 (and_right (no_ring c z f) _ e)) (no_ring_back 4 c z f k 0 (and_left (no_ring c z f) _ e))
cells_back (suc (suc (suc (suc (suc zero))))) c z f k h e = bytes_again (and_left (ltb c 256 && (ltb z 256 && ltb f 256)) _ e)
  where
    bytes_again : (ltb c 256 && (ltb z 256 && ltb f 256)) ≡ true → cells_of (Group (of_bytes c z f k)) ≡ six 5 c z f k h
    bytes_again b =
        let r = and_right (ltb c 256) _ b in
        let p = ltb-true c 256 (and_left (ltb c 256) _ b) in
        let q = ltb-true z 256 (and_left (ltb z 256) _ r) in
        let s = ltb-true f 256 (and_right (ltb z 256) _ r) in
        rw (low_of c z f k p q s, second_of c z f k p q s, third_of c z f k p q s, last_of c z f k p q s, eqb-true h 0 (and_right (ltb c 256 && (ltb z 256 && ltb f 256)) _ e))
cells_back (suc (suc (suc (suc (suc (suc zero)))))) c z f k h e =
    rw (eqb-true k 0 (and_left (eqb k 0) _ (and_right (no_ring c z f) _ e))) (no_ring_back 6 c z f 0 h (and_left (no_ring c z f) _ e))
cells_back (suc (suc (suc (suc (suc (suc (suc zero))))))) c z f k h e = no_ring_back 7 c z f k h (and_left (no_ring c z f) _ e)
cells_back (suc (suc (suc (suc (suc (suc (suc (suc n)))))))) c z f k h e =
    absurd (omega (arith, leb-true (suc (suc (suc (suc (suc (suc (suc (suc n)))))))) 7 (and_left (leb (suc (suc (suc (suc (suc (suc (suc (suc n)))))))) 7) _ e)))

module _ (os : Objects) (full : Full os) where
  -- a column is what the rows say of it
  column : (f : Cells → ℕ) (col : List ℕ) → length col ≡ 16 → f (cells_of unused.kind) ≡ 0 → ((i : ℕ) → i < 16 → f (cells_of (kind_in os i)) ≡ get_or col i 0)
      → map (λ (x : Object). f (cells_of x.kind)) (rows_of os) ≡ col
  column f col len z each = ext_get_or 0 (map g (rows_of os)) col (long ∙ sym len) at
    where
      g : Object → ℕ
      g x = f (cells_of x.kind)

      long : length (map g (rows_of os)) ≡ 16
      long = length-map (rows_of os) g ∙ rows_many os ∙ full.states

      at : (i : ℕ) → i < length (map g (rows_of os)) → get_or (map g (rows_of os)) i 0 ≡ get_or col i 0
      at i h =
          let l : i < 16 = omega (arith, long) in
          ap (λ (d : ℕ). get_or (map g (rows_of os)) i d) (sym z) ∙ get_or-map g (rows_of os) i unused ∙ ap (λ k. f (cells_of k)) (row_at_lem os i (omega arith)) ∙ each i l

  -- a canonical table is the columns of its list
  pub objects_back : canonical os ≡ true → objects_of (rows_of os) ≡ os
  unfolding objects_of canonical kind_in
  objects_back h = λ j. record {
    state = column (λ c. c.state) os.state full.states refl (λ i l. ap (λ (c : Cells). c.state) (same i l)) j;
    capacity = column (λ c. c.capacity) os.capacity full.capacities refl (λ i l. ap (λ (c : Cells). c.capacity) (same i l)) j;
    size = column (λ c. c.size) os.size full.sizes refl (λ i l. ap (λ (c : Cells). c.size) (same i l)) j;
    first = column (λ c. c.first) os.first full.firsts refl (λ i l. ap (λ (c : Cells). c.first) (same i l)) j;
    count = column (λ c. c.count) os.count full.counts refl (λ i l. ap (λ (c : Cells). c.count) (same i l)) j;
    holder = column (λ c. c.holder) os.holder full.holders refl (λ i l. ap (λ (c : Cells). c.holder) (same i l)) j;
  }
    where
      same : (i : ℕ) → i < 16 → cells_of (kind_of (cells_at os i)) ≡ cells_at os i
      same i l =
          cells_back (get_or os.state i 0) (get_or os.capacity i 0) (get_or os.size i 0) (get_or os.first i 0) (get_or os.count i 0) (get_or os.holder i 0)
          (all_below_lem 16 (λ k. known (cells_at os k)) h i l)
