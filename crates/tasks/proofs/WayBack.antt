-- The table read as a list: a store to it, and, where every number that is not used is 0, the way back.
use Prim.Native.Nat.{ℕ, zero, suc, ◌<◌}
use mathlib.Core.Path.{◌≡◌, refl, sym, ap, ◌∙◌}
use mathlib.Core.Bool.{true, ◌&&◌, ◌||◌}
use mathlib.Core.List.{List, map}
use native.Mathlib.Omega.{arith}
use lib.Dec.{eqb, leb}
use lib.ListN.{length, get_or, length-map, get_or-map}
use borrow.Author.Tests.{eqb-true, leb-true}
use Rattle.lists.proofs.Bools.{and_left, and_right, all_below_lem}
use Rattle.slots.specs.declared.Task.{Task}
use Rattle.slots.specs.Values.{free_task}
use Rattle.tasks.specs.declared.Tasks.{Tasks}
use Rattle.tasks.specs.declared.Cells.{Cells}
use Rattle.tasks.specs.Masks.{want_of, want_at}
use Rattle.tasks.specs.Numbering.{cells, cells_of, place_of}
use Rattle.tasks.specs.Columns.{state_of, object_cell, wake_cell, want_cell, tasks_of, row_at, rows_of}
use Rattle.tasks.specs.Known.{waits_state, known, wake_known, known_at, wake_at, mask_at, canonical}
use Rattle.tasks.proofs.Wanted.{column, wants_back}
use Rattle.tasks.proofs.Columns.{Full, rows_many, row_at_lem}

-- numbers that say a place, with zeros for what it does not use, are its numbers
unused : (o f : ℕ) → (leb f 4 && (eqb o 0 && eqb f 0)) ≡ true → (o ≡ 0) × (f ≡ 0)
unused o f h =
    let k = and_right (leb f 4) (eqb o 0 && eqb f 0) h in
    (eqb-true o 0 (and_left (eqb o 0) (eqb f 0) k), eqb-true f 0 (and_right (eqb o 0) (eqb f 0) k))

cells_back : (s o w m f : ℕ) → known s o f ≡ true → wake_known s w ≡ true → cells_of (place_of (cells s o w (want_of m f))) ≡ cells s o w (want_of m f)
unfolding place_of
cells_back zero o w m f a b = rw ((unused o f a).0, (unused o f a).1, eqb-true w 0 b)
cells_back (suc zero) o w m f a b = rw ((unused o f a).0, (unused o f a).1, eqb-true w 0 b)
cells_back (suc (suc zero)) o w m f a b = rw ((unused o f a).0, (unused o f a).1)
cells_back (suc (suc (suc zero))) o w m f a b = refl
cells_back (suc (suc (suc (suc zero)))) o w m f a b = rw (eqb-true w 0 b)
cells_back (suc (suc (suc (suc (suc zero))))) o w m f a b = rw ((unused o f a).0, (unused o f a).1, eqb-true w 0 b)
cells_back (suc (suc (suc (suc (suc (suc zero)))))) o w m f a b = rw ((unused o f a).0, (unused o f a).1, eqb-true w 0 b)
cells_back (suc (suc (suc (suc (suc (suc (suc n))))))) o w m f a b = absurd
    (omega (arith, leb-true (suc (suc (suc (suc (suc (suc (suc n))))))) 6 (and_left (leb (suc (suc (suc (suc (suc (suc (suc n))))))) 6) _ a)))

module _ (ts : Tasks) (full : Full ts) where
  -- a list of sixteen is what the rows say of it
  said : {A : Type 0} (f : Task → A) (i : ℕ) → i < 16 → f (get_or (rows_of ts) i free_task) ≡ f (row_at ts i)
  said f i l = ap f (row_at_lem ts i (omega (arith, full.states)))

  of_rows : (f : Task → ℕ) (col : List ℕ) → length col ≡ 16 → f free_task ≡ 0 → ((i : ℕ) → i < 16 → f (row_at ts i) ≡ get_or col i 0) → map f (rows_of ts) ≡ col
  of_rows f col len z each =
      column f (rows_of ts) free_task col (rows_many ts ∙ full.states ∙ sym len) z (λ i h. let l : i < 16 = omega (arith, len) in said f i l ∙ each i l)

  abbrev cells_at : ℕ → Cells
  cells_at i = cells (get_or ts.state i 0) (get_or ts.object i 0) (get_or ts.wake i 0) (want_at ts.wants i)

  -- a canonical table is the columns of its list
  pub tasks_back : canonical ts ≡ true → tasks_of (rows_of ts) ≡ ts
  unfolding tasks_of canonical row_at want_at
  tasks_back h = λ j. record {
    state = of_rows state_of ts.state full.states refl (λ i l. ap (λ (c : Cells). c.state) (same i l)) j;
    object = of_rows object_cell ts.object full.objects refl (λ i l. ap (λ (c : Cells). c.object) (same i l)) j;
    wake = of_rows wake_cell ts.wake full.wakes refl (λ i l. ap (λ (c : Cells). c.wake) (same i l)) j;
    wants = wants_back ts.wants full.masks full.flags (map want_cell (rows_of ts)) (length-map (rows_of ts) want_cell ∙ rows_many ts ∙ full.states) wants
        (λ i l. get_or-map want_cell (rows_of ts) i free_task ∙ said want_cell i l ∙ ap (λ (c : Cells). c.want) (same i l)) j;
    own = of_rows (λ (x : Task). x.own) ts.own full.owns refl (λ i l. refl) j;
    effective = of_rows (λ (x : Task). x.effective) ts.effective full.effectives refl (λ i l. refl) j;
    outcome = of_rows (λ (x : Task). x.outcome) ts.outcome full.outcomes refl (λ i l. refl) j;
  }
    where
      fine : (i : ℕ) → i < 16 → (known_at ts i && (wake_at ts i && mask_at ts i)) ≡ true
      fine i l = all_below_lem 16 (λ n. known_at ts n && (wake_at ts n && mask_at ts n)) h i l

      rest : (i : ℕ) → i < 16 → (wake_at ts i && mask_at ts i) ≡ true
      rest i l = and_right (known_at ts i) (wake_at ts i && mask_at ts i) (fine i l)

      few : (s o f : ℕ) → known s o f ≡ true → leb f 4 ≡ true
      few s o f k = and_left (leb f 4) _ (and_right (leb s 6) (leb f 4 && (waits_state s || (eqb o 0 && eqb f 0))) k)

      wants : (i : ℕ) → i < 16 → (leb (get_or ts.wants.flags i 0) 4 ≡ true) × (mask_at ts i ≡ true)
      wants i l =
          (few (get_or ts.state i 0) (get_or ts.object i 0) (get_or ts.wants.flags i 0) (and_left (known_at ts i) _ (fine i l)), and_right (wake_at ts i) (mask_at ts i) (rest i l))

      same : (i : ℕ) → i < 16 → cells_of (place_of (cells_at i)) ≡ cells_at i
      same i l =
          cells_back (get_or ts.state i 0) (get_or ts.object i 0) (get_or ts.wake i 0) (get_or ts.wants.mask i 0) (get_or ts.wants.flags i 0)
          (and_left (known_at ts i) _ (fine i l)) (and_left (wake_at ts i) (mask_at ts i) (rest i l))
