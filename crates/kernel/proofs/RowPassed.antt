-- What the rows that do not apply say of an accepted call, and of the kernel value.
use Rattle.std.proofs.Common.{◌≡◌, ℕ, true, false, ◌&&◌, eqb, ltb, sym, ap, ◌∙◌, ne_eqb}
use Rattle.calls.specs.declared.Asked.{Asked}
use Rattle.slots.specs.Kinds.{kind_at}
use Rattle.rules.specs.State.{State}
use Rattle.rules.specs.Tables.{free_slot, free_object}
use Rattle.rows.specs.declared.Seen.{Seen}
use Rattle.rows.specs.Asking.{is, makes_object, makes}
use Rattle.rules.specs.Refusals.{new_slot}
use Rattle.rows.specs.Applies.{size_differs, takes_full, first_row, table}
use Rattle.rules.specs.Refusals.{seen, later_row}
use Rattle.rules.proofs.RowPasses.{Passed, passed, InRange, in_range_of, send_sized, take_fits, hold_fits, release_fits, tick_fits, advance_free}
use Rattle.rules.proofs.KeepTicks.{sound_unheld}
use Rattle.kernel.specs.Types.{Core}
use Rattle.kernel.specs.Stands.{shown_core}
use Rattle.kernel.specs.Does.{Reads, Firm, Turning}
use Rattle.kernel.proofs.Stands.{same_running, same_hold, same_pended}

-- a store of another length is turned away by the table's first row
pub wrong_length : (s : State) (a : Asked) (item store : ℕ) → (store ≡ 9216 → ⊥) → 2 ≡ later_row s a item store
unfolding later_row table
wrong_length s a item store other = rw (ne_eqb store 9216 other)

-- what was seen is what the table looks at, and has the new slot
module _ (s : State) (a : Asked) (x : Seen) (e : x ≡ seen s a) where
  pub row_of : (item store : ℕ) → store ≡ 9216 → first_row (table x a item 9216) ≡ later_row s a item store
  unfolding later_row
  row_of item store whole = ap (λ (y : Seen). first_row (table y a item 9216)) e ∙ ap (λ (n : ℕ). first_row (table (seen s a) a item n)) (sym whole)

  pub new_of : makes a ≡ true → x.new ≡ new_slot s a
  new_of m = ap (λ (y : Seen). y.new) e ∙ rw m

module _ (k : Core) (F : Firm k) (a : Asked) (item store : ℕ) (e : later_row (shown_core k) a item store ≡ 0) where
  P : Passed (shown_core k) a store
  P = passed (shown_core k) a item store e

  pub in_range : InRange a
  in_range = in_range_of a P.in_range

  pub right_size : a.number ≡ 13 → size_differs item (kind_at (shown_core k).objects a.object) ≡ false
  right_size n = send_sized (shown_core k) a item store n e

  pub may_take : a.number ≡ 15 → takes_full k.running (kind_at (shown_core k).objects a.object) ≡ false
  may_take n = ap (λ t. takes_full t (kind_at (shown_core k).objects a.object)) (same_running k (shown_core k) F.stands) ∙ take_fits (shown_core k) a n P.not_full

  pub may_hold : a.number ≡ 8 → eqb k.hold 255 ≡ false
  may_hold n = rw (same_hold k (shown_core k) F.stands) (hold_fits (shown_core k) a n P.deep)

  pub may_release : a.number ≡ 9 → eqb k.hold 0 ≡ false
  may_release n = rw (same_hold k (shown_core k) F.stands) (release_fits (shown_core k) a n P.deep)

  pub may_tick : a.number ≡ 17 → (ltb 0 k.hold && eqb k.pended 65535) ≡ false
  may_tick n =
      ap (λ (h : ℕ). ltb 0 h && eqb k.pended 65535) (same_hold k (shown_core k) F.stands)
      ∙ ap (λ (p : ℕ). ltb 0 (shown_core k).hold && eqb p 65535) (same_pended k (shown_core k) F.stands)
      ∙ tick_fits (shown_core k) a n P.ticks

  pub may_turn : a.number ≡ 18 → Turning k
  may_turn n = record { stands = F.stands; unheld = sound_unheld (shown_core k) F.sound (advance_free (shown_core k) a n P.held) }

-- the slot that was found is that of the call's own table
module _ {k : Core} {n : ℕ} (a : Asked) (f : makes a ≡ true → Reads k (λ s. new_slot s a) n) where
  pub task_slot : a.number ≡ 1 → Reads k (λ s. free_slot s.tasks) n
  task_slot e s h = let m : makes a ≡ true = rw e in rw e at (f m s h)

  pub object_slot : makes_object a ≡ true → is 1 a ≡ false → Reads k (λ s. free_object s.objects) n
  object_slot m e s h = let o : makes a ≡ true = rw (e, m) in rw e at (f o s h)
