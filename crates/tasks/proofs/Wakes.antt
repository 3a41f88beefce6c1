-- The walks that ask for wake ticks find what their definitions say, and so does a turn of the wakes of a tick.
use Prim.Native.Nat.{ℕ, ◌≤◌, min}
use mathlib.Core.Path.{◌≡◌, refl, sym, ap, ◌∙◌}
use mathlib.Core.Bool.{Bool, true, false, not, ◌&&◌, ◌||◌}
use native.Mathlib.Omega.{arith}
use lib.Dec.{eqb}
use lib.ListN.{length, get_or, set, get_or-eq_default}
use lib.Seq.{set-get_or}
use borrow.Author.Tests.{eq-eqb, ne_eqb}
use Rattle.std.proofs.Common.{if◌then◌else◌}
use Rattle.std.specs.Prelude.{Option, Some, None}
use Rattle.std.proofs.lemmas.Option.{none-some, same_Some}
use Rattle.lists.specs.Lists.{up_to, all_below}
use Rattle.lists.proofs.Bools.{and_off, all_same}
use Rattle.numbers.specs.declared.TaskSlot.{TaskSlot}
use Rattle.order.specs.declared.Order.{Order}
use Rattle.slots.specs.declared.Place.TheVariants.{Ready}
use Rattle.slots.specs.declared.Task.{Task}
use Rattle.slots.specs.Places.{wakes_at, outcome_due, ahead, away}
use Rattle.slots.specs.Values.{free_task}
use Rattle.slots.proofs.Sweeps.{by_rows}
use Rattle.tasks.specs.declared.Tasks.{Tasks}
use Rattle.tasks.specs.Columns.{row_at, rows_of, put, placed_at}
use Rattle.tasks.specs.Dues.{timed, ended_of, due_in, until_in, wait_ends, woken, tailed, wake_in}
use Rattle.tasks.proofs.Columns.{Full, row_at_lem, rows_many}
use Rattle.tasks.proofs.StateTests.{row_away, row_due, row_ends, row_ended}

-- the walks of the rows
pub until_is : (ts : Tasks) (now n i : ℕ) → Full ts → 16 ≤ i → i ≤ 16
    → n ≡ up_to (λ m j. min m (if timed (get_or ts.state j 0) then ahead now (get_or ts.wake j 0) else 4294967295)) i 4294967295 → n ≡ until_in now ts
unfolding until_in
until_is ts now n i full l h e =
    let z : i ≡ 16 = omega arith in
    rw z at e
    ∙ by_rows (λ m x. min m (away now x.place)) (λ m j. min m (if timed (get_or ts.state j 0) then ahead now (get_or ts.wake j 0) else 4294967295)) (rows_of ts) free_task
    (λ m j k. ap (min m) (sym (row_away ts j now) ∙ sym (ap (λ (x : Task). away now x.place) (row_at_lem ts j (rw (← rows_many ts) k))))) 4294967295 16 (rows_many ts ∙ full.states)

pub ends_are : (ts : Tasks) (now i : ℕ) (ok : Bool) → 16 ≤ i → i ≤ 16
    → ok ≡ all_below i (λ j. not (eqb (get_or ts.state j 0) 3 && eqb (get_or ts.wake j 0) now)) → ok ≡ all_below 16 (λ j. not (wait_ends now (row_at ts j).place))
ends_are ts now i ok l h e = let z : i ≡ 16 = omega arith in rw z at e ∙ all_same 16 _ _ (λ j k. ap not (sym (row_ends ts j now)))

-- the task t is due, or its wake tick is another, or there is no such slot
module _ (ts : Tasks) (now : ℕ) (t : TaskSlot) where
  abbrev state : ℕ
  state = get_or ts.state t.0 0

  abbrev wakes : Bool → Option ℕ
  wakes b = if b then Some (outcome_due (row_at ts t.0).place) else None

  not_due : (timed state && eqb (get_or ts.wake t.0 0) now) ≡ false → None ≡ due_in now ts t
  not_due e = rw (row_due ts t.0 now ∙ e)

  pub due_now : get_or ts.wake t.0 0 ≡ now → ended_of state ≡ due_in now ts t
  due_now e = go (eqb state 2) refl (eqb state 3) refl (row_ended ts t.0) ∙ ap wakes (sym (row_due ts t.0 now ∙ ap (λ (b : Bool). timed state && b) (eq-eqb (get_or ts.wake t.0 0) now e)))
    where
      go : (a : Bool) → eqb state 2 ≡ a → (b : Bool) → eqb state 3 ≡ b → ((a || b) ≡ true → outcome_due (row_at ts t.0).place ≡ (if a then 1 else 2))
          → (if a then Some 1 else if b then Some 2 else None) ≡ wakes ((a || b) && true)
      go true q b r h = ap Some (sym (h refl))
      go false q true r h = ap Some (sym (h refl))
      go false q false r h = refl

  pub due_never : (get_or ts.wake t.0 0 ≡ now → ⊥) → None ≡ due_in now ts t
  due_never n = not_due (sym (and_off (timed state) _ (ne_eqb (get_or ts.wake t.0 0) now n)))

  pub due_past : length ts.state ≡ 16 → 16 ≤ t.0 → None ≡ due_in now ts t
  due_past l h = not_due (rw (get_or-eq_default ts.state 0 {n = t.0} (omega arith)))

  -- and so is a turn of the walk
  owns : set ts.own t.0 (row_at ts t.0).own ≡ ts.own
  unfolding row_at
  owns = set-get_or ts.own t.0 0

  levels : set ts.effective t.0 (row_at ts t.0).effective ≡ ts.effective
  unfolding row_at
  levels = set-get_or ts.effective t.0 0

  module _ (o : Order) where
    pub due_turn : (n : ℕ) → Some n ≡ due_in now ts t → woken (placed_at ts t.0 Ready n) (tailed o t) ≡ wake_in now (woken ts o) t
    unfolding wake_in put placed_at
    due_turn n e = go (wakes_at now (row_at ts t.0).place) refl e
      where
        go : (b : Bool) → wakes_at now (row_at ts t.0).place ≡ b → Some n ≡ wakes b → woken (placed_at ts t.0 Ready n) (tailed o t) ≡ wake_in now (woken ts o) t
        go true q r = rw (q, same_Some n (outcome_due (row_at ts t.0).place) r, owns, levels)
        go false q r = absurd (none-some n (sym r))

    pub other_turn : None ≡ due_in now ts t → woken ts o ≡ wake_in now (woken ts o) t
    unfolding wake_in
    other_turn e = go (wakes_at now (row_at ts t.0).place) refl e
      where
        go : (b : Bool) → wakes_at now (row_at ts t.0).place ≡ b → None ≡ wakes b → woken ts o ≡ wake_in now (woken ts o) t
        go true q r = absurd (none-some (outcome_due (row_at ts t.0).place) r)
        go false q r = rw q
