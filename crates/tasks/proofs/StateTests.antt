-- The tests in numbers are those in words.
use Prim.Native.Nat.{ℕ, ◌≤◌}
use mathlib.Core.Path.{◌≡◌, refl, ap}
use mathlib.Core.Bool.{Bool, true, ◌&&◌, ◌||◌, false≢true}
use native.Mathlib.Omega.{arith}
use lib.Dec.{eqb}
use lib.ListN.{get_or}
use borrow.Author.Tests.{ne_eqb}
use Rattle.std.proofs.Common.{if◌then◌else◌, Option, Some, None}
use Rattle.lists.proofs.Tests.{by_six}
use Rattle.numbers.specs.declared.ObjSlot.{ObjSlot}
use Rattle.slots.specs.declared.Want.{Want}
use Rattle.slots.specs.declared.Place.TheVariants.{Suspended}
use Rattle.slots.specs.Who.{Who, all_ready, waiters_of, those_satisfied_on}
use Rattle.slots.specs.Places.{takes_task, is_ready, waits_on, waited_on, wakes_at, outcome_due, ahead, away}
use Rattle.slots.specs.Wants.{satisfied, satisfied_on}
use Rattle.slots.specs.Leads.{is_who}
use Rattle.slots.specs.Values.{in_line}
use Rattle.tasks.specs.declared.Tasks.{Tasks}
use Rattle.tasks.specs.Masks.{want_at}
use Rattle.tasks.specs.Numbering.{cells, place_of}
use Rattle.tasks.specs.Columns.{row_at}
use Rattle.tasks.specs.Walks.{is_meant, who_on}
use Rattle.tasks.specs.Dues.{timed, wait_ends}
use Rattle.tasks.specs.Known.{waits_state}

pub is_suspended : (s o w : ℕ) (v : Want) → 6 ≤ s → place_of (cells s o w v) ≡ Suspended
unfolding place_of
is_suspended s o w v h =
    rw (ne_eqb s 0 (λ e. omega arith), ne_eqb s 1 (λ e. omega arith), ne_eqb s 2 (λ e. omega arith), ne_eqb s 3 (λ e. omega arith), ne_eqb s 4 (λ e. omega arith), ne_eqb s 5 (λ e. omega arith))

meant_is : (w : Who) (s o x : ℕ) (v : Want) → is_who w (place_of (cells s o x v)) ≡ is_meant w s o v
unfolding place_of
meant_is all_ready s o x v =
    by_six (λ n. is_ready (place_of (cells n o x v)) ≡ eqb n 1) refl refl refl refl refl refl (λ n h. rw (is_suspended n o x v h, ne_eqb n 1 (λ e. omega arith))) s
meant_is (waiters_of y) s o x v =
    by_six (λ n. waits_on y (place_of (cells n o x v)) ≡ ((eqb n 3 || eqb n 4) && eqb o y.0)) refl refl refl refl refl refl
    (λ n h. rw (is_suspended n o x v h, ne_eqb n 3 (λ e. omega arith), ne_eqb n 4 (λ e. omega arith))) s
meant_is (those_satisfied_on y b) s o x v =
    by_six (λ n. satisfied_on y b (place_of (cells n o x v)) ≡ (((eqb n 3 || eqb n 4) && eqb o y.0) && satisfied b v)) refl refl refl refl refl refl
    (λ n h. rw (is_suspended n o x v h, ne_eqb n 3 (λ e. omega arith), ne_eqb n 4 (λ e. omega arith))) s

takes_is : (s o x : ℕ) (v : Want) → takes_task (place_of (cells s o x v)) ≡ eqb s 0
unfolding place_of
takes_is s o x v = by_six (λ n. takes_task (place_of (cells n o x v)) ≡ eqb n 0) refl refl refl refl refl refl (λ n h. rw (is_suspended n o x v h, ne_eqb n 0 (λ e. omega arith))) s

-- the object that it waits on
onto_is : (s o x : ℕ) (v : Want) → waited_on (place_of (cells s o x v)) ≡ (if waits_state s then o else 16)
unfolding place_of
onto_is s o x v =
    by_six (λ n. waited_on (place_of (cells n o x v)) ≡ (if waits_state n then o else 16)) refl refl refl refl refl refl
    (λ n h. rw (is_suspended n o x v h, ne_eqb n 3 (λ e. omega arith), ne_eqb n 4 (λ e. omega arith))) s

-- the wake tick: how far away, whether it is now, and the outcome
away_is : (now s o w : ℕ) (v : Want) → away now (place_of (cells s o w v)) ≡ (if timed s then ahead now w else 4294967295)
unfolding place_of
away_is now s o w v =
    by_six (λ n. away now (place_of (cells n o w v)) ≡ (if timed n then ahead now w else 4294967295)) refl refl refl refl refl refl
    (λ n h. rw (is_suspended n o w v h, ne_eqb n 2 (λ e. omega arith), ne_eqb n 3 (λ e. omega arith))) s

due_is : (now s o w : ℕ) (v : Want) → wakes_at now (place_of (cells s o w v)) ≡ (timed s && eqb w now)
unfolding place_of
due_is now s o w v =
    by_six (λ n. wakes_at now (place_of (cells n o w v)) ≡ (timed n && eqb w now)) refl refl refl refl refl refl
    (λ n h. rw (is_suspended n o w v h, ne_eqb n 2 (λ e. omega arith), ne_eqb n 3 (λ e. omega arith))) s

ends_is : (now s o w : ℕ) (v : Want) → wait_ends now (place_of (cells s o w v)) ≡ (eqb s 3 && eqb w now)
unfolding place_of
ends_is now s o w v =
    by_six (λ n. wait_ends now (place_of (cells n o w v)) ≡ (eqb n 3 && eqb w now)) refl refl refl refl refl refl
    (λ n h. rw (is_suspended n o w v h, ne_eqb n 3 (λ e. omega arith))) s

ended_is : (s o w : ℕ) (v : Want) → timed s ≡ true → outcome_due (place_of (cells s o w v)) ≡ (if eqb s 2 then 1 else 2)
unfolding place_of
ended_is s o w v =
    by_six (λ n. timed n ≡ true → outcome_due (place_of (cells n o w v)) ≡ (if eqb n 2 then 1 else 2))
    (λ e. absurd (false≢true e)) (λ e. absurd (false≢true e)) (λ e. refl) (λ e. refl) (λ e. absurd (false≢true e)) (λ e. absurd (false≢true e))
    (λ n h e. absurd (false≢true (rw (ne_eqb n 2 (λ q. omega arith), ne_eqb n 3 (λ q. omega arith)) at e))) s

-- the same of a row
module _ (ts : Tasks) (i : ℕ) where
  abbrev s : ℕ
  s = get_or ts.state i 0

  abbrev o : ℕ
  o = get_or ts.object i 0

  abbrev w : ℕ
  w = get_or ts.wake i 0

  abbrev v : Want
  v = want_at ts.wants i

  abbrev level : ℕ
  level = get_or ts.effective i 0

  pub row_meant : (who : Who) → is_who who (row_at ts i).place ≡ is_meant who s o v
  unfolding row_at
  row_meant who = meant_is who s o w v

  pub row_ready : is_ready (row_at ts i).place ≡ eqb s 1
  row_ready = row_meant all_ready

  -- it waits on x, and where there are bits, they satisfy it
  pub row_waits : (x : ObjSlot) (bits : Option ℕ) → bits ≡ None → is_who (who_on x bits) (row_at ts i).place ≡ (waits_state s && eqb o x.0)
  row_waits x bits e = rw e (row_meant (waiters_of x))

  pub row_satisfied : (x : ObjSlot) (bits : Option ℕ) (b : ℕ) → bits ≡ Some b → is_who (who_on x bits) (row_at ts i).place ≡ ((waits_state s && eqb o x.0) && satisfied b v)
  row_satisfied x bits b e = rw e (row_meant (those_satisfied_on x b))

  pub row_takes : takes_task (row_at ts i).place ≡ eqb s 0
  unfolding row_at
  row_takes = takes_is s o w v

  pub row_line : (p : ℕ) → in_line p (row_at ts i) ≡ (eqb s 1 && eqb level p)
  unfolding row_at
  row_line p = ap (λ (b : Bool). b && eqb level p) (meant_is all_ready s o w v)

  pub row_onto : waited_on (row_at ts i).place ≡ (if waits_state s then o else 16)
  unfolding row_at
  row_onto = onto_is s o w v

  pub row_away : (now : ℕ) → away now (row_at ts i).place ≡ (if timed s then ahead now w else 4294967295)
  unfolding row_at
  row_away now = away_is now s o w v

  pub row_due : (now : ℕ) → wakes_at now (row_at ts i).place ≡ (timed s && eqb w now)
  unfolding row_at
  row_due now = due_is now s o w v

  pub row_ends : (now : ℕ) → wait_ends now (row_at ts i).place ≡ (eqb s 3 && eqb w now)
  unfolding row_at
  row_ends now = ends_is now s o w v

  pub row_ended : timed s ≡ true → outcome_due (row_at ts i).place ≡ (if eqb s 2 then 1 else 2)
  unfolding row_at
  row_ended e = ended_is s o w v e
