-- Of the clock the test is true exactly if every sentence holds.
use Prim.Native.Nat.{ℕ, ◌≤◌}
use mathlib.Core.Path.{◌≡◌, refl}
use mathlib.Core.Bool.{Bool, true, false, not, ◌&&◌, ◌||◌}
use mathlib.Core.List.{List}
use native.Mathlib.Omega.{arith}
use lib.Dec.{eqb, ltb, leb}
use lib.ListN.{length}
use borrow.Author.Tests.{eqb-true, eqb-false, eq-eqb, ne_eqb, ltb-false, leb-true, le-leb}
use Rattle.lists.proofs.Bools.{and_left, and_right, and_intro, or_second, off, not_off, at, also, none, below_all}
use Rattle.numbers.specs.Numbers.{task}
use Rattle.slots.specs.Values.{task_at}
use Rattle.slots.specs.SoundSlots.{not_due}
use Rattle.rules.specs.Types.{Never, At, Place, Free, Ready, Delayed, Waiting, Suspended, Spent, Task}
use Rattle.rules.specs.Sound.{nobody_due, counted, pends_fine, clock_fine}
use Rattle.rules.specs.Sentences.{WakeFits, Clock}
use Rattle.rules.proofs.TableSlots.{any_task}

-- ── the tests by their names
pub record ClockTested (ts : List Task) (tick hold pended : ℕ) : Type 0 where
  pub wakes : nobody_due ts tick ≡ true
  pub ranges : counted tick hold pended ≡ true
  pub pends : pends_fine hold pended ≡ true

pub clock_tested : (ts : List Task) (tick hold pended : ℕ) → clock_fine ts tick hold pended ≡ true → ClockTested ts tick hold pended
unfolding clock_fine
clock_tested ts tick hold pended e = record { wakes = at _ e 0; ranges = at _ e 1; pends = at _ e 2 }

pub tested_clock : (ts : List Task) (tick hold pended : ℕ) → ClockTested ts tick hold pended → clock_fine ts tick hold pended ≡ true
unfolding clock_fine
tested_clock ts tick hold pended T = also _ _ T.wakes (also _ _ T.ranges (also _ _ T.pends none))

-- ── one wake tick
module _ (tick : ℕ) where
  ahead : (w : ℕ) → (leb w 4294967295 && not (eqb w tick)) ≡ true → w ≡ tick → ⊥
  ahead w e = eqb-false w tick (off (eqb w tick) (and_right (leb w 4294967295) _ e))

  in_range : (w : ℕ) → (leb w 4294967295 && not (eqb w tick)) ≡ true → w ≤ 4294967295
  in_range w e = leb-true w 4294967295 (and_left (leb w 4294967295) _ e)

  pub wake_says : (p : Place) → not_due tick p ≡ true → WakeFits tick p
  wake_says p e =
      record {
        delay_ahead = λ w q. ahead w (rw q at e);
        wait_ahead = λ o w q. ahead w (rw q at e);
        delay_range = λ w q. in_range w (rw q at e);
        wait_range = λ o w q. in_range w (rw q at e);
      }

  pub says_wake : (p : Place) → WakeFits tick p → not_due tick p ≡ true
  says_wake Free F = refl
  says_wake Ready F = refl
  says_wake (Delayed w) F =
      and_intro (leb w 4294967295) _ (le-leb w 4294967295 (F.delay_range w refl)) (not_off (eqb w tick) (ne_eqb w tick (F.delay_ahead w refl)))
  says_wake (Waiting o Never) F = refl
  says_wake (Waiting o (At w)) F =
      and_intro (leb w 4294967295) _ (le-leb w 4294967295 (F.wait_range o w refl)) (not_off (eqb w tick) (ne_eqb w tick (F.wait_ahead o w refl)))
  says_wake Suspended F = refl
  says_wake Spent F = refl

-- ── the whole clock
module _ (ts : List Task) (tick hold pended : ℕ) where
  pub clock_says : length ts ≡ 16 → clock_fine ts tick hold pended ≡ true → Clock ts tick hold pended
  clock_says l e =
      let T = clock_tested ts tick hold pended e in
      let more = and_right (leb tick 4294967295) _ T.ranges in
      record {
        wakes = λ t. wake_says tick (task_at ts t).place (any_task ts (λ u x. not_due tick x.place) l T.wakes (λ u h. refl) t);
        counts = record {
          tick_range = leb-true _ _ (and_left (leb tick 4294967295) _ T.ranges);
          hold_range = leb-true _ _ (and_left (leb hold 255) _ more);
          pended_range = leb-true _ _ (and_right (leb hold 255) _ more);
          pends = λ h. eqb-true _ _ (or_second (ltb 0 hold) _ T.pends (rw h));
        };
      }

  pub says_clock : Clock ts tick hold pended → clock_fine ts tick hold pended ≡ true
  says_clock S =
      tested_clock ts tick hold pended record {
        wakes = below_all 16 _ (λ n h. says_wake tick (task_at ts (task n)).place (S.wakes (task n)));
        ranges = and_intro _ _ (le-leb _ _ S.counts.tick_range) (and_intro _ _ (le-leb _ _ S.counts.hold_range) (le-leb _ _ S.counts.pended_range));
        pends = go (ltb 0 hold) refl;
      }
    where
      go : (b : Bool) → ltb 0 hold ≡ b → b || eqb pended 0 ≡ true
      go true e = refl
      go false e = eq-eqb _ _ (S.counts.pends (omega (arith, ltb-false 0 hold e)))
