-- A step of the code is refused n exactly if row n is the first of the table that applies; then nothing has changed. Else it is accepted.
use Prim.Native.Nat.{ℕ}
use mathlib.Core.Path.{◌≡◌, refl, sym, ap, ◌∙◌}
use mathlib.Core.Bool.{true, false}
use mathlib.Core.List.{List}
use Rattle.lists.proofs.Bools.{on, untrue, not_off}
use Rattle.rules.specs.Sound.{sound}
use Rattle.rules.specs.Steps.{step}
use Rattle.kernel.specs.Stands.{kernel_of, shown, standing}
use Rattle.kernel.specs.Promises.{Steps}
use Rattle.kernel.proofs.Shown.{shown_of, stays_standing}
use Rattle.kernel.proofs.StepEnds.{stands_on, stays}
use Rattle.promises.specs.TurnedAway.{None, not_this_row, this_row, Exactly}
use Rattle.promises.proofs.TurnedAway.{turned_away_exactly}
use Rattle.claims.specs.Types.{Call, Kernel, Step}
use Rattle.claims.specs.Values.{SoundValue, Stands}
use Rattle.claims.specs.Exact.{shown_step, ValueRefused, ValueAccepted, table_for, ValueExactly}
use Rattle.claims.proofs.Values.{test_says}

-- of a sound value the step shows what the rules say
pub shows_step : (k : Kernel) (c : Call) (item store : List ℕ) (r : Step) (after : List ℕ) → sound (shown k) ≡ true → Steps k c item store r after → step (shown k) c item store ≡ shown_step r after
shows_step k c item store r after e g = rw (ap shown (g.kernel ∙ stands_on k _ e) ∙ shown_of _, g.answer, g.store)

module _ (k : Kernel) (c : Call) (item s : List ℕ) (r : Step) (after : List ℕ) (S : Steps k c item s r after) where
  -- what the rules say of the state that is shown
  E : Exactly (shown k) c item s (step (shown k) c item s)
  E = turned_away_exactly (shown k) c item s

  none_sound : None (table_for k c item s) → sound (shown k) ≡ true
  none_sound (not_this_row a f) = on (sound (shown k)) a

  pub accepted_so : None (table_for k c item s) → ValueAccepted k c item s r after
  accepted_so f =
      let A = E.else f in
      record {
        kernel = S.kernel ∙ stands_on k _ (none_sound f) ∙ ap kernel_of A.kernel;
        answer = S.answer ∙ A.answer;
        store = S.store ∙ A.store;
        no_refusal = λ n e. A.no_refusal n (sym S.answer ∙ e);
      }

  pub step_exactly : Stands k → ValueExactly k c item s r after
  step_exactly h =
      record {
        given = λ n f. let R = E.given n f in record { number = S.answer ∙ R.number; kernel = S.kernel ∙ ap (standing k) R.kernel ∙ sym (stays_standing k h); store = S.store ∙ R.store };
        only = λ n e. E.only n (sym S.answer ∙ e);
        else = accepted_so;
      }

  -- a value that is not sound comes back, whatever its columns
  pub unsound_stays : (SoundValue k → ⊥) → ValueRefused k s 1 r after
  unsound_stays n =
      let e : sound (shown k) ≡ false = untrue (sound (shown k)) (λ q. n (test_says k q)) in
      let R = E.given 1 (this_row refl (not_off (sound (shown k)) e)) in
      record { number = S.answer ∙ R.number; kernel = S.kernel ∙ stays k _ e; store = S.store ∙ R.store }
