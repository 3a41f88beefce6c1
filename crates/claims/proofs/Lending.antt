-- The rule of effective priorities, of kernel values as the code holds them and of its steps.
use Prim.Native.Nat.{ℕ}
use mathlib.Core.Path.{◌≡◌, refl, sym, ap, ◌∙◌}
use mathlib.Core.Bool.{Bool, true, false}
use mathlib.Core.List.{List}
use lib.ListN.{length}
use Rattle.tasks.proofs.Columns.{rows_many}
use Rattle.rules.specs.Lines.{level}
use Rattle.rules.specs.Loans.{worked_out}
use Rattle.rules.specs.Sound.{sound}
use Rattle.rules.specs.Steps.{step}
use Rattle.rules.proofs.KeepEvery.{step_kept}
use Rattle.kernel.specs.Stands.{as_rows, shown}
use Rattle.kernel.specs.Promises.{Steps}
use Rattle.kernel.proofs.Shown.{shown_of}
use Rattle.kernel.proofs.StepEnds.{stands_on, stays}
use Rattle.promises.specs.Lending.{RuleHolds, Afresh, SameLoans, SameLevels}
use Rattle.promises.proofs.Lendings.{rule_holds, worked_afresh, only_the_rule}
use Rattle.claims.specs.Types.{Call, State, Kernel, Step}
use Rattle.claims.specs.Values.{Full}

module _ (k : Kernel) (full : Full k) where
  abbrev rows : State
  rows = as_rows k.core k.uses

  many : length rows.tasks ≡ 16
  many = rows_many k.core.tasks ∙ full.tasks.states

  pub rule_of_value : RuleHolds rows.tasks rows.objects
  rule_of_value = rule_holds rows.tasks rows.objects many

  pub afresh_of_value : Afresh rows (worked_out rows)
  afresh_of_value = worked_afresh rows many

-- a value that is not sound comes back as it was
pub step_none_lent : (k : Kernel) (c : Call) (item s : List ℕ) (r : Step) (after : List ℕ) → Steps k c item s r after
    → SameLoans (shown k) (shown r.kernel) → SameLevels (shown k) (shown r.kernel)
step_none_lent k c item s r after S L = go (sound (shown k)) refl
  where
    go : (b : Bool) → sound (shown k) ≡ b → SameLevels (shown k) (shown r.kernel)
    go true e =
        let same : shown r.kernel ≡ (step (shown k) c item s).kernel = ap shown (S.kernel ∙ stands_on k _ e) ∙ shown_of _ in
        only_the_rule (shown k) (shown r.kernel) e (ap sound same ∙ step_kept (shown k) c item s e) L
    go false e = λ t. ap (λ (x : Kernel). level (shown x).tasks t) (sym (S.kernel ∙ stays k _ e))
