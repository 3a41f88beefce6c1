use Rattle.std.proofs.Common.{◌∙◌, ℕ, sym, ap, List, Bool, true, false, replicate, length, length-set, get_or, set, arith}
use Rattle.lists.proofs.Folds.{fold_more}
use Rattle.objects.specs.Fine.{marking}
use Rattle.objects.proofs.Fines.{unmarked}
use Rattle.objects.proofs.fine.marked.Goals as goal
use Rattle.objects.proofs.fine.marked.Goals.{then-t-lt16, else-t-lt16}

pub loop-t-preserved : goal.loop-t-preserved
loop-t-preserved c =
    let by = c.args.by.now in
    let held = c.loop-t.held in
    let t = get_or by c.loop-t.t-index 0 in
    let more = ap (λ (h : List Bool). set h t true) c.loop-t.invariant.marked ∙ sym (fold_more marking (replicate 16 false) by c.loop-t.t-index 0 c.loop-t-test.true) in
    elim c.if-t-lt16.branch [
      | then-t-lt16 w ↦ let is = w.held-is ∙ ap (λ (n : ℕ). set held n true) w.from.ensures in record { marked = is ∙ more; wide = ap length is ∙ length-set held t true ∙ c.loop-t.invariant.wide }
      | else-t-lt16 w ↦ record { marked = w.held-is ∙ sym (unmarked held t (omega arith)) ∙ more; wide = ap length w.held-is ∙ c.loop-t.invariant.wide }
    ]
