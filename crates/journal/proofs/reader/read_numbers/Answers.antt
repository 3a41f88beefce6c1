use Prim.Native.Nat.{suc, ◌+◌, ◌-◌}
use mathlib.Core.Path.{◌≡◌, refl, sym, ◌∙◌}
use native.Mathlib.Omega.{arith}
use lib.ListN.{length, length-set}
use Rattle.journal.specs.Reader.{nums}
use Rattle.journal.proofs.ReadSteps.{nums_more}
use Rattle.journal.proofs.Parts.{nums_missed}
use Rattle.journal.proofs.reader.read_numbers.Goals as goal

pub returns-in_err-number : goal.returns-in_err-number
returns-in_err-number c =
    let l = c.loop-value in
    let e : length l.values - l.value-index ≡ suc (length l.values - (l.value-index + 1)) = omega arith in
    rw (c.from_residual.ensures, l.invariant, e) (nums_missed c.args.line.now _ _ _ _ c.in_err-number.ensures)

pub loop-value-preserved : goal.loop-value-preserved
loop-value-preserved c =
    let l = c.loop-value in
    let e : length l.values - l.value-index ≡ suc (length l.values - (l.value-index + 1)) = omega arith in
    rw length-set ((rw e at l.invariant) ∙ nums_more c.args.line.now _ _ _ _ _ _ refl c.in_ok-number.ensures)

pub returns : goal.returns
unfolding nums
returns c =
    let l = c.loop-value in
    let e : length l.values - l.value-index ≡ 0 = omega arith in
    sym (rw e at l.invariant)
