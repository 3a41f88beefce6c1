use Rattle.std.proofs.Common.{◌∙◌, arith}
use Rattle.objects.proofs.Fines.{fines_are}
use Rattle.objects.proofs.Objects.rows_fine.Goals as goal

pub returns : goal.returns
returns c = c.loop-i.invariant ∙ fines_are c.args.self _ (omega arith)
