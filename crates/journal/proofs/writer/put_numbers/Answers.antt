use native.Mathlib.Omega.{arith}
use Rattle.fields.proofs.Stores.{begin, turn}
use Rattle.journal.proofs.writer.put_numbers.Goals as goal

pub loop-n-init : goal.loop-n-init
loop-n-init c = begin

pub loop-n-preserved : goal.loop-n-preserved
loop-n-preserved c = turn c.loop-n.invariant (omega arith) c.put_field-next.ensures
