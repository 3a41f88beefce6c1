use native.Mathlib.Omega.{arith}
use Rattle.fields.proofs.Stores.{begin, turn}
use Rattle.fields.proofs.hex.put_hex.Goals as goal

pub loop-b-init : goal.loop-b-init
loop-b-init c = begin

pub loop-b-preserved : goal.loop-b-preserved
loop-b-preserved c = turn c.loop-b.invariant (omega arith) c.put_byte-next.ensures
