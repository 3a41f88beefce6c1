use native.Mathlib.Omega.{arith}
use Rattle.fields.proofs.Stores.{begin, turn, done, texts_self}
use Rattle.fields.proofs.bytes.put_all.Goals as goal

pub loop-b-init : goal.loop-b-init
loop-b-init c = begin

pub loop-b-preserved : goal.loop-b-preserved
loop-b-preserved c = turn c.loop-b.invariant (omega arith) c.put-next.ensures

pub returns : goal.returns
returns c = rw texts_self at (done c.loop-b.invariant (omega arith))
