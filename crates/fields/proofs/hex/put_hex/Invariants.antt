use Rattle.fields.proofs.Stores.{Stored}
use Rattle.fields.specs.Hex.{two_digits}
use Rattle.fields.proofs.hex.put_hex.Given as goal

abbrev pub invariant-loop-b : goal.invariant-loop-b
invariant-loop-b l = Stored two_digits l.item l.initial.line l.at l.line l.next l.b-index
