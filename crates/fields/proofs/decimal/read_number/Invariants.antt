use Prim.Native.Nat.{◌+◌}
use mathlib.Core.Path.{◌≡◌}
use lib.ListN.{drop}
use Rattle.fields.specs.Number.{more, read_number}
use Rattle.fields.proofs.decimal.read_number.Given as goal

abbrev pub invariant-loop-b : goal.invariant-loop-b
invariant-loop-b l = (l.next ≡ l.at + 1 + l.b-index) × (read_number l.at (drop l.at l.line) ≡ more l.value l.next (drop l.next l.line))
