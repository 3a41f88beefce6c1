use Prim.Native.Nat.{◌-◌}
use mathlib.Core.Path.{◌≡◌}
use lib.ListN.{length}
use Rattle.journal.specs.Reader.{nums}
use Rattle.journal.proofs.reader.read_numbers.Given as goal

abbrev pub invariant-loop-value : goal.invariant-loop-value
invariant-loop-value l = nums l.line (length l.fn.values) 0 l.fn.values l.fn.at ≡ nums l.line (length l.values - l.value-index) l.value-index l.values l.next
