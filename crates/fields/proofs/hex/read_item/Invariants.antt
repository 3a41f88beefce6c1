use Prim.Native.Nat.{◌-◌}
use mathlib.Core.Path.{◌≡◌}
use lib.ListN.{drop}
use Rattle.fields.proofs.Pairs.{left_over}
use Rattle.fields.proofs.hex.read_item.Given as goal

abbrev pub invariant-loop-n : goal.invariant-loop-n
invariant-loop-n l = left_over (64 - l.n) l.n l.bytes l.next (drop l.next l.line) ≡ left_over 64 0 l.initial.bytes l.at (drop l.at l.line)
