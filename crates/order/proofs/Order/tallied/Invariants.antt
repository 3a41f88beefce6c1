use Rattle.std.proofs.Common.{◌≤◌, length}
use Rattle.lists.proofs.Loops.{Held}
use Rattle.numbers.specs.Numbers.{idle}
use Rattle.order.proofs.Tallies.{Counting}
use lib.Dec.{ltb}
use lib.ListN.{get_or}
use mathlib.Core.Bool.{true}
use Rattle.order.proofs.Order.tallied.Given as goal

abbrev pub invariant-loop-t : goal.invariant-loop-t
invariant-loop-t l =
    Counting (length l.t-items) l.t-items (length l.t-items) l.initial.tallies l.tallies l.t-index × Held (λ j. ltb (get_or l.t-items j idle).0 16) true l.numbers l.t-index × (length l.t-items ≤ 16)
