use Rattle.lists.proofs.Loops.{Held}
use Rattle.numbers.specs.Numbers.{idle}
use lib.Dec.{eqb, ltb}
use lib.ListN.{get_or}
use mathlib.Core.Bool.{true, ◌||◌}
use Rattle.order.proofs.Order.zeros.Given as goal

abbrev pub invariant-loop-i : goal.invariant-loop-i
invariant-loop-i l = Held (λ j. ltb j l.initial.i || eqb (get_or l.places j idle).0 0) true l.ok l.i
