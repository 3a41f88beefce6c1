use Rattle.slots.proofs.Sweeps.{Filled}
use lib.Dec.{eqb}
use lib.ListN.{get_or}
use mathlib.Core.Bool.{false, ◌&&◌, ◌||◌}
use Rattle.objects.proofs.Objects.opens.Given as goal

abbrev pub invariant-loop-i : goal.invariant-loop-i
invariant-loop-i l =
    Filled (λ j. eqb (get_or l.state j 0) 1 && (eqb (get_or l.count j 0) 0 || eqb (get_or l.count j 0) (get_or l.capacity j 0))) false l.out l.i
