use Rattle.slots.proofs.Sweeps.{Filled}
use lib.Dec.{leb}
use lib.ListN.{get_or}
use mathlib.Core.Bool.{false}
use Rattle.objects.proofs.Objects.takes.Given as goal

abbrev pub invariant-loop-i : goal.invariant-loop-i
invariant-loop-i l = Filled (λ j. leb 6 (get_or l.state j 0)) false l.out l.i
