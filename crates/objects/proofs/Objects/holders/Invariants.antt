use Rattle.slots.proofs.Sweeps.{Filled}
use Rattle.objects.proofs.Fines.{holding}
use Rattle.objects.proofs.Objects.holders.Given as goal

abbrev pub invariant-loop-i : goal.invariant-loop-i
invariant-loop-i l = Filled (holding l.state l.by) 16 l.out l.i
