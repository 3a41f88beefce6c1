use Rattle.std.proofs.Common.{get_or, if◌then◌else◌}
use Rattle.slots.proofs.Sweeps.{Filled}
use Rattle.tasks.specs.Known.{waits_state}
use Rattle.tasks.proofs.Tasks.ontos.Given as goal

abbrev pub invariant-loop-i : goal.invariant-loop-i
invariant-loop-i l = Filled (λ j. if waits_state (get_or l.state j 0) then get_or l.object j 0 else 16) 0 l.out l.i
