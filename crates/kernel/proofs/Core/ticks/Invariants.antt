use Rattle.kernel.proofs.TickTurns.{Ticking}
use Rattle.kernel.proofs.Core.ticks.Given as goal

abbrev pub invariant-loop-left : goal.invariant-loop-left
invariant-loop-left l = Ticking l.turns l.initial.self l.n l.self l.left

abbrev pub decreases-loop-left : goal.decreases-loop-left
decreases-loop-left l = l.left
