use Rattle.std.proofs.Common.{◌≡◌}
use Rattle.chains.specs.Columns.{levels_to, ended_to}
use Rattle.chains.proofs.levels.Given as goal

abbrev pub invariant-loop-i : goal.invariant-loop-i
invariant-loop-i l = (l.levels ≡ levels_to l.own l.onto l.by l.i) × (l.ended ≡ ended_to l.onto l.by l.i)
