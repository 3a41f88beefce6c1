use Rattle.std.proofs.Common.{◌-◌, ◌≤◌, true}
use Rattle.lists.proofs.Loops.{Held}
use Rattle.kernel.specs.Waited.{awaits_at}
use Rattle.kernel.proofs.Core.each_await_fine.Given as goal

abbrev pub invariant-loop-i : goal.invariant-loop-i
invariant-loop-i l = Held (awaits_at l.self.tasks l.self.objects) true l.ok l.i × (l.i ≤ l.n) × (l.n ≤ 16)

abbrev pub decreases-loop-i : goal.decreases-loop-i
decreases-loop-i l = l.n - l.i
