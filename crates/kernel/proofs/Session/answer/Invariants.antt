use Rattle.std.proofs.Common.{◌≡◌, ◌-◌, length}
use Rattle.kernel.specs.Stands.{shown}
use Rattle.rules.specs.Sessions.{run, begun}
use Rattle.kernel.proofs.SessionRuns.{Going}
use Rattle.kernel.proofs.Session.answer.Given as goal

abbrev pub invariant-loop-next : goal.invariant-loop-next
invariant-loop-next l =
    Going l.initial.self.kernel (run (length l.initial.out) (begun (shown l.initial.self.kernel) l.initial.store l.initial.self.cut) l.block) l.initial.out l.block l.fine l.self.kernel l.store l.self.cut l.at l.written l.out
    × (length l.store ≡ length l.initial.store)

abbrev pub decreases-loop-next : goal.decreases-loop-next
decreases-loop-next l = length l.block - l.at
