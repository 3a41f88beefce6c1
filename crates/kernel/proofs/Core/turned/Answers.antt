use Rattle.std.proofs.Common.{ap, ◌∙◌, arith}
use Rattle.kernel.proofs.TableWalks.{no_turn, turn_goes}
use Rattle.kernel.proofs.Stands.{same_running}
use Rattle.kernel.specs.Stands.{core_of}
use Rattle.kernel.proofs.Core.turned.Goals as goal

pub returns-then-top-y : goal.returns-then-top-y
returns-then-top-y c =
    λ s h. c.to_tail.ensures s h
    ∙ rw (same_running _ s h) (ap core_of (turn_goes _ s _ _ h (c.task-y.ensures s h) c.top.ensures c.if-top-y.true))

pub returns-else-top-y : goal.returns-else-top-y
returns-else-top-y c = λ s h. h ∙ ap core_of (no_turn _ s _ _ h (c.task-y.ensures s h) c.top.ensures (omega (arith, c.if-top-y.false)))
