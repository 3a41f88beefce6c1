use Rattle.std.proofs.Common.{ap, ◌∙◌}
use Rattle.slots.specs.Values.{task_at}
use Rattle.kernel.proofs.Stands.{same_running}
use Rattle.kernel.proofs.TickTurns.{turning_of, turned_many}
use Rattle.kernel.proofs.Core.turned_by.Goals as goal

pub returns : goal.returns
returns c =
    λ s h.
    let y = c.task-y.ensures s h ∙ ap (task_at s.tasks) (same_running _ s h) in
    turned_many c.args.self.now s h (turning_of c.requires.0 s h) c.args.n c.requires.1 _ y _ c.line-line.ensures _ c.turn.ensures _ c.head_after-self.ensures
