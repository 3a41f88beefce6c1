use Rattle.order.specs.Order.{listed}
use Rattle.heights.specs.Heights.{height}
use Rattle.heights.proofs.Counts.{height-largest}
use Rattle.tasks.specs.Walks.{ready_at, level_at, lines_in, top_in}
use mathlib.Core.Path.{ap, ◌∙◌}
use Rattle.tasks.proofs.Tasks.top.Goals as goal

pub returns : goal.returns
unfolding lines_in top_in
returns c =
    let a = c.args in
    c.height.ensures ∙ ap height c.lines.ensures ∙ height-largest (ready_at a.self) (level_at a.self) (listed a.o)
