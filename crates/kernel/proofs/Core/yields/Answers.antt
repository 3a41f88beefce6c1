use Rattle.std.proofs.Common.{◌∙◌}
use Rattle.kernel.proofs.Stands.{same_running}
use Rattle.rules.specs.Effects.{yielded}
use Rattle.kernel.proofs.Core.yields.Goals as goal

pub returns : goal.returns
unfolding yielded
returns c = λ s h. c.to_tail.ensures s h ∙ rw (same_running _ s h)
