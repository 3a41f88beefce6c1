use Rattle.std.proofs.Common.{◌∙◌}
use Rattle.rules.specs.Ticks.{held}
use Rattle.kernel.proofs.Stands.{same_hold, same_pended}
use Rattle.kernel.proofs.Core.hold_deeper.Goals as goal

pub returns : goal.returns
unfolding held
returns c = λ s h. c.with_hold.ensures s h ∙ rw (same_hold _ s h, same_pended _ s h)
