use Rattle.std.proofs.Common.{◌∙◌}
use Rattle.kernel.proofs.Stands.{same_running, same_tick}
use Rattle.rules.specs.Waits.{wait_for}
use Rattle.kernel.proofs.Core.wait_for.Goals as goal

pub returns : goal.returns
unfolding wait_for
returns c = λ s h. c.arrives.ensures s h ∙ rw (c.wake_of-wake.ensures, same_tick _ s h, same_running _ s h)
