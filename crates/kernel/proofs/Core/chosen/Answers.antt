use Rattle.std.proofs.Common.{sym, ap, ◌∙◌}
use Rattle.kernel.proofs.TableWalks.{chosen_by, stays_running}
use Rattle.kernel.proofs.Stands.{same_hold}
use Rattle.kernel.specs.Stands.{core_of}
use Rattle.kernel.proofs.Core.chosen.Goals as goal

pub returns-then-self-eq0 : goal.returns-then-self-eq0
unfolding core_of
returns-then-self-eq0 c =
    λ s h.
    rw (c.leader-self.ensures, h)
    (ap core_of (chosen_by s (sym (same_hold _ s h) ∙ c.if-self-eq0.true)))

pub returns-else-self-eq0 : goal.returns-else-self-eq0
returns-else-self-eq0 c = λ s h. h ∙ ap core_of (stays_running s (λ e. c.if-self-eq0.false (same_hold _ s h ∙ e)))
