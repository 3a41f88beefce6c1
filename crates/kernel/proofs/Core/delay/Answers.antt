use Rattle.std.proofs.Common.{◌∙◌, eq-eqb, ne_eqb}
use Rattle.kernel.proofs.Stands.{same_running, same_tick}
use Rattle.rules.specs.Effects.{delayed, yielded}
use Rattle.kernel.proofs.Core.delay.Goals as goal

pub returns-then-n-eq0 : goal.returns-then-n-eq0
unfolding delayed yielded
returns-then-n-eq0 c = λ s h. rw (eq-eqb c.args.n 0 c.if-n-eq0.true) (c.to_tail.ensures s h ∙ rw (same_running _ s h))

pub returns-else-n-eq0 : goal.returns-else-n-eq0
unfolding delayed
returns-else-n-eq0 c =
    λ s h.
    rw (ne_eqb c.args.n 0 c.if-n-eq0.false)
    (c.arrives.ensures s h ∙ rw (same_tick _ s h, same_running _ s h))
