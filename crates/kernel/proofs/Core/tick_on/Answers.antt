use Rattle.std.proofs.Common.{◌∙◌, le-ltb, lt-ltb}
use Rattle.kernel.proofs.Stands.{same_hold, same_pended}
use Rattle.rules.specs.Ticks.{ticked, one_tick}
use Rattle.kernel.proofs.Core.tick_on.Goals as goal

pub returns-then-self-gt0 : goal.returns-then-self-gt0
unfolding ticked
returns-then-self-gt0 c =
    λ s h. c.with_hold.ensures s h ∙ rw (same_hold _ s h, same_pended _ s h, lt-ltb 0 s.hold (rw (same_hold _ s h) at c.if-self-gt0.true))

pub returns-else-self-gt0 : goal.returns-else-self-gt0
unfolding ticked
returns-else-self-gt0 c =
    λ s h. c.turned.ensures (one_tick s) (c.one_tick.ensures s h) ∙ rw (le-ltb 0 s.hold (rw (same_hold _ s h) at c.if-self-gt0.false))
