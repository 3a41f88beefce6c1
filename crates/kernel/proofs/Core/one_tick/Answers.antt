use Rattle.std.proofs.Common.{sym, refl, ◌∙◌}
use Rattle.rules.specs.Tables.{with_tick}
use Rattle.rules.specs.Waits.{later}
use Rattle.rules.specs.Ticks.{counted_on, one_tick}
use Rattle.kernel.proofs.Stands.{same_tick}
use Rattle.kernel.proofs.LevelWorks.{reckons_next, counts_quietly}
use Rattle.kernel.proofs.Core.one_tick.Goals as goal

pub wakes-requires : goal.wakes-requires
wakes-requires c = reckons_next (λ s. with_tick s _) c.requires c.with_tick.ensures (λ s h S. S)

pub returns-then-someone_due : goal.returns-then-someone_due
unfolding one_tick counted_on
returns-then-someone_due c =
    λ s h.
    c.wakes.ensures (with_tick s (later s.tick 1))
    (c.with_tick.ensures s h ∙ rw (same_tick _ s h))

pub returns-else-someone_due : goal.returns-else-someone_due
returns-else-someone_due c =
    λ s h.
    counts_quietly c.requires s h _ refl (c.with_tick.ensures s h)
    (sym c.someone_due.ensures ∙ c.if-someone_due.false)
