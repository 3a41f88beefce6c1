use Rattle.std.proofs.Common.{sym, ◌∙◌}
use Rattle.kernel.proofs.Stands.{same_running}
use Rattle.rules.specs.Events.{slip_bits, awaited, store_awaited}
use Rattle.kernel.proofs.Core.await_bits.Goals as goal

pub returns-then-satisfied : goal.returns-then-satisfied
unfolding awaited store_awaited slip_bits
returns-then-satisfied c =
    let met = sym c.satisfied.ensures ∙ c.if-satisfied.true in (
      λ s h. rw met (c.with_object.ensures s h ∙ rw (c.cleared.ensures, c.clears.ensures)),
      λ s h. rw met (c.to_slip.ensures ∙ rw (c.four_bytes-four.ensures, same_running _ s h)),
    )
