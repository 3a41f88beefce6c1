use Rattle.std.proofs.Common.{◌∙◌, ne_eqb}
use Rattle.kernel.proofs.Stands.{same_running}
use Rattle.rules.specs.Queues.{received, store_received}
use Rattle.kernel.proofs.Core.receive_from.Goals as goal

pub returns : goal.returns
unfolding received store_received
returns c =
    let who = c.waiter-f.ensures.0 in
    let some = ne_eqb _ _ c.if-q-eq0.false in (
      λ s h. rw some (c.refilled.ensures.0 s h ∙ rw (c.one_less-rest.ensures, who s h)),
      λ s h. rw some
          (c.refilled.ensures.1
          ∙ rw (c.to_slip.ensures, c.from.ensures, c.of_ring-item.ensures, c.one_less-rest.ensures, who s h, same_running _ s h)),
    )
