use Rattle.kernel.proofs.Stands.{same_running, same_hold, same_pended}
use Rattle.kernel.proofs.Core.seen.Goals as goal

pub returns : goal.returns
returns c =
    λ s h.
    rw (
      c.task.ensures s h,
      c.kind.ensures s h,
      c.new_slot.ensures s h,
      c.used.ensures s h,
      c.closes_circle.ensures s h,
      same_running _ s h,
      same_hold _ s h,
      same_pended _ s h,
    )
