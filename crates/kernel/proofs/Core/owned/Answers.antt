use Rattle.kernel.specs.Stands.{core_of}
use Rattle.tasks.proofs.Columns.{owned_of}
use Rattle.slots.specs.Values.{task_at}
use Rattle.kernel.proofs.Core.owned.Goals as goal

pub returns : goal.returns
unfolding core_of task_at
returns c =
    λ s h.
    let a = c.args in
    rw (c.set_own.ensures, h, owned_of s.tasks a.t.0 a.own)
