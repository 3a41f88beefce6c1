use Rattle.kernel.specs.Stands.{core_of}
use Rattle.tasks.proofs.Columns.{placed_of}
use Rattle.slots.specs.Values.{task_at}
use Rattle.kernel.proofs.Core.placed.Goals as goal

pub returns : goal.returns
unfolding core_of task_at
returns c =
    λ s h.
    let a = c.args in
    rw (c.place.ensures, h, placed_of s.tasks a.t.0 a.p a.n)
