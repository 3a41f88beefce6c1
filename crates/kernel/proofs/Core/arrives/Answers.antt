use Rattle.kernel.specs.Stands.{core_of}
use Rattle.rules.specs.Waits.{arrives}
use Rattle.rules.specs.Lines.{to_tail}
use Rattle.slots.specs.Values.{task_at}
use Rattle.tasks.proofs.Columns.{placed_of}
use Rattle.kernel.proofs.Core.arrives.Goals as goal

pub returns : goal.returns
unfolding arrives to_tail core_of task_at
returns c =
    λ s h.
    let a = c.args in
    rw (c.place.ensures, c.to_tail.ensures, h, placed_of s.tasks a.t.0 a.p a.n)
