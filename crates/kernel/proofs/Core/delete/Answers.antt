use Rattle.std.proofs.Common.{if◌then◌else◌}
use Rattle.kernel.specs.Stands.{core_of}
use Rattle.rules.specs.Effects.{deleted}
use Rattle.rules.specs.Lines.{leaves}
use Rattle.slots.specs.Values.{free_task, spent_task}
use Rattle.tasks.proofs.Columns.{put_of}
use Rattle.kernel.proofs.Core.delete.Goals as goal

pub returns : goal.returns
unfolding deleted leaves core_of
returns c =
    let o = c.args in
    λ s h. rw (c.set.ensures, c.remove.ensures, h, c.gone_task.ensures, put_of s.tasks o.t.0 (if o.last then spent_task else free_task))
