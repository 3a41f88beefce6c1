use Rattle.std.proofs.Common.{◌∙◌}
use Rattle.kernel.specs.Stands.{core_of}
use Rattle.tasks.proofs.ByList.{task_of}
use Rattle.kernel.proofs.Core.task.Goals as goal

pub returns : goal.returns
unfolding core_of
returns c = λ s h. c.get.ensures ∙ rw h (task_of s.tasks c.args.t)
