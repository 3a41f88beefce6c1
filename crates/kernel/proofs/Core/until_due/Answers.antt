use Rattle.std.proofs.Common.{◌∙◌, rules}
use Rattle.kernel.specs.Stands.{core_of}
use Rattle.tasks.proofs.ByList.{until_of}
use Rattle.rules.specs.Ticks.{until_due}
use Rattle.kernel.proofs.Core.until_due.Goals as goal

pub returns : goal.returns
unfolding core_of until_due
returns c = (λ s h. c.until_due.ensures ∙ rw h (until_of s.tick s.tasks), search rules)
