use Rattle.std.proofs.Common.{◌∙◌}
use Rattle.kernel.specs.Stands.{core_of}
use Rattle.objects.proofs.ByList.{holds_of}
use Rattle.rules.specs.Tables.{holds}
use Rattle.kernel.proofs.Core.holds.Goals as goal

pub returns : goal.returns
unfolding core_of holds
returns c = λ s h. c.holds.ensures ∙ rw h (holds_of s.objects c.args.t)
