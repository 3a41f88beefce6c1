use Rattle.std.proofs.Common.{◌∙◌}
use Rattle.kernel.specs.Stands.{core_of}
use Rattle.objects.proofs.ByList.{object_of}
use Rattle.kernel.proofs.Core.kind.Goals as goal

pub returns : goal.returns
unfolding core_of
returns c = λ s h. c.get.ensures ∙ rw h (object_of s.objects c.args.o)
