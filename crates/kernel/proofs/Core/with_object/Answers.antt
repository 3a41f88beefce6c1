use Rattle.kernel.specs.Stands.{core_of}
use Rattle.objects.proofs.Columns.{put_of}
use Rattle.kernel.proofs.Core.with_object.Goals as goal

pub returns : goal.returns
unfolding core_of
returns c = λ s h. rw (c.set.ensures, h, put_of s.objects c.args.o.0 c.args.kind)
