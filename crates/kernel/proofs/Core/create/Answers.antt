use Rattle.kernel.specs.Stands.{core_of}
use Rattle.rules.specs.Effects.{created}
use Rattle.numbers.specs.Numbers.{task}
use Rattle.rules.specs.Tables.{free_slot}
use Rattle.rules.specs.Lines.{to_tail}
use Rattle.slots.specs.Values.{ready_at}
use Rattle.tasks.proofs.Columns.{put_of}
use Rattle.kernel.proofs.Core.create.Goals as goal

pub returns : goal.returns
unfolding created to_tail core_of
returns c =
    let of = c.of-t in
    λ s h. rw (c.set.ensures, c.to_tail.ensures, c.ready_at.ensures, of.ensures, c.requires s h, h, put_of s.tasks (task (free_slot s.tasks)).0 (ready_at c.args.p))
