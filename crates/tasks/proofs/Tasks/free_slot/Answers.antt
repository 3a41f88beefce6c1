use Rattle.std.proofs.Common.{◌∙◌}
use Rattle.tasks.proofs.Columns.{Full}
use Rattle.tasks.proofs.Lengths.{full_of}
use Rattle.tasks.proofs.WalkTurns.{free_first}
use Rattle.tasks.proofs.Tasks.free_slot.Goals as goal

pub returns : goal.returns
returns c =
    let f : Full c.args.self = search full_of in
    c.first_zero.ensures ∙ free_first c.args.self f
