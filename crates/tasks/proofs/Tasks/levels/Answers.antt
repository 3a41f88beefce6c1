use Rattle.std.proofs.Common.{refl, sym, ◌∙◌}
use Rattle.tasks.proofs.Fines.{none_there}
use Rattle.tasks.proofs.Columns.{Full}
use Rattle.tasks.proofs.Lengths.{full_of}
use Rattle.tasks.proofs.Worked.{all_own, all_lent}
use Rattle.tasks.proofs.Tasks.levels.Goals as goal

pub returns-then-not-is_waiting : goal.returns-then-not-is_waiting
returns-then-not-is_waiting c =
    let f : Full c.args.self = search full_of in
    all_own c.args.self f c.args.by _ refl (none_there (sym c.is_waiting.ensures ∙ c.if-not-is_waiting.true))

pub returns : goal.returns
returns c =
    let f : Full c.args.self = search full_of in
    all_lent c.args.self f c.args.by _ _ c.ontos.ensures c.levels.ensures
