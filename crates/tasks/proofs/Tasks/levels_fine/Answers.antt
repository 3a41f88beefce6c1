use Rattle.std.proofs.Common.{refl, sym, ◌∙◌}
use Rattle.tasks.proofs.Fines.{none_there}
use Rattle.tasks.proofs.Columns.{Full}
use Rattle.tasks.proofs.Lengths.{full_of}
use Rattle.tasks.proofs.Worked.{all_own}
use Rattle.tasks.proofs.Tasks.levels_fine.Goals as goal

pub returns-then-not-is_waiting : goal.returns-then-not-is_waiting
returns-then-not-is_waiting c =
    let f : Full c.args.self = search full_of in
    let r = all_own c.args.self f c.args.by _ refl (none_there (sym c.is_waiting.ensures ∙ c.if-not-is_waiting.true)) in
    rw (← r.ended, ← r.said) c.at_levels.ensures
