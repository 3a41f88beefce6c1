use mathlib.Core.Path.{refl, sym, ◌∙◌}
use Rattle.tasks.proofs.Worked.{none_levelled}
use Rattle.tasks.proofs.Tasks.work_out.Goals as goal

pub returns-else-not-at_levels : goal.returns-else-not-at_levels
returns-else-not-at_levels c = none_levelled _ _ _ _ _ c.levels.result c.levels.ensures refl (sym c.if-not-at_levels.false ∙ c.at_levels.ensures)
