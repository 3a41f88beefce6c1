use Rattle.std.proofs.Common.{sym, refl, ap, ◌∙◌}
use Rattle.kernel.specs.Stands.{core_of}
use Rattle.kernel.proofs.TableWalks.{woken_core}
use Rattle.kernel.proofs.LevelWorks.{wakes_settle}
use Rattle.kernel.proofs.Core.wakes.Goals as goal

pub returns-then-not-last : goal.returns-then-not-last
returns-then-not-last c = λ s h. c.worked_out.ensures _ (woken_core _ s h _ c.wake_due.ensures)

pub returns-else-not-last : goal.returns-else-not-last
returns-else-not-last c =
    λ s h. woken_core _ s h _ c.wake_due.ensures ∙ ap core_of (wakes_settle c.requires s h _ refl (sym c.waits_last-last.ensures ∙ c.if-not-last.false) _)
