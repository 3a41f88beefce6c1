use Rattle.std.proofs.Common.{◌≡◌, ◌&&◌, eqb, get_or, false}
use Rattle.lists.specs.Lists.{all_below}
use Rattle.tasks.specs.Fine.{row_fine, idle_if}
use Rattle.tasks.proofs.Tasks.rows_fine.Given as goal

abbrev pub invariant-loop-i : goal.invariant-loop-i
invariant-loop-i l =
    l.ok ≡ all_below l.i (λ j. idle_if (eqb j 0) (get_or l.state j 0) (get_or l.own j 0) (get_or l.effective j 0) (get_or l.holds j false)
    && row_fine (get_or l.state j 0) (get_or l.object j 0) (get_or l.flags j 0) (get_or l.own j 0) (get_or l.effective j 0) (get_or l.outcome j 0) (get_or l.stands j 0) (get_or l.holds j false))
