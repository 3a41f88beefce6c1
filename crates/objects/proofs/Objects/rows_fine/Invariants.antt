use Rattle.std.proofs.Common.{◌≡◌, get_or}
use Rattle.lists.specs.Lists.{all_below}
use Rattle.objects.specs.Columns.{six}
use Rattle.objects.specs.Fine.{row_fine}
use Rattle.objects.proofs.Objects.rows_fine.Given as goal

abbrev pub invariant-loop-i : goal.invariant-loop-i
invariant-loop-i l =
    l.ok ≡ all_below l.i (λ j. row_fine (six (get_or l.state j 0) (get_or l.capacity j 0) (get_or l.size j 0) (get_or l.first j 0) (get_or l.count j 0) (get_or l.holder j 0)))
