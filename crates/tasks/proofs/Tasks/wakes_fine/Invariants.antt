use Rattle.std.proofs.Common.{◌≡◌, ◌&&◌, get_or}
use Rattle.lists.specs.Lists.{all_below}
use Rattle.tasks.specs.Fine.{wake_fine}
use Rattle.tasks.specs.Masks.{mask_fine}
use Rattle.tasks.proofs.Tasks.wakes_fine.Given as goal

abbrev pub invariant-loop-i : goal.invariant-loop-i
invariant-loop-i l =
    l.ok ≡ all_below l.i (λ j. wake_fine (get_or l.state j 0) (get_or l.wake j 0) l.tick && mask_fine (get_or l.masks j 0) (get_or l.flags j 0))
