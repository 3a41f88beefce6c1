use Rattle.std.proofs.Common.{◌≡◌, ◌&&◌, eqb, get_or, not}
use Rattle.lists.specs.Lists.{all_below}
use Rattle.tasks.proofs.Tasks.waits_last.Given as goal

abbrev pub invariant-loop-i : goal.invariant-loop-i
invariant-loop-i l = l.ok ≡ all_below l.i (λ j. not (eqb (get_or l.state j 0) 3 && eqb (get_or l.wake j 0) l.now))
