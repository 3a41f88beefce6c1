use Rattle.std.proofs.Common.{◌≡◌, get_or, min, if◌then◌else◌}
use Rattle.lists.specs.Lists.{up_to}
use Rattle.slots.specs.Places.{ahead}
use Rattle.tasks.specs.Dues.{timed}
use Rattle.tasks.proofs.Tasks.until_due.Given as goal

abbrev pub invariant-loop-i : goal.invariant-loop-i
invariant-loop-i l = l.n ≡ up_to (λ m j. min m (if timed (get_or l.state j 0) then ahead l.now (get_or l.wake j 0) else 4294967295)) l.i 4294967295
