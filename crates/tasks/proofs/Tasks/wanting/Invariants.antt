use Rattle.std.proofs.Common.{◌≡◌, ◌+◌, ◌≤◌, eqb, get_or, if◌then◌else◌}
use Rattle.lists.specs.Lists.{up_to}
use Rattle.tasks.proofs.Tasks.wanting.Given as goal

abbrev pub invariant-loop-i : goal.invariant-loop-i
invariant-loop-i l = (l.n ≡ up_to (λ m j. m + (if eqb (get_or l.flags j 0) 0 then 0 else 1)) l.i 0) × (l.n ≤ l.i)
