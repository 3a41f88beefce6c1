use Rattle.std.proofs.Common.{◌≡◌, ◌+◌, get_or, ltb, if◌then◌else◌}
use Rattle.lists.specs.Lists.{up_to}
use Rattle.tasks.specs.Known.{waits_state}
use Rattle.tasks.proofs.Tasks.is_waiting.Given as goal

abbrev pub invariant-loop-i : goal.invariant-loop-i
invariant-loop-i l = l.any ≡ ltb 0 (up_to (λ m j. m + (if waits_state (get_or l.state j 0) then 1 else 0)) l.i 0)
