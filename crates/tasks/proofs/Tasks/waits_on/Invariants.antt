use Rattle.std.proofs.Common.{◌≡◌, ◌||◌, false, get_or}
use Rattle.lists.specs.Lists.{up_to}
use Rattle.slots.specs.declared.Want.TheVariants.{OwnTurn}
use Rattle.slots.specs.Who.{waiters_of}
use Rattle.tasks.specs.Walks.{is_meant}
use Rattle.tasks.proofs.Tasks.waits_on.Given as goal

abbrev pub invariant-loop-i : goal.invariant-loop-i
invariant-loop-i l = l.found ≡ up_to (λ b j. b || is_meant (waiters_of l.o) (get_or l.state j 0) (get_or l.object j 0) OwnTurn) l.i false
