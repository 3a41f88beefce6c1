use Rattle.std.proofs.Common.{◌≡◌}
use Rattle.lists.specs.Lists.{all_below}
use Rattle.tasks.proofs.Fines.{wait_number}
use Rattle.tasks.proofs.Tasks.turns_fine.Given as goal

abbrev pub invariant-loop-i : goal.invariant-loop-i
invariant-loop-i l = l.ok ≡ all_below l.i (wait_number l.state l.object l.flags l.opens l.takes l.holder)
