use Rattle.std.proofs.Common.{◌≡◌}
use Rattle.lists.specs.Lists.{up_to}
use Rattle.tasks.specs.Dues.{woken}
use Rattle.tasks.specs.Loans.{level_in}
use Rattle.tasks.proofs.Tasks.set_levels.Given as goal

abbrev pub invariant-loop-n : goal.invariant-loop-n
invariant-loop-n l = woken l.self l.order ≡ up_to (level_in l.r l.levels) l.n (woken l.fn.self l.fn.order)
