use Rattle.std.proofs.Common.{◌≡◌, take}
use Rattle.lists.specs.Lists.{foldl}
use Rattle.tasks.specs.Dues.{woken, wake_in}
use Rattle.tasks.proofs.Tasks.wake_due.Given as goal

abbrev pub invariant-loop-t : goal.invariant-loop-t
invariant-loop-t l = woken l.self l.order ≡ foldl (wake_in l.now) (woken l.fn.self l.fn.order) (take l.t-index l.t-items)
