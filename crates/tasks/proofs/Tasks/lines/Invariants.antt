use Rattle.std.proofs.Common.{◌≡◌, take}
use Rattle.tasks.specs.Walks.{lines_in}
use Rattle.tasks.proofs.Tasks.lines.Given as goal

abbrev pub invariant-loop-t : goal.invariant-loop-t
invariant-loop-t l = l.lines ≡ lines_in l.fn.self (take l.t-index l.t-items)
