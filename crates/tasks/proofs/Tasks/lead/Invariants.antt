use Rattle.std.proofs.Common.{◌≡◌, take}
use Rattle.tasks.specs.Walks.{lead_in, who_on}
use Rattle.tasks.proofs.Tasks.lead.Given as goal

abbrev pub invariant-loop-t : goal.invariant-loop-t
invariant-loop-t l = l.best ≡ lead_in l.self (who_on l.x l.bits) (take l.t-index l.t-items)
