use Rattle.std.proofs.Common.{ap, arith}
use Rattle.slots.specs.Leads.{whom}
use Rattle.kernel.proofs.Core.refilled.Goals as goal

pub of_slip-item-requires : goal.of_slip-item-requires
of_slip-item-requires c = (c.requires.2 _ (ap whom c.in-Some.is), omega arith)
