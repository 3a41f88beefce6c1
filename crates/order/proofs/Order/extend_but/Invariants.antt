use Rattle.std.proofs.Common.{◌≡◌, take}
use Rattle.lists.specs.Lists.{foldl}
use Rattle.order.specs.Order.{unless}
use Rattle.order.proofs.Order.extend_but.Given as goal

abbrev pub invariant-loop-x : goal.invariant-loop-x
invariant-loop-x l = l.self ≡ foldl (unless l.t) l.fn.self (take l.x-index l.x-items)
