use Rattle.std.proofs.Common.{◌≡◌, take}
use Rattle.lists.specs.Lists.{foldl}
use Rattle.order.specs.Order.{appended_to}
use Rattle.order.proofs.Order.push_first.Given as goal

abbrev pub invariant-loop-x : goal.invariant-loop-x
invariant-loop-x l = l.self ≡ foldl appended_to l.fn.self (take l.x-index l.x-items)
