use Rattle.std.proofs.Common.{◌≡◌, ◌≤◌, take}
use Rattle.lists.specs.Lists.{foldl}
use Rattle.order.specs.Turns.{walk, past_next}
use Rattle.order.proofs.Order.remove_first.Given as goal

abbrev pub invariant-loop-x : goal.invariant-loop-x
invariant-loop-x l = (walk l.self l.j ≡ foldl (past_next l.leaving) (walk l.initial.self 0) (take l.x-index l.x-items)) × (l.j ≤ l.x-index)
