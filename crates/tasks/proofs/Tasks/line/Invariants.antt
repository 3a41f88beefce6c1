use Rattle.std.proofs.Common.{◌≡◌, [], take, if◌then◌else◌}
use Rattle.lists.specs.Lists.{foldl}
use Rattle.order.specs.Order.{ordered, appended_to}
use Rattle.slots.specs.Values.{in_line}
use Rattle.tasks.specs.Columns.{row_at}
use Rattle.tasks.proofs.Tasks.line.Given as goal

abbrev pub invariant-loop-t : goal.invariant-loop-t
invariant-loop-t l = l.line ≡ foldl (λ o t. if in_line l.p (row_at l.self t.0) then appended_to o t else o) (ordered []) (take l.t-index l.t-items)
