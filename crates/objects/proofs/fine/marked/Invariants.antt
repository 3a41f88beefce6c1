use Rattle.std.proofs.Common.{◌≡◌, false, take, replicate, length}
use Rattle.lists.specs.Lists.{foldl}
use Rattle.objects.specs.Fine.{marking}
use Rattle.objects.proofs.fine.marked.Given as goal

abbrev pub invariant-loop-t : goal.invariant-loop-t
invariant-loop-t l = record { marked : l.held ≡ foldl marking (replicate 16 false) (take l.t-index l.by); wide : length l.held ≡ 16 }
