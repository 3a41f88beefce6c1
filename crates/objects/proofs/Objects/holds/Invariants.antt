use Rattle.std.proofs.Common.{◌≡◌, ◌&&◌, ◌||◌, eqb, leb, get_or, false}
use Rattle.lists.specs.Lists.{up_to}
use Rattle.objects.proofs.Objects.holds.Given as goal

abbrev pub invariant-loop-i : goal.invariant-loop-i
invariant-loop-i l = l.found ≡ up_to (λ b j. b || (leb 6 (get_or l.self.state j 0) && eqb (get_or l.self.holder j 0) l.t.0)) l.i false
