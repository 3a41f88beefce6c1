use borrow.Author.Rules.{rules}
use Rattle.lists.proofs.Loops.{all_turn}
use Rattle.numbers.specs.Numbers.{idle}
use Rattle.order.proofs.Halves.{behind_held, behind_at, behind_zeros}
use lib.ListN.{get_or}
use mathlib.Core.Path.{◌≡◌}
use Rattle.order.proofs.Order.zeros.Goals as goal

pub loop-i-init : goal.loop-i-init
loop-i-init c = behind_held c.args.self.now.places c.reach-i.result

pub loop-i-preserved : goal.loop-i-preserved
loop-i-preserved c =
    let l = c.loop-i in
    let m = (get_or c.args.self.now.places l.i idle).0 in
    all_turn l.invariant (rw c.is_idle-ok.ensures (behind_at l.ok c.reach-i.result l.i m (search rules)))

pub returns : goal.returns
returns c =
    let e : c.loop-i.i ≡ 16 = search rules in
    behind_zeros c.args.self.now c.reach-i.ensures (rw e at c.loop-i.invariant)
