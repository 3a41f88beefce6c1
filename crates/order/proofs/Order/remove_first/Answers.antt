use Rattle.lists.proofs.Folds.{fold_all}
use Rattle.order.proofs.Walks.{walked}
use Rattle.order.specs.Order.{listed}
use Rattle.order.specs.Turns.{Walk}
use Rattle.std.proofs.Common.{ap, ◌∙◌, [], take}
use Rattle.order.proofs.Order.remove_first.Goals as goal

pub returns : goal.returns
returns c =
    let a = c.args in
    ap (λ (w : Walk). w.left) (c.loop-x.invariant.0 ∙ fold_all _ _ _ _ c.loop-x-test.false)
    ∙ rw (c.empty.ensures, c.first-leaving.ensures, c.listed-x-items.ensures.those) (walked (take a.n (listed a.line.now)) [] (listed a.self.now) 0)
