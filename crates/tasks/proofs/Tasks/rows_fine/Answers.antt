use Rattle.std.proofs.Common.{◌≡◌, ◌∙◌, arith}
use Rattle.tasks.proofs.Fines.{rows_idle}
use Rattle.tasks.proofs.Tasks.rows_fine.Goals as goal

pub returns : goal.returns
returns c =
    let a = c.args in
    let e : c.loop-i.i ≡ 16 = omega arith in
    rw e at c.loop-i.invariant ∙ rows_idle a.self a.stands a.holds
