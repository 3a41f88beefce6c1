use Rattle.std.proofs.Common.{◌≡◌, ◌∙◌, arith}
use Rattle.tasks.proofs.Fines.{wakes_are}
use Rattle.tasks.proofs.Tasks.wakes_fine.Goals as goal

pub returns : goal.returns
returns c =
    let a = c.args in
    let e : c.loop-i.i ≡ 16 = omega arith in
    rw e at c.loop-i.invariant ∙ wakes_are a.self a.tick
