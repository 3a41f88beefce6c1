use Rattle.std.proofs.Common.{◌∙◌, arith}
use Rattle.tasks.proofs.StateTests.{row_satisfied}
use Rattle.tasks.proofs.Tasks.waits_for.Goals as goal

pub returns-then-waits : goal.returns-then-waits
returns-then-waits c =
    let a = c.args in
    let r = row_satisfied a.self.now a.t.0 a.x a.bits c.in-Some.b c.in-Some.is in
    c.satisfied.ensures ∙ rw (c.get.ensures, c.slot.ensures) (grind (arith, r))

pub returns-else-waits : goal.returns-else-waits
returns-else-waits c =
    let a = c.args in
    let r = row_satisfied a.self.now a.t.0 a.x a.bits c.in-Some.b c.in-Some.is in
    grind (arith, r)
