use Rattle.tasks.proofs.Columns.{Full, lost_row}
use Rattle.tasks.proofs.Lengths.{full_of}
use mathlib.Core.Path.{sym}
use native.Mathlib.Omega.{arith}
use Rattle.tasks.proofs.Tasks.set.Goals as goal

pub returns-else-i-lt16 : goal.returns-else-i-lt16
returns-else-i-lt16 c =
    let a = c.args in
    let f : Full a.self.now = search full_of in
    sym (lost_row a.self.now f a.t.0 (omega arith) a.x)
