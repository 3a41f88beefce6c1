use Rattle.kernel.proofs.LevelWorks.{worked_core}
use Rattle.kernel.proofs.Core.worked_out.Goals as goal

pub returns : goal.returns
returns c =
    let worked = c.work_out.ensures in
    let holders = c.holders-by in
    λ s h. worked_core _ s h worked.many _ holders.ensures _ worked.said
