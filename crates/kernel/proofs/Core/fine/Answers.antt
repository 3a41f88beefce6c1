use Rattle.kernel.proofs.SoundQuick.{quickly}
use Rattle.order.proofs.Halves.{halves}
use Rattle.kernel.proofs.Core.fine.Goals as goal

pub returns : goal.returns
returns c =
    let shaped = c.shaped in
    let holdings = c.holdings-holdings in
    let tallied = c.tallied-walk in
    quickly c.args.self _ holdings.result _ c.fine-rows.ensures holdings.ensures _ c.levels_fine-levels.ensures tallied.ensures.tallies shaped.ensures.1 shaped.ensures.2
    (rw (shaped.ensures.0, c.awaits_fine.ensures, c.waits_fine-turns.ensures, c.runs_fine-runs.ensures)
    (rw (tallied.ensures.numbers, c.zeros.ensures, halves)))
