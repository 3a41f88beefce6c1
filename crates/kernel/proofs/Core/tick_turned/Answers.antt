use Rattle.std.proofs.Common.{arith}
use Rattle.kernel.proofs.TickTurns.{overtaken, not_overtaken}
use Rattle.kernel.proofs.Core.tick_turned.Goals as goal

pub returns-then-y-top : goal.returns-then-y-top
returns-then-y-top c =
    let turns = c.if-not-turns.false in
    rw turns (overtaken (c.requires.1 turns) c.one_tick.ensures _ c.task-y.ensures _ c.top-top.ensures
    c.if-y-top.true _ c.line.ensures _ c.head_after-self.ensures)

pub turned_by-requires : goal.turned_by-requires
turned_by-requires c =
    let turns = c.if-not-turns.false in
    (not_overtaken (c.requires.1 turns) c.one_tick.ensures _ c.task-y.ensures _ c.top-top.ensures c.if-y-top.false, omega arith)
