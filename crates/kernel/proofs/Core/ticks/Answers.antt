use Rattle.std.proofs.Common.{arith}
use Rattle.kernel.proofs.TickTurns.{ticking_begins, jumps_all, jumps_reckons, jumps_turning, jumps_on, none_left}
use Rattle.kernel.proofs.Core.ticks.Goals as goal

pub loop-left-init : goal.loop-left-init
loop-left-init c = ticking_begins c.args.turns c.args.self.now c.args.n c.requires.0 c.requires.1

pub returns-then-left-d : goal.returns-then-left-d
returns-then-left-d c =
    let until_due = c.until_due-d in
    jumps_all c.loop-left.invariant until_due.result until_due.ensures.1 until_due.ensures.0 c.if-left-d.true c.passed.ensures

pub tick_turned-requires : goal.tick_turned-requires
tick_turned-requires c =
    let until_due = c.until_due-d in
    let inv = c.loop-left.invariant in (
      jumps_reckons inv until_due.result until_due.ensures.1 until_due.ensures.0 c.passed-in-loop-left.ensures,
      jumps_turning inv until_due.result until_due.ensures.1 until_due.ensures.0 c.passed-in-loop-left.ensures,
    )

pub loop-left-preserved : goal.loop-left-preserved
loop-left-preserved c =
    let until_due = c.until_due-d in
    jumps_on c.loop-left.invariant until_due.result until_due.ensures.1 until_due.ensures.0 c.passed-in-loop-left.ensures c.tick_turned.ensures _
    (omega (arith, c.if-left-d.false))

pub returns : goal.returns
returns c = none_left c.loop-left.invariant (omega (arith, c.loop-left-test))
