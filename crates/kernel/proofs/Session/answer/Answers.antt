use Rattle.std.proofs.Common.{subst, arith, rules}
use Rattle.cuts.proofs.Gathering.{stands, further}
use Rattle.kernel.specs.Stands.{shown}
use Rattle.kernel.specs.Promises.{Is, came}
use Rattle.rules.specs.Sessions.{step_read}
use Rattle.journal.specs.declared.Read.{Read}
use Rattle.kernel.proofs.SessionRuns.{whole_cut, session_stands, gathers_on, ends_there, no_room_left, answered_on}
use Rattle.kernel.proofs.Session.answer.Goals as goal

pub returns-in-Err : goal.returns-in-Err
returns-in-Err c = ends_there c.loop-next.invariant.0 c.in-Err.ensures

pub returns-then-out-written-lt256 : goal.returns-then-out-written-lt256
returns-then-out-written-lt256 c =
    no_room_left (gathers_on c.loop-next.invariant.0 c.in-Ok.ensures) (stands c.args.block.now c.loop-next.at c.loop-next.self.cut _ _ c.in-Ok.ensures) c.if-out-written-lt256.true

pub line_step-requires : goal.line_step-requires
line_step-requires c =
    let keep = c.keep in
    let whole = c.whole-m in
    let w = c.loop-next.invariant.0 in
    (w.known, session_stands w, (whole_cut keep.new.self.bytes keep.new.self.len whole.result c.read_call-line.result whole.ensures.0 c.read_call-line.ensures).1)

pub overflow_add-at : goal.overflow_add-at
overflow_add-at c =
    let h = further c.args.block.now c.loop-next.at c.loop-next.self.cut _ _ c.in-Ok.ensures in
    omega (arith, h.1)

pub loop-next-smaller : goal.loop-next-smaller
loop-next-smaller c =
    let h = further c.args.block.now c.loop-next.at c.loop-next.self.cut _ _ c.in-Ok.ensures in
    omega (arith, h.0, h.1)

pub loop-next-preserved : goal.loop-next-preserved
loop-next-preserved c =
    let keep = c.keep in
    let put_answer = c.put_answer-written in
    let whole = c.whole-m in
    let read_call = c.read_call-line in
    let q = c.line_step in (
      answered_on (gathers_on c.loop-next.invariant.0 c.in-Ok.ensures) keep.new.self (came q.new.self q.result) q.new.store put_answer.result put_answer.new.line keep.ensures
          (subst (λ (x : Read). Is c.loop-next.self.kernel (step_read (shown c.loop-next.self.kernel) c.loop-next.store x) (came q.new.self q.result) q.new.store)
          (whole_cut keep.new.self.bytes keep.new.self.len whole.result read_call.result whole.ensures.0 read_call.ensures).0 q.ensures)
          (rw (← c.told-answer.ensures, ← c.runs.ensures) put_answer.ensures) c.if-out-written-lt256.false (stands c.args.block.now c.loop-next.at c.loop-next.self.cut _ _ c.in-Ok.ensures),
      search rules,
    )
