use Rattle.std.proofs.Common.{sym, ap, ◌∙◌, arith, rules}
use Rattle.slots.specs.Leads.{whom}
use Rattle.rules.specs.Events.{slip_bits}
use Rattle.kernel.proofs.EventTurns.{rouse_begins, rouse_none, rouse_low, rouse_next, rouse_woken, rouse_asked, rouse_told}
use Rattle.kernel.proofs.Core.rouse.Goals as goal

pub loop-init : goal.loop-init
loop-init c =
    let a = c.args in
    (rouse_begins c.requires a.o a.bits _, c.requires, c.four_bytes-four.ensures)

pub to_slip-requires : goal.to_slip-requires
to_slip-requires c =
    let l = c.loop in
    let a = c.args in
    (rouse_low l.invariant.1 a.o a.bits l.invariant.0 (search rules) _ (λ s h. sym (ap whom c.in-Some.is) ∙ c.first_satisfied.ensures s h), omega arith)

pub loop-preserved : goal.loop-preserved
unfolding slip_bits
loop-preserved c =
    let l = c.loop in
    let a = c.args in
    let slip = c.to_slip.ensures in (
      rouse_next l.invariant.1 a.o a.bits l.invariant.0 (search rules) _ (λ s h. sym (ap whom c.in-Some.is) ∙ c.first_satisfied.ensures s h) (λ s h. c.arrives.ensures s h)
          (λ s h. c.clears-clears.ensures s h) (slip ∙ rw l.invariant.2),
      l.invariant.1,
      l.invariant.2,
    )

pub returns-after-loop : goal.returns-after-loop
returns-after-loop c =
    let l = c.loop in
    let a = c.args in
    (rouse_woken l.invariant.1 a.o a.bits l.invariant.0 (omega arith), rouse_asked l.invariant.1 a.o a.bits l.invariant.0 (omega arith), rouse_told l.invariant.1 a.o a.bits l.invariant.0 (omega arith))

-- nobody is left
pub returns-in_default : goal.returns-in_default
returns-in_default c =
    let l = c.loop in
    let a = c.args in
    let done = rouse_none l.invariant.1 a.o a.bits l.invariant.0 (search rules) (λ s h. sym (ap whom c.in_default.is) ∙ c.first_satisfied.ensures s h) in
    (rouse_woken l.invariant.1 a.o a.bits done (omega arith), rouse_asked l.invariant.1 a.o a.bits done (omega arith), rouse_told l.invariant.1 a.o a.bits done (omega arith))
