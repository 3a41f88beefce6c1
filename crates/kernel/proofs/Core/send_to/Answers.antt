use Rattle.std.proofs.Common.{sym, ap, ◌∙◌, arith}
use Rattle.rules.proofs.TableWithin.{waiter_within}
use Rattle.rules.specs.Queues.{sent, store_sent}
use Rattle.kernel.specs.Stands.{shown_core, outlet_of}
use Rattle.kernel.proofs.Stands.{same_running}
use lib.Seq.{take-length}
use Rattle.kernel.proofs.Core.send_to.Goals as goal

pub to_slip-requires : goal.to_slip-requires
to_slip-requires c =
    let k = shown_core c.args.self.now in
    let v = waiter_within k c.args.o c.args.q _ (sym (c.outlet.ensures k c.requires.2.stands) ∙ ap outlet_of c.in-Waiter.is) in
    (omega (arith, v, c.requires.2.sound.tables.task_slots), omega arith)

pub returns-in-Caller : goal.returns-in-Caller
unfolding sent store_sent
returns-in-Caller c =
    let x = c.outlet.ensures in
    let told = c.in-Caller.is in
    (λ s h. rw (← x s h, told) (c.wait_for.ensures s h), λ s h. rw (← x s h, told) (c.to_slip-in-Caller.ensures ∙ rw (take-length, same_running _ s h)))
