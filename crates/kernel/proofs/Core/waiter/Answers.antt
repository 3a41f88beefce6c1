use Rattle.std.proofs.Common.{sym, ◌∙◌, arith}
use Rattle.rules.proofs.TableWithin.{first_within}
use Rattle.kernel.specs.Stands.{shown_core}
use Rattle.slots.specs.Who.{waiters_of}
use Rattle.kernel.proofs.Core.waiter.Goals as goal

pub returns : goal.returns
returns c = (
  λ s h. c.first_waiter.ensures s h,
  λ t e.
      let k = shown_core c.args.self.now in
      let w = first_within k (waiters_of c.args.o) t (sym (c.first_waiter.ensures k c.requires.stands) ∙ e) in
      omega (arith, w, c.requires.sound.tables.task_slots),
)
