use Rattle.rows.specs.Asking.{is}
use Rattle.rules.specs.Tables.{with_hold}
use Rattle.kernel.proofs.LevelWorks.{reckons_next}
use Rattle.kernel.proofs.TickTurns.{unheld_turning, less_held, then_passes}
use Rattle.kernel.proofs.Core.time_passes.Goals as goal

pub returns-then-self-gt1 : goal.returns-then-self-gt1
returns-then-self-gt1 c = less_held c.args.self.now c.args.a.ticks (is 18 c.args.a) c.requires.0 c.if-self-gt1.true c.with_hold.ensures

pub ticks-requires : goal.ticks-requires
ticks-requires c = (
  reckons_next (λ s. with_hold s 0 0) c.requires.2 c.with_hold-2.ensures (λ s h S. S),
  λ e. unheld_turning (c.requires.0 e) c.with_hold-2.ensures,
)

pub returns : goal.returns
returns c =
    then_passes c.args.self.now c.args.a.ticks (is 18 c.args.a) c.requires.0 c.requires.1 c.if-self-gt1.false c.with_hold-2.ensures
    (rw (← c.so_many-n.ensures) c.ticks.ensures)
