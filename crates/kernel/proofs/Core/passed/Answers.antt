use Rattle.std.proofs.Common.{sym, refl, subst}
use Rattle.rules.specs.Ticks.{turnings}
use Rattle.kernel.specs.Types.{Core}
use Rattle.kernel.specs.Does.{Does}
use Rattle.kernel.proofs.TickTurns.{counts_on, no_tick_turns, none_turns}
use Rattle.kernel.proofs.Core.passed.Goals as goal
use Rattle.kernel.proofs.Core.passed.Goals.{then-turns+then-n-gt0, else-turns, else-turns-via-then-turns+else-n-gt0, else-turns-via-else-turns}

pub returns : goal.returns
returns c =
    let a = c.args in
    let turned : Does a.self.now (turnings a.turns a.n) c.if-turns.self =
    elim c.if-turns.branch [
      | then-turns+then-n-gt0 w ↦ subst (λ (r : Core). Does a.self.now (turnings a.turns a.n) r) (sym w.self-is) (rw w.if-turns.true w.turned_by.ensures)
      | else-turns w ↦ subst (λ (r : Core). Does a.self.now (turnings a.turns a.n) r) (sym w.self-is)
          (elim w.else-turns.branch [
            | else-turns-via-then-turns+else-n-gt0 v ↦ no_tick_turns _ a.n a.turns v.if-n-gt0.false
            | else-turns-via-else-turns v ↦ none_turns _ a.n a.turns v.if-turns.false
          ])
    ] in
    counts_on a.n _ refl a.turns turned c.with_tick.ensures
