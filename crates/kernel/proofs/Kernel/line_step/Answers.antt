use Rattle.std.proofs.Common.{sym, ◌∙◌}
use Rattle.kernel.proofs.SessionRuns.{unsound_step, no_line_step, sound_step}
use Rattle.kernel.proofs.Kernel.line_step.Goals as goal

pub returns-in-Ok : goal.returns-in-Ok
returns-in-Ok c = sound_step _ _ c.args.line _ _ _ c.in-Ok.is (sym c.requires.0 ∙ c.if-fine.true) c.step_sound.ensures

pub returns-in-Ok-2 : goal.returns-in-Ok-2
returns-in-Ok-2 c = unsound_step _ _ c.args.line c.requires.1 _ c.in-Ok-2.is (sym c.requires.0 ∙ c.if-fine.false)

pub returns-in-Err : goal.returns-in-Err
returns-in-Err c = no_line_step _ _ c.args.line c.requires.1 _ _ _ c.in-Err.is c.requires.0 c.no_line.ensures
