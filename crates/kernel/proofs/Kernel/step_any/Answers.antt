use Rattle.std.proofs.Common.{sym, ◌∙◌}
use Rattle.kernel.proofs.StepEnds.{sound_steps, unsound_steps}
use Rattle.kernel.proofs.Kernel.step_any.Goals as goal

pub returns-then-is_sound : goal.returns-then-is_sound
returns-then-is_sound c =
    let a = c.args in
    sound_steps a.self.now a.call a.item.now a.store.now _ _
    (sym c.is_sound.ensures.0 ∙ c.if-is_sound.true) c.step_sound.ensures

pub returns-else-is_sound : goal.returns-else-is_sound
returns-else-is_sound c =
    let a = c.args in
    unsound_steps a.self.now a.call a.item.now a.store.now (sym c.is_sound.ensures.0 ∙ c.if-is_sound.false)
