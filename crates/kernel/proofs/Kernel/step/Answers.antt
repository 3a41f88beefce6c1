use Rattle.kernel.proofs.Kernel.step.Goals as goal

pub returns : goal.returns
returns c = rw c.told-answer.ensures c.step_any.ensures
