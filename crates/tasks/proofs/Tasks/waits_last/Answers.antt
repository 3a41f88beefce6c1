use Rattle.tasks.proofs.Wakes.{ends_are}
use Rattle.tasks.proofs.Tasks.waits_last.Goals as goal

-- src/dues.rt:66:5
pub returns : goal.returns
returns c = ends_are _ _ _ _ c.loop-i-test.false c.loop-i.auto.i-end c.loop-i.invariant
