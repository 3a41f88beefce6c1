use Rattle.journal.specs.Reader.{no_call}
use Rattle.journal.proofs.Promised.{reads_as}
use Rattle.journal.proofs.reader.read_call.Goals as goal

pub returns-in-Some : goal.returns-in-Some
returns-in-Some c = rw c.in-Some.ensures (reads_as c.args.line.now)

pub returns-in-None : goal.returns-in-None
unfolding no_call
returns-in-None c = rw c.in-None.ensures (reads_as c.args.line.now)
