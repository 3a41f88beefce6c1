use Rattle.fields.proofs.Stores.{Stored}
use Rattle.journal.specs.Writer.{tabbed}
use Rattle.journal.proofs.writer.put_numbers.Given as goal

abbrev pub invariant-loop-n : goal.invariant-loop-n
invariant-loop-n l = Stored tabbed l.values l.initial.line l.at l.line l.next l.n-index
