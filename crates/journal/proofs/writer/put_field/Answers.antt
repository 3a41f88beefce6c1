use Rattle.fields.proofs.Stores.{wrote_then}
use Rattle.journal.proofs.writer.put_field.Goals as goal

pub returns : goal.returns
returns c = wrote_then c.put-digits.ensures (rw c.from.ensures at c.put_number.ensures)
