use Rattle.fields.proofs.Stores.{wrote_then}
use Rattle.journal.proofs.writer.put_sent.Goals as goal

pub returns-then-sent : goal.returns-then-sent
returns-then-sent c = rw c.if-sent.true (wrote_then c.put-digits.ensures c.put_hex.ensures)
