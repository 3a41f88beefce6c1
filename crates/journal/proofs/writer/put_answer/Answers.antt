use Rattle.fields.proofs.Stores.{wrote_then}
use Rattle.journal.specs.Reply.{reply}
use Rattle.journal.proofs.writer.put_answer.Goals as goal

pub returns : goal.returns
unfolding reply
returns c =
    let said = rw c.number_of.ensures at c.put_field-number.ensures in
    let running = rw c.number.ensures at c.put_field-last.ensures in
    wrote_then c.put_word-word.ensures (wrote_then said (wrote_then running c.put.ensures))
