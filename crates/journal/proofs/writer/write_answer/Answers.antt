use Rattle.journal.proofs.LineStores.{reply_written}
use Rattle.journal.proofs.writer.write_answer.Goals as goal

pub returns : goal.returns
returns c =
    let a = c.args in
    reply_written a.answer a.running a.line.now _ _ c.if-line-ne256.false c.put_answer.ensures
