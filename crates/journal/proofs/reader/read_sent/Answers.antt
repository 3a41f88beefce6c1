use Rattle.journal.proofs.Parts.{sent_missed}
use Rattle.journal.proofs.reader.read_sent.Goals as goal

pub returns-in_err-after_tab : goal.returns-in_err-after_tab
returns-in_err-after_tab c = rw (c.from_residual.ensures, c.if-item.true) (sent_missed c.args.line.now c.args.at c.in_err-after_tab.ensures)
