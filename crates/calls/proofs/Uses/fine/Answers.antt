use borrow.Author.Rules.{rules}
use Rattle.calls.proofs.Doors.{fine_if_idle}
use Rattle.calls.proofs.Uses.fine.Goals as goal

pub returns : goal.returns
returns c = fine_if_idle c.args.self (search rules) (search rules) (λ s. search rules) (λ s. search rules)
