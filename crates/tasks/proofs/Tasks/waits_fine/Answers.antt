use Rattle.std.proofs.Common.{sym, ◌∙◌}
use Rattle.tasks.proofs.Fines.{none_there, none_asked}
use Rattle.tasks.proofs.Tasks.waits_fine.Goals as goal

pub returns-then-not-is_waiting : goal.returns-then-not-is_waiting
returns-then-not-is_waiting c =
    let a = c.args in
    sym (none_asked a.self a.opens a.takes a.holder (none_there (sym c.is_waiting.ensures ∙ c.if-not-is_waiting.true)))
