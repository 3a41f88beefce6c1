use Rattle.std.proofs.Common.{◌∙◌, subst}
use Rattle.journal.specs.declared.Read.{Read}
use Rattle.rules.specs.Sessions.{step_read, step_of_line}
use Rattle.kernel.specs.Stands.{shown}
use Rattle.kernel.specs.Promises.{Is, came}
use Rattle.kernel.proofs.SessionRuns.{whole_line}
use Rattle.kernel.proofs.Kernel.step_line.Goals as goal

pub line_step-requires : goal.line_step-requires
line_step-requires c =
    let n = c.whole-n in
    let line = c.read_call-read in
    let h = whole_line c.args.line.now n.result line.result n.ensures.0 line.ensures in
    (c.is_sound-fine.ensures.0, λ e. c.is_sound-fine.ensures.1 (c.is_sound-fine.ensures.0 ∙ e), h.1)

pub returns : goal.returns
unfolding step_of_line
returns c =
    let a = c.args in
    let n = c.whole-n in
    let line = c.read_call-read in
    let r = c.line_step in
    let h = whole_line a.line.now n.result line.result n.ensures.0 line.ensures in
    rw c.told-answer.ensures
    (subst (λ (x : Read). Is a.self (step_read (shown a.self) a.store.now x) (came r.new.self r.result) r.new.store) h.0 r.ensures)
