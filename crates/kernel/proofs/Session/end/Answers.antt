use Rattle.std.proofs.Common.{subst}
use Rattle.calls.specs.declared.Answer.{Answer}
use Rattle.fields.specs.Wrote.{Wrote}
use Rattle.journal.specs.Reply.{reply_of}
use Rattle.kernel.proofs.SessionRuns.{none_left, last_told}
use Rattle.kernel.proofs.Session.end.Goals as goal

pub returns-then-is_empty : goal.returns-then-is_empty
returns-then-is_empty c =
    let a = c.args in
    none_left a.self.kernel a.store.now a.self.cut a.out.now c.is_empty.result c.is_empty.ensures c.then-is_empty.either

pub returns : goal.returns
returns c =
    let put_answer = c.put_answer-written in
    let a = c.args in
    last_told a.self.kernel a.store.now a.self.cut a.out.now c.is_empty.result c.is_sound.result c.no_line.result put_answer.result put_answer.new.line
    c.is_empty.ensures c.if-is_empty.false c.if-out-lt256.false c.is_sound.ensures.0 c.no_line.ensures (rw (← c.runs.ensures) (subst (λ (x : Answer). Wrote a.out.now 0 (reply_of x c.runs.result) put_answer.result put_answer.new.line) c.told-answer.ensures put_answer.ensures))
