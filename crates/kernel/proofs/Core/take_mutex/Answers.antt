use Rattle.std.proofs.Common.{Some, sym, refl, ap, ◌∙◌}
use Rattle.numbers.specs.Numbers.{same_task}
use Rattle.rules.proofs.MutexCases.{takes_again, takes_waiting}
use Rattle.kernel.proofs.Stands.{same_running}
use Rattle.kernel.proofs.Core.take_mutex.Goals as goal

pub returns-in-Some : goal.returns-in-Some
returns-in-Some c =
    λ s h.
    let t = c.in-Some.t in
    c.with_object.ensures s h ∙ rw (c.counting.ensures, c.count.ensures, c.in-Some.is)
    (rw (takes_again s c.args.o c.args.m c.args.w (Some t) (ap (λ u. same_task t u) (sym (same_running _ s h)) ∙ rw (← c.in-Some.t-is) (sym c.eq.ensures ∙ c.if-eq.true))))

pub returns-in-Some-2 : goal.returns-in-Some-2
returns-in-Some-2 c =
    λ s h.
    let t = c.in-Some.t in
    rw (c.in-Some.is, takes_waiting s c.args.o c.args.m c.args.w (Some t) (ap (λ u. same_task t u) (sym (same_running _ s h)) ∙ rw (← c.in-Some.t-is) (sym c.eq.ensures ∙ c.if-eq.false)) refl)
    (c.wait_for.ensures s h)

pub returns-in-None : goal.returns-in-None
returns-in-None c = λ s h. rw c.in-None.is (c.with_object-in-None.ensures s h ∙ rw (c.counting-in-None.ensures, same_running _ s h))
