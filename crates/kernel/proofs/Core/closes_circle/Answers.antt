use Rattle.std.proofs.Common.{sym, ap, ◌∙◌}
use Rattle.slots.specs.Kinds.{kind_at, recursive_by}
use Rattle.rules.specs.Circles.{closes_circle}
use Rattle.kernel.proofs.Stands.{same_running}
use Rattle.kernel.proofs.Core.closes_circle.Goals as goal

pub returns-then-recursive_by : goal.returns-then-recursive_by
unfolding closes_circle
returns-then-recursive_by c =
    λ s h.
    let a = c.args.a in
    let again = ap (λ t. recursive_by t (kind_at s.objects a.object)) (sym (same_running _ s h))
    ∙ ap (recursive_by _) (sym (c.kind-x.ensures s h)) ∙ sym c.recursive_by.ensures ∙ c.if-recursive_by.true in
    rw (c.if-a-eq15.true, again)

pub returns-then-a-eq15 : goal.returns-then-a-eq15
unfolding closes_circle
returns-then-a-eq15 c =
    λ s h.
    let a = c.args.a in
    let again =
    ap (λ t. recursive_by t (kind_at s.objects a.object)) (sym (same_running _ s h))
    ∙ ap (recursive_by _) (sym (c.kind-x.ensures s h))
    ∙ sym c.recursive_by.ensures
    ∙ c.if-recursive_by.false in
    c.leads_back.ensures s h ∙ sym (rw (c.if-a-eq15.true, again, ← c.kind-x.ensures s h))
