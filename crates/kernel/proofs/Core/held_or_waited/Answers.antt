use Rattle.std.proofs.Common.{◌≡◌, true, false, sym, ap, ◌∙◌}
use Rattle.slots.specs.Kinds.{kind_at, is_held}
use Rattle.rules.specs.Refusals.{held_or_waited}
use Rattle.kernel.proofs.InUse.{waited_listed}
use Rattle.kernel.proofs.Core.held_or_waited.Goals as goal

pub returns-then-is_held : goal.returns-then-is_held
unfolding held_or_waited
returns-then-is_held c =
    λ s h. let held : is_held (kind_at s.objects c.args.o) ≡ true = sym (c.is_held.ensures ∙ ap is_held (c.kind.ensures s h)) ∙ c.if-is_held.true in rw held c.if-is_held.true

pub returns-else-is_held : goal.returns-else-is_held
unfolding held_or_waited
returns-else-is_held c =
    λ s h.
    let held : is_held (kind_at s.objects c.args.o) ≡ false = sym (c.is_held.ensures ∙ ap is_held (c.kind.ensures s h)) ∙ c.if-is_held.false in
    rw held (c.waits_on.ensures ∙ waited_listed c.requires s h c.args.o)
