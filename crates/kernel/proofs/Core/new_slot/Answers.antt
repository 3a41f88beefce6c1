use Rattle.std.proofs.Common.{sym, ◌∙◌, ne_eqb}
use Rattle.kernel.specs.Stands.{core_of}
use Rattle.rules.specs.Tables.{free_slot, free_object}
use Rattle.tasks.proofs.ByList.{free_of}
use Rattle.objects.proofs.ByList.{free_of as free_object_of}
use Rattle.kernel.proofs.Core.new_slot.Goals as goal

pub returns-then-a-eq1 : goal.returns-then-a-eq1
unfolding core_of free_slot
returns-then-a-eq1 c = λ s h. rw c.if-a-eq1.true (c.free_slot.ensures ∙ rw h (free_of s.tasks))

pub returns-then-makes : goal.returns-then-makes
unfolding core_of free_object
returns-then-makes c =
    λ s h. rw (sym c.makes.ensures ∙ c.if-makes.true)
    (rw (ne_eqb c.args.a.number 1 c.if-a-eq1.false) (c.free_object.ensures ∙ rw h (free_object_of s.objects)))
