use Rattle.std.proofs.Common.{sym, ap, ◌∙◌}
use Rattle.kernel.proofs.TableWalks.{first_of}
use Rattle.kernel.specs.Stands.{core_of}
use Rattle.slots.specs.Who.{those_satisfied_on}
use Rattle.slots.specs.Leads.{whom, leads}
use Rattle.kernel.proofs.Core.first_satisfied.Goals as goal

pub returns-in_err-satisfied : goal.returns-in_err-satisfied
unfolding core_of
returns-in_err-satisfied c = λ s h. ap whom c.from_residual.ensures ∙ ap leads (sym c.in_err-satisfied.was ∙ c.satisfied.ensures) ∙ rw h (first_of s (those_satisfied_on c.args.o c.args.bits))

pub returns : goal.returns
unfolding core_of
returns c = λ s h. ap leads (sym c.in_ok-satisfied.was ∙ c.satisfied.ensures) ∙ rw h (first_of s (those_satisfied_on c.args.o c.args.bits))
