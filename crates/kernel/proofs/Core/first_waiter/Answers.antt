use Rattle.std.proofs.Common.{sym, ap, ◌∙◌}
use Rattle.kernel.proofs.TableWalks.{first_of}
use Rattle.kernel.specs.Stands.{core_of}
use Rattle.slots.specs.Who.{waiters_of}
use Rattle.slots.specs.Leads.{whom, leads}
use Rattle.kernel.proofs.Core.first_waiter.Goals as goal

pub returns-in_err-waiter : goal.returns-in_err-waiter
unfolding core_of
returns-in_err-waiter c = λ s h. ap whom c.from_residual.ensures ∙ ap leads (sym c.in_err-waiter.was ∙ c.waiter.ensures) ∙ rw h (first_of s (waiters_of c.args.o))

pub returns : goal.returns
unfolding core_of
returns c = λ s h. ap leads (sym c.in_ok-waiter.was ∙ c.waiter.ensures) ∙ rw h (first_of s (waiters_of c.args.o))
