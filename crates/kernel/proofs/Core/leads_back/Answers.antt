use Rattle.std.proofs.Common.{◌∙◌}
use Rattle.kernel.proofs.LevelWorks.{leads_core, none_leads, no_mutex_leads}
use Rattle.kernel.proofs.Core.leads_back.Goals as goal

pub returns-in-Some : goal.returns-in-Some
returns-in-Some c =
    λ s h.
    rw c.in-Mutex.is
    (rw c.in-Some.is (c.reaches.ensures ∙ leads_core c.requires s h _ c.holders-by.ensures _))

pub returns-in-None : goal.returns-in-None
returns-in-None c = λ s h. rw c.in-Mutex.is (rw c.in-None.is (none_leads c.requires s h))

pub returns-in_default : goal.returns-in_default
returns-in_default c = λ s h. no_mutex_leads c.requires s h c.args.x c.in_default.not-Mutex
