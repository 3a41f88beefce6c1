-- "Do not let two tasks wait on each other": the chain from a mutex's holder, through mutexes being waited on, and whom it leads back to.
use Rattle.std.specs.Prelude.{Bool, not, ◌&&◌, List, ltb}
use Rattle.lists.specs.Lists.{all_below}
use Rattle.numbers.specs.Numbers.{task}
use Rattle.chains.specs.Chains.{within}
use Rattle.slots.specs.Kinds.{recursive_by, holder_of, kind_at}
use Rattle.rows.specs.Asking.{is}
use Rattle.rules.specs.Types.{TaskSlot, Task, Object, Asked, State}
use Rattle.rules.specs.Loans.{waits_for}

-- the chain along which the loans go leads from h, who is somebody, to u: 16 links are enough, since there are sixteen tasks to pass (`reaches_leads`)
unfoldable pub leads_to : List Task → List Object → TaskSlot → TaskSlot → Bool
leads_to ts os h u = ltb h.0 16 && within (λ n. (waits_for ts os (task n)).0) 16 h.0 u.0

-- what row 17 asks: "a take, of any wait, exactly if the chain from that mutex's holder, through mutexes being waited on, leads back to the caller"; of a recursive mutex "its
-- holder's take is no circle"
unfoldable pub closes_circle : State → Asked → Bool
closes_circle k a =
    let x = kind_at k.objects a.object in
    is 15 a && (not (recursive_by k.running x) && leads_to k.tasks k.objects (holder_of x) k.running)

-- "a kernel value with [a circle] is not sound": from whom a task waits for, no chain leads back to it
unfoldable pub no_circle : List Task → List Object → Bool
no_circle ts os = all_below 16 (λ n. not (leads_to ts os (waits_for ts os (task n)) (task n)))
