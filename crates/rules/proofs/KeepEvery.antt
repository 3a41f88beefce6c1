-- Every call keeps soundness, accepted or refused; and the fresh kernel is sound.
use Prim.Native.Nat.{ℕ}
use mathlib.Core.Path.{◌≡◌, refl}
use mathlib.Core.Bool.{true}
use mathlib.Core.List.{List}
use lib.ListN.{length}
use Rattle.lists.specs.Lists.{every, all_below, kept, any, up_to, values}
use Rattle.calls.specs.Door.{uses_fine, task_slot, obj_slot, fresh_uses}
use Rattle.calls.specs.Behind.{asked}
use Rattle.order.specs.Order.{ordered}
use Rattle.order.specs.Tidy.{count, tidy}
use Rattle.chains.specs.Lent.{goes_on, levels}
use Rattle.chains.specs.Columns.{raised}
use Rattle.chains.specs.Chains.{within}
use Rattle.rules.specs.Types.{Call, Create, Delete, Suspend, Resume, SetPriority, Delay, Yield, Hold, Release, MakeQueue, MakeMutex, Remove, Send, Receive, Take, Give, Tick, Advance, MakeRecursive, MakeGroup, SetBits, ClearBits, Await, State}
use Rattle.slots.specs.Values.{task_at}
use Rattle.slots.specs.Kinds.{kind_at}
use Rattle.rules.specs.Tables.{fresh, holds}
use Rattle.rules.specs.Lines.{line}
use Rattle.rules.specs.Sound.{tables_fine, levels_fine, listing_fine, clock_fine, no_higher, runs_fine, sound}
use Rattle.rules.specs.Sentences.{Sound}
use Rattle.rules.specs.Effects.{effect}
use Rattle.rules.specs.Steps.{step}
use Rattle.rules.proofs.RowPasses.{Passed}
use Rattle.rules.proofs.Keeps.{Keeps, effect_kept as step_Keeps, delete_not_idle}
use Rattle.rules.proofs.KeepTasks.{create_keeps, delete_keeps, suspend_keeps, resume_keeps, priority_keeps, delay_keeps, yield_keeps}
use Rattle.rules.proofs.KeepTicks.{hold_keeps, release_keeps, tick_keeps, advance_keeps}
use Rattle.rules.proofs.KeepObjects.{queue_keeps, mutex_keeps, recursive_keeps, remove_keeps}
use Rattle.rules.proofs.KeepQueues.{send_keeps, receive_keeps}
use Rattle.rules.proofs.KeepMutexes.{take_keeps, give_keeps}
use Rattle.rules.proofs.KeepEvents.{make_keeps, set_keeps, clear_keeps, await_keeps}
use Rattle.rules.proofs.KeepUses.{used_after}
use Rattle.rules.proofs.KeepCircles.{effect_circles}
use Rattle.rules.specs.Loans.{ruled}
use Rattle.rules.specs.Circles.{leads_to, no_circle}

pub fresh-sound : sound fresh ≡ true
unfolding sound fresh ruled levels goes_on raised up_to values fresh_uses every all_below kept any ordered count tidy task_at kind_at holds line no_higher runs_fine tables_fine levels_fine listing_fine clock_fine uses_fine no_circle leads_to within
fresh-sound = refl

pub effect_keeps : (k : State) → Sound k → (n : ℕ) (c : Call) → Passed k (asked k.uses c) n → Keeps (effect k (asked k.uses c))
unfolding asked
effect_keeps k S n (Create p) = create_keeps k S n p
effect_keeps k S n (Delete t) = delete_keeps k S n (task_slot k.uses t)
effect_keeps k S n (Suspend t) = suspend_keeps k S n (task_slot k.uses t)
effect_keeps k S n (Resume t) = resume_keeps k S n (task_slot k.uses t)
effect_keeps k S n (SetPriority t p) = priority_keeps k S n (task_slot k.uses t) p
effect_keeps k S n (Delay d) = delay_keeps k S n d
effect_keeps k S n Yield = yield_keeps k S n
effect_keeps k S n Hold = hold_keeps k S n
effect_keeps k S n Release = release_keeps k S n
effect_keeps k S n (MakeQueue c z) = queue_keeps k S n c z
effect_keeps k S n MakeMutex = mutex_keeps k S n
effect_keeps k S n (Remove o) = remove_keeps k S n (obj_slot k.uses o)
effect_keeps k S n (Send o w) = send_keeps k S n (obj_slot k.uses o) w
effect_keeps k S n (Receive o w) = receive_keeps k S n (obj_slot k.uses o) w
effect_keeps k S n (Take o w) = take_keeps k S n (obj_slot k.uses o) w
effect_keeps k S n (Give o) = give_keeps k S n (obj_slot k.uses o)
effect_keeps k S n Tick = tick_keeps k S n
effect_keeps k S n (Advance d) = advance_keeps k S n d
effect_keeps k S n MakeRecursive = recursive_keeps k S n
effect_keeps k S n MakeGroup = make_keeps k S n
effect_keeps k S n (SetBits o m) = set_keeps k S n (obj_slot k.uses o) m
effect_keeps k S n (ClearBits o m) = clear_keeps k S n (obj_slot k.uses o) m
effect_keeps k S n (Await o m a c w) = await_keeps k S n (obj_slot k.uses o) m a c w

-- whatever the item and the store
pub step_kept : (k : State) (c : Call) (item s : List ℕ) → sound k ≡ true → sound (step k c item s).kernel ≡ true
step_kept k c item s e =
    step_Keeps k c item s e (λ S P. effect_keeps k S (length s) c P) (λ S P. effect_circles k S (length s) c P)
    (λ S P. used_after k (asked k.uses c) S.uses (delete_not_idle k (asked k.uses c) (length s) P))
