-- The depth of hold after any calls is the number of accepted holds less the accepted releases: no call lets it wrap, and no other call touches it.
use Prim.Native.Nat.{ℕ, ◌-◌}
use mathlib.Core.Path.{◌≡◌, refl, ap, ◌∙◌}
use mathlib.Core.Bool.{Bool, true, false}
use mathlib.Core.List.{List, [], ◌∷◌}
use native.Mathlib.Omega.{arith}
use lib.Dec.{eqb}
use lib.ListN.{length}
use lib.Bits.{bit_or}
use borrow.Author.Tests.{eqb-true}
use Rattle.std.proofs.Common.{if◌then◌else◌}
use Rattle.lists.specs.Lists.{foldl}
use Rattle.calls.specs.Door.{task_slot, obj_slot}
use Rattle.calls.specs.Behind.{asked}
use Rattle.slots.specs.Kinds.{kind_at}
use Rattle.rules.specs.Tables.{fresh, with_hold}
use Rattle.rules.specs.Lines.{first, to_tail, leaves}
use Rattle.rules.specs.Waits.{arrives, wait_for}
use Rattle.rules.specs.Loans.{worked_out, new_priority}
use Rattle.rules.specs.Ticks.{ticks, released, held, advanced}
use Rattle.rules.specs.Rings.{one_less}
use Rattle.rules.specs.Queues.{sent_by, sent, sent_to, refilled_by, received, received_from}
use Rattle.rules.specs.Events.{group_made, set_on, cleared_on, awaited_on}
use Rattle.rules.proofs.MutexCases.{by_take, by_give}
use Rattle.rules.proofs.EventCases.{by_bits, by_set, by_clear, by_await}
use Rattle.rules.specs.Effects.{created, deleted, resumed, yielded, queue_made, mutex_made, removed, taken, given, effect}
use Rattle.rules.specs.Refusals.{refusal}
use Rattle.rules.specs.Steps.{after, accepted, turned_away, step}
use Rattle.rules.specs.Trace.{moment_of, trace, state_after, CallMade, step_made}
use Rattle.rules.proofs.TableWithin.{by_outlet}
use Rattle.rules.proofs.TickJumps.{chosen_only}
use Rattle.rules.proofs.LoanWorks.{worked_same}
use Rattle.rules.proofs.KeepTicks.{ticks_aside, ticked_aside}
use Rattle.rules.proofs.KeepTasks.{suspended_same, delayed_same}
use Rattle.promises.specs.Types.{TaskSlot, ObjSlot, Call, Create, Delete, Suspend, Resume, SetPriority, Delay, Yield, Hold, Release, MakeQueue, MakeMutex, Remove, Send}
use Rattle.promises.specs.Types.{Receive, Take, Give, Tick, Advance, MakeRecursive, MakeGroup, SetBits, ClearBits, Await, waiters_of, Want, OwnTurn, Kind, Unused, SpentObject, Queue, Mutex, Group, State}
use Rattle.promises.specs.History.{reached}
use Rattle.promises.specs.Depth.{deeper, is_accepted, depth_at, depth}

-- ── what leaves the depth as it was
module _ (k : State) where
  sent_hold : (o : ObjSlot) (x : Kind) (w : ℕ) → (sent_to k o x w).hold ≡ k.hold
  unfolding sent arrives wait_for to_tail
  sent_hold o Unused w = refl
  sent_hold o SpentObject w = refl
  sent_hold o (Queue q) w = by_outlet k o q (λ x. (sent_by k o q w x).hold ≡ k.hold) (λ t e. refl) refl refl
  sent_hold o (Mutex s h) w = refl
  sent_hold o (Group b) w = refl

  received_hold : (o : ObjSlot) (x : Kind) (w : ℕ) → (received_from k o x w).hold ≡ k.hold
  unfolding received arrives wait_for to_tail
  received_hold o Unused w = refl
  received_hold o SpentObject w = refl
  received_hold o (Queue q) w = go (eqb q.count 0) (first k (waiters_of o))
    where
      go : (b : Bool) (l : List TaskSlot) → (if b then wait_for k o OwnTurn w else refilled_by k o (one_less q) l).hold ≡ k.hold
      go true l = refl
      go false [] = refl
      go false (t ∷ l) = refl
  received_hold o (Mutex s h) w = refl
  received_hold o (Group b) w = refl

  taken_hold : (o : ObjSlot) (w : ℕ) → (taken k o w).hold ≡ k.hold
  unfolding wait_for arrives to_tail
  taken_hold o w = by_take k o (λ j. j.hold ≡ k.hold) w (λ m. refl) (λ s e. refl) (λ s e. refl) (λ s h e d. refl)

  given_hold : (o : ObjSlot) → (given k o).hold ≡ k.hold
  unfolding arrives to_tail
  given_hold o = by_give k o (λ j. j.hold ≡ k.hold) (λ m. refl) (λ s h e m. refl) (λ s h e m q. refl) (λ s h e m t l q. refl)

  set_hold : (o : ObjSlot) (m : ℕ) → (set_on k o (kind_at k.objects o) m).hold ≡ k.hold
  unfolding arrives to_tail
  set_hold o m = by_set k o (λ j. j.hold ≡ k.hold) (λ e. refl) m (λ b e. by_bits o (bit_or b m) (λ j. j.hold ≡ k.hold) (λ j t h f. h) (λ j c h. h) k refl)

  clear_hold : (o : ObjSlot) (m : ℕ) → (cleared_on k o (kind_at k.objects o) m).hold ≡ k.hold
  clear_hold o m = by_clear k o (λ j. j.hold ≡ k.hold) (λ e. refl) m (λ b e. refl)

  await_hold : (o : ObjSlot) (x : Want) (w : ℕ) → (awaited_on k o (kind_at k.objects o) x w).hold ≡ k.hold
  unfolding wait_for arrives to_tail
  await_hold o x w = by_await k o (λ j. j.hold ≡ k.hold) (λ e. refl) x w (λ b e q. refl) (λ b e q. refl)

  released_hold : (released k).hold ≡ k.hold - 1
  unfolding released
  released_hold = go (eqb k.hold 1) refl
    where
      go : (b : Bool) → eqb k.hold 1 ≡ b → (if b then ticks false k.pended (with_hold k 0 0) else with_hold k (k.hold - 1) k.pended).hold ≡ k.hold - 1
      go true e = (ticks_aside false k.pended (with_hold k 0 0)).hold ∙ omega (arith, eqb-true k.hold 1 e)
      go false e = refl

  effect_hold : (c : Call) → (effect k (asked k.uses c)).hold ≡ deeper (asked k.uses c) k.hold
  unfolding effect asked created deleted resumed yielded queue_made mutex_made group_made removed new_priority held advanced arrives leaves to_tail
  effect_hold (Create p) = refl
  effect_hold (Delete t) = refl
  effect_hold (Suspend t) = (suspended_same k (task_slot k.uses t)).hold
  effect_hold (Resume t) = refl
  effect_hold (SetPriority t p) = refl
  effect_hold (Delay n) = (delayed_same k n).hold
  effect_hold Yield = refl
  effect_hold Hold = refl
  effect_hold Release = released_hold
  effect_hold (MakeQueue c z) = refl
  effect_hold MakeMutex = refl
  effect_hold (Remove o) = refl
  effect_hold (Send o w) = sent_hold (obj_slot k.uses o) (kind_at k.objects (obj_slot k.uses o)) w
  effect_hold (Receive o w) = received_hold (obj_slot k.uses o) (kind_at k.objects (obj_slot k.uses o)) w
  effect_hold (Take o w) = taken_hold (obj_slot k.uses o) w
  effect_hold (Give o) = given_hold (obj_slot k.uses o)
  effect_hold Tick = (ticked_aside k).hold
  effect_hold (Advance n) = (ticks_aside true n k).hold
  effect_hold MakeRecursive = refl
  effect_hold MakeGroup = refl
  effect_hold (SetBits o m) = set_hold (obj_slot k.uses o) m
  effect_hold (ClearBits o m) = clear_hold (obj_slot k.uses o) m
  effect_hold (Await o m a c w) = await_hold (obj_slot k.uses o) _ w

-- ── one step: an accepted hold is one deeper, an accepted release one less, and nothing else changes the depth
pub step_depth : (k : State) (s : List ℕ) (m : CallMade) → (step_made k s m).kernel.hold ≡ depth_at k.hold (moment_of step_made k s m)
unfolding step accepted after
step_depth k s m = go (is_accepted k m)
  where
    no : ℕ
    no = refusal k (asked k.uses m.call) (length m.item) (length m.store)

    go : (b : Bool) → (if b then accepted k (asked k.uses m.call) m.item m.store else turned_away k no m.store).kernel.hold
        ≡ (if b then deeper (asked k.uses m.call) k.hold else k.hold)
    go true = let j = effect k (asked k.uses m.call) in (chosen_only (worked_out j)).hold ∙ (worked_same j).hold ∙ effect_hold k m.call
    go false = refl

run_depth : (k : State) (n : ℕ) (s : List ℕ) (ms : List CallMade) → k.hold ≡ n
    → (state_after k (trace step_made k s ms)).hold ≡ foldl depth_at n (trace step_made k s ms)
unfolding foldl trace
run_depth k n s [] e = e
run_depth k n s (m ∷ ms) e =
    run_depth (step_made k s m).kernel _ (step_made k s m).store ms (step_depth k s m ∙ ap (λ (d : ℕ). depth_at d (moment_of step_made k s m)) e)

-- after any calls from the fresh kernel
pub depth_by_calls : (ms : List CallMade) → (reached ms).hold ≡ depth ms
unfolding fresh
depth_by_calls ms = run_depth fresh 0 [] ms refl
