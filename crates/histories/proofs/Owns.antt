-- Every call but create, delete and set priority leaves each own priority as it was.
use Prim.Native.Nat.{ℕ, zero, suc, ◌+◌, ◌-◌}
use mathlib.Core.Path.{◌≡◌, refl, sym, ap, ◌∙◌}
use mathlib.Core.Bool.{Bool, true, false, ◌||◌, false≢true}
use mathlib.Core.List.{List, [], ◌∷◌}
use lib.Dec.{eqb, ltb}
use lib.Bits.{bit_or}
use Rattle.std.proofs.Common.{if◌then◌else◌}
use Rattle.lists.specs.Lists.{up_to}
use Rattle.calls.specs.declared.Asked.{Asked}
use Rattle.calls.specs.Door.{task_slot, obj_slot}
use Rattle.calls.specs.Behind.{asked}
use Rattle.slots.specs.Places.{is_listed}
use Rattle.slots.specs.Wants.{wait_on}
use Rattle.slots.specs.Values.{placed, broken_off, task_at}
use Rattle.slots.specs.Kinds.{kind_at}
use Rattle.rows.specs.Asking.{is}
use Rattle.rules.specs.Tables.{with_task, with_hold}
use Rattle.rules.specs.Lines.{first, to_tail, leaves}
use Rattle.rules.specs.Waits.{later, wake_of, arrives, wait_for}
use Rattle.rules.specs.Ticks.{counted_on, one_tick, turned, ticked, ticks, released, advanced, held}
use Rattle.rules.specs.Rings.{one_less}
use Rattle.rules.specs.Queues.{sent_by, sent, sent_to, refilled_by, received, received_from}
use Rattle.rules.specs.Events.{group_made, set_on, cleared_on, awaited_on}
use Rattle.rules.specs.Effects.{suspended, resumed, yielded, delayed, queue_made, mutex_made, removed, taken, given, effect}
use Rattle.rules.proofs.TableSlots.{by_kind}
use Rattle.rules.proofs.MutexCases.{by_take, by_give}
use Rattle.rules.proofs.EventCases.{by_bits, by_set, by_clear, by_await}
use Rattle.rules.proofs.TableWithin.{by_outlet}
use Rattle.rules.proofs.KeepSlot.{like_before}
use Rattle.rules.proofs.LoanWorks.{worked_own}
use Rattle.rules.proofs.KeepTicks.{count_woke}
use Rattle.rules.proofs.TickJumps.{turned_only, turn_only}
use Rattle.histories.specs.Types.{TaskSlot, ObjSlot, Want, OwnTurn, Place, Ready, Delayed, Waiting, Task, Ring, waiters_of, State}
use Rattle.histories.specs.Types.{Call, Create, Delete, Suspend, Resume, SetPriority, Delay, Yield, Hold, Release, MakeQueue, MakeMutex, Remove, Send, Receive, Take, Give, Tick, Advance, MakeRecursive}
use Rattle.histories.specs.Types.{MakeGroup, SetBits, ClearBits, Await}

abbrev pub SameOwns : State → State → Type 0
SameOwns k j = (t : TaskSlot) → (task_at j.tasks t).own ≡ (task_at k.tasks t).own

-- ── ticks
tick_owns : (k : State) → SameOwns k (one_tick k)
unfolding one_tick
tick_owns k t = worked_own (counted_on k) t ∙ (count_woke k).own t

ticks_own : (b : Bool) (n : ℕ) (k : State) → SameOwns k (ticks b n k)
unfolding ticks up_to
ticks_own b zero k t = refl
ticks_own b (suc n) k t =
    let j = ticks b n k in
    ap (λ (ts : List Task). (task_at ts t).own) (turn_only b (one_tick j)).tasks ∙ tick_owns j t ∙ ticks_own b n k t

module _ (k : State) where
  ticked_owns : SameOwns k (ticked k)
  unfolding ticked
  ticked_owns = go (ltb 0 k.hold)
    where
      go : (b : Bool) → SameOwns k (if b then with_hold k k.hold (k.pended + 1) else turned (one_tick k))
      go true t = refl
      go false t = ap (λ (ts : List Task). (task_at ts t).own) (turned_only (one_tick k)).tasks ∙ tick_owns k t

  released_owns : SameOwns k (released k)
  unfolding released
  released_owns = go (eqb k.hold 1)
    where
      go : (b : Bool) → SameOwns k (if b then ticks false k.pended (with_hold k 0 0) else with_hold k (k.hold - 1) k.pended)
      go true = ticks_own false k.pended (with_hold k 0 0)
      go false = λ t. refl

  -- ── a task goes to another place
  arrives_owns : (t : TaskSlot) (p : Place) (n : ℕ) → SameOwns k (arrives k t p n)
  unfolding arrives to_tail
  arrives_owns t p n = like_before k.tasks t (placed (task_at k.tasks t) p n) (λ (x : Task). x.own) refl

  wait_owns : (o : ObjSlot) (x : Want) (w : ℕ) → SameOwns k (wait_for k o x w)
  unfolding wait_for
  wait_owns o x w = arrives_owns k.running (Waiting (wait_on o x) (wake_of k.tick w)) 0

  suspended_owns : (t : TaskSlot) → SameOwns k (suspended k t)
  unfolding suspended leaves
  suspended_owns t = go (is_listed (task_at k.tasks t).place)
    where
      go : (b : Bool) → SameOwns k (if b then leaves (with_task k t (broken_off (task_at k.tasks t))) t else k)
      go true = like_before k.tasks t (broken_off (task_at k.tasks t)) (λ (x : Task). x.own) refl
      go false = λ u. refl

  delayed_owns : (n : ℕ) → SameOwns k (delayed k n)
  unfolding delayed yielded to_tail
  delayed_owns n = go (eqb n 0)
    where
      go : (b : Bool) → SameOwns k (if b then yielded k else arrives k k.running (Delayed (later k.tick n)) 0)
      go true = λ t. refl
      go false = arrives_owns k.running (Delayed (later k.tick n)) 0

  sent_owns : (o : ObjSlot) (q : Ring) (w : ℕ) → SameOwns k (sent k o q w)
  unfolding sent
  sent_owns o q w = by_outlet k o q (λ x. SameOwns k (sent_by k o q w x)) (λ t e. arrives_owns t Ready 1) (λ t. refl) (wait_owns o OwnTurn w)

  received_owns : (o : ObjSlot) (q : Ring) (w : ℕ) → SameOwns k (received k o q w)
  unfolding received arrives to_tail
  received_owns o q w = go (eqb q.count 0) (first k (waiters_of o))
    where
      go : (b : Bool) (l : List TaskSlot) → SameOwns k (if b then wait_for k o OwnTurn w else refilled_by k o (one_less q) l)
      go true l = wait_owns o OwnTurn w
      go false [] = λ t. refl
      go false (t ∷ l) = arrives_owns t Ready 1

  send_owns : (o : ObjSlot) (w : ℕ) → SameOwns k (sent_to k o (kind_at k.objects o) w)
  send_owns o w = by_kind (kind_at k.objects o) (λ x. SameOwns k (sent_to k o x w)) (λ t. refl) (λ t. refl) (λ q e. sent_owns o q w) (λ s h e t. refl) (λ b e t. refl)

  receive_owns : (o : ObjSlot) (w : ℕ) → SameOwns k (received_from k o (kind_at k.objects o) w)
  receive_owns o w = by_kind (kind_at k.objects o) (λ x. SameOwns k (received_from k o x w)) (λ t. refl) (λ t. refl) (λ q e. received_owns o q w) (λ s h e t. refl) (λ b e t. refl)

  taken_owns : (o : ObjSlot) (w : ℕ) → SameOwns k (taken k o w)
  taken_owns o w = by_take k o (SameOwns k) w (λ m t. refl) (λ s e t. refl) (λ s e t. refl) (λ s h e d. wait_owns o OwnTurn w)

  given_owns : (o : ObjSlot) → SameOwns k (given k o)
  given_owns o = by_give k o (SameOwns k) (λ m t. refl) (λ s h e m t. refl) (λ s h e m q t. refl) (λ s h e m u l q. arrives_owns u Ready 1)

  clear_owns : (o : ObjSlot) (m : ℕ) → SameOwns k (cleared_on k o (kind_at k.objects o) m)
  clear_owns o m = by_clear k o (SameOwns k) (λ e t. refl) m (λ b e t. refl)

  await_owns : (o : ObjSlot) (x : Want) (w : ℕ) → SameOwns k (awaited_on k o (kind_at k.objects o) x w)
  await_owns o x w = by_await k o (SameOwns k) (λ e t. refl) x w (λ b e q t. refl) (λ b e q. wait_owns o x w)

set_owns : (k : State) (o : ObjSlot) (m : ℕ) → SameOwns k (set_on k o (kind_at k.objects o) m)
set_owns k o m =
    by_set k o (SameOwns k) (λ e t. refl) m
    (λ b e. by_bits o (bit_or b m) (SameOwns k) (λ j u s f t. arrives_owns j u Ready 1 t ∙ s t) (λ j c s. s) k (λ t. refl))

-- ── every call
abbrev pub changes_owns : Asked → Bool
changes_owns a = is 1 a || (is 2 a || is 5 a)

pub effect_owns : (k : State) (c : Call) → changes_owns (asked k.uses c) ≡ false → SameOwns k (effect k (asked k.uses c))
unfolding effect asked resumed yielded held queue_made mutex_made group_made removed advanced to_tail
effect_owns k (Create p) e = absurd (false≢true (sym e))
effect_owns k (Delete t) e = absurd (false≢true (sym e))
effect_owns k (Suspend t) e = suspended_owns k (task_slot k.uses t)
effect_owns k (Resume t) e = arrives_owns k (task_slot k.uses t) Ready _
effect_owns k (SetPriority t p) e = absurd (false≢true (sym e))
effect_owns k (Delay d) e = delayed_owns k d
effect_owns k Yield e = λ t. refl
effect_owns k Hold e = λ t. refl
effect_owns k Release e = released_owns k
effect_owns k (MakeQueue c z) e = λ t. refl
effect_owns k MakeMutex e = λ t. refl
effect_owns k (Remove o) e = λ t. refl
effect_owns k (Send o w) e = send_owns k (obj_slot k.uses o) w
effect_owns k (Receive o w) e = receive_owns k (obj_slot k.uses o) w
effect_owns k (Take o w) e = taken_owns k (obj_slot k.uses o) w
effect_owns k (Give o) e = given_owns k (obj_slot k.uses o)
effect_owns k Tick e = ticked_owns k
effect_owns k (Advance d) e = ticks_own true d k
effect_owns k MakeRecursive e = λ t. refl
effect_owns k MakeGroup e = λ t. refl
effect_owns k (SetBits o m) e = set_owns k (obj_slot k.uses o) m
effect_owns k (ClearBits o m) e = clear_owns k (obj_slot k.uses o) m
effect_owns k (Await o m a c w) e = await_owns k (obj_slot k.uses o) _ w
