-- What each call makes of the order of those who began: those who are not done stand as they stood, and a caller that begins stands last.
use Prim.Native.Nat.{ℕ, zero, suc, ◌+◌, ◌-◌, ◌<◌}
use mathlib.Core.Path.{◌≡◌, refl, sym, ap, ◌∙◌}
use mathlib.Core.Bool.{Bool, true, false, false≢true}
use mathlib.Core.List.{List, [], ◌∷◌}
use native.Mathlib.Omega.{arith}
use lib.Dec.{eqb, ltb}
use lib.Bits.{bit_or}
use Rattle.std.proofs.Common.{if◌then◌else◌}
use Rattle.lists.specs.Lists.{foldl, up_to, kept}
use Rattle.lists.proofs.Bools.{untrue}
use Rattle.numbers.specs.Numbers.{task}
use Rattle.calls.specs.Door.{task_slot, obj_slot, last_in}
use Rattle.calls.specs.Behind.{asked}
use Rattle.order.specs.Order.{listed}
use Rattle.slots.specs.Places.{is_blocked, is_listed, wakes_at, outcome_due}
use Rattle.slots.specs.Wants.{wait_on}
use Rattle.slots.specs.Values.{free_task, spent_task, ready_at, placed, broken_off, task_at}
use Rattle.slots.specs.Kinds.{kind_at}
use Rattle.rules.specs.Types.{TaskSlot, ObjSlot, Place, Ready, Delayed, Waiting, Task, Ring, waiters_of, Want, OwnTurn, those_satisfied_on}
use Rattle.rules.specs.Types.{Call, Create, Delete, Suspend, Resume, SetPriority, Delay, Yield, Hold, Release, MakeQueue, MakeMutex, Remove, Send, Receive, Take, Give, Tick, Advance, MakeRecursive, MakeGroup, SetBits, ClearBits, Await, State}
use Rattle.rules.specs.Tables.{free_slot, with_task, with_hold, with_tick}
use Rattle.rules.specs.Lines.{has_begun, begun, level, first, chosen, to_tail, leaves}
use Rattle.rules.specs.Sound.{no_higher}
use Rattle.rules.specs.Sentences.{Sound, Unheld}
use Rattle.rules.specs.Waits.{later, wake_of, arrives, wait_for}
use Rattle.rules.specs.Loans.{new_priority}
use Rattle.rules.specs.Ticks.{held, woken_if_due, wakes, one_tick, turned, turned_if, ticked, ticks, released, advanced, counted_on}
use Rattle.rules.specs.Rings.{one_less}
use Rattle.rules.specs.Queues.{sent_by, sent, sent_to, refilled_by, received, received_from}
use Rattle.rules.specs.Effects.{effect, created, deleted, suspended, resumed, yielded, delayed, queue_made, mutex_made, removed, taken, given}
use Rattle.rows.specs.Applies.{names_none, none_free}
use Rattle.rules.proofs.TableSlots.{passes_there, passes_blocked, by_kind}
use Rattle.rules.proofs.MutexCases.{by_take, by_give}
use Rattle.rules.proofs.TableWithin.{first_within, first_single, by_outlet}
use Rattle.rules.proofs.SoundLists.{listing_room}
use Rattle.rules.proofs.RowPasses.{Passed, advance_free}
use Rattle.rules.proofs.Keeps.{there_low, ready_low}
use Rattle.rules.proofs.KeepTasks.{has_slot}
use Rattle.rules.proofs.TickJumps.{passed_over, chosen_only, chosen_order}
use Rattle.rules.proofs.KeepTicks.{due_there, tick_after, sound_unheld, ticks_unheld}
use Rattle.rules.proofs.KeepTaken.{each_task}
use Rattle.rules.proofs.Begun.{Fades, Remembers, RoomyIn, Fade, Remember, onward, none_begins, stays, tail_fades, leave_fades, worked_fades, then_fades}
use Rattle.rules.proofs.Begun.{set_roomy, set_fades, set_at, arrives_fades, arrives_begins}
use Rattle.rules.specs.Steps.{after}
use Rattle.rules.specs.Events.{group_made, set_on, awaited_on}
use Rattle.rules.proofs.LoanWorks.{worked_place}
use Rattle.rules.proofs.EventCases.{by_bits, by_set, by_clear, by_await}

-- ── the wakes of a tick
-- who is due has begun
pub due_blocked : (n : ℕ) (p : Place) → wakes_at n p ≡ true → is_blocked p ≡ true
due_blocked n p e = passes_blocked (wakes_at n) p refl refl refl refl e

-- a wake begins nothing
woken_fewer : (k : State) (t u : TaskSlot) → has_begun (woken_if_due k t).tasks u ≡ true → has_begun k.tasks u ≡ true
unfolding woken_if_due arrives to_tail
woken_fewer k t u = go (wakes_at k.tick (task_at k.tasks t).place)
  where
    x : Task
    x = placed (task_at k.tasks t) Ready (outcome_due (task_at k.tasks t).place)

    go : (b : Bool) → has_begun (if b then to_tail (with_task k t x) t else k).tasks u ≡ true → has_begun k.tasks u ≡ true
    go true = each_task k.tasks t x (λ v y. is_blocked y.place ≡ true → has_begun k.tasks v ≡ true) (λ e. absurd (false≢true e)) (λ v e. e) u
    go false = λ e. e

-- of the listed, only those who began are woken: the walk of the whole order is the walk of those
module _ (ts : List Task) where
  wakes_those : (l : List TaskSlot) (k : State) → ((t : TaskSlot) → has_begun k.tasks t ≡ true → has_begun ts t ≡ true) → foldl woken_if_due k l ≡ foldl woken_if_due k (begun ts l)
  unfolding foldl begun kept
  wakes_those [] k f = refl
  wakes_those (t ∷ l) k f = go (has_begun ts t) refl (wakes_those l (woken_if_due k t) (λ u e. f u (woken_fewer k t u e)))
    where
      as_it_was : has_begun ts t ≡ false → woken_if_due k t ≡ k
      as_it_was e = passed_over k t (untrue _ (λ d. false≢true (sym e ∙ f t (due_blocked k.tick (task_at k.tasks t).place d))))

      go : (b : Bool) → has_begun ts t ≡ b → foldl woken_if_due (woken_if_due k t) l ≡ foldl woken_if_due (woken_if_due k t) (kept (has_begun ts) l)
          → foldl woken_if_due (woken_if_due k t) l ≡ foldl woken_if_due k (if b then t ∷ kept (has_begun ts) l else kept (has_begun ts) l)
      go true e ih = ih
      go false e ih = ih ∙ ap (λ (j : State). foldl woken_if_due j (kept (has_begun ts) l)) (as_it_was e)

pub wakes-begun : (k : State) (l : List TaskSlot) → wakes k l ≡ wakes k (begun k.tasks l)
unfolding wakes
wakes-begun k l = wakes_those k.tasks l k (λ t e. e)

module _ (k : State) (R : RoomyIn k) where
  pub woken_fades : (t : TaskSlot) → Fade k (woken_if_due k t)
  unfolding woken_if_due
  woken_fades t = go (wakes_at k.tick (task_at k.tasks t).place) refl
    where
      go : (b : Bool) → wakes_at k.tick (task_at k.tasks t).place ≡ b → Fade k (if b then arrives k t Ready (outcome_due (task_at k.tasks t).place) else k)
      go true e = arrives_fades k R t Ready _ refl (there_low k.tasks t R.many (due_there k.tick (task_at k.tasks t).place e))
      go false e = stays R

pub wakes_fade : (l : List TaskSlot) (k : State) → RoomyIn k → Fade k (foldl woken_if_due k l)
unfolding foldl
wakes_fade [] k R = stays R
wakes_fade (t ∷ l) k R = let f = woken_fades k R t in onward f (wakes_fade l (woken_if_due k t) f.roomy)

pub tick_fades : (k : State) → RoomyIn k → Fade k (one_tick k)
unfolding one_tick counted_on wakes
tick_fades k R =
    let j = with_tick k (later k.tick 1) in
    let f = wakes_fade (begun k.tasks (listed k.order)) j R in
    onward f (worked_fades (foldl woken_if_due j (begun k.tasks (listed k.order))) f.roomy)

-- in the turn of the line the running task moves, and nobody else
pub turned_fades : (k : State) → RoomyIn k → (task_at k.tasks k.running).place ≡ Ready → Fade k (turned k)
unfolding turned to_tail
turned_fades k R e = go (no_higher k.tasks (level k.tasks k.running) (listed k.order))
  where
    go : (b : Bool) → Fade k (if b then to_tail k k.running else k)
    go true = tail_fades R k.running (ap is_blocked e) (ready_low k.tasks k.running R.many e)
    go false = stays R

-- choose moves nobody
chosen_fades : (k : State) → RoomyIn k → Fade k (chosen k)
chosen_fades k R = rw ((chosen_only k).tasks, chosen_order k) (stays R)

pub released_loop : (n : ℕ) (k : State) → RoomyIn k → Fade k (ticks false n k)
unfolding ticks up_to
released_loop zero k R = stays R
released_loop (suc n) k R = let f = released_loop n k R in onward f (tick_fades (ticks false n k) f.roomy)

pub released_fades : (k : State) → RoomyIn k → Fade k (released k)
unfolding released
released_fades k R = go (eqb k.hold 1)
  where
    go : (b : Bool) → Fade k (if b then ticks false k.pended (with_hold k 0 0) else with_hold k (k.hold - 1) k.pended)
    go true = released_loop k.pended (with_hold k 0 0) R
    go false = stays R

-- who runs is ready still after a tick's wakes
pub still_ready : (k : State) → (task_at k.tasks k.running).place ≡ Ready → (task_at (one_tick k).tasks (one_tick k).running).place ≡ Ready
still_ready k e = let A = tick_after k in ap (λ r. (task_at (one_tick k).tasks r).place) A.running ∙ A.ready k.running e

pub one_by_one : (k : State) → RoomyIn k → Unheld k → Fade k (turned_if true (one_tick k))
one_by_one k R U =
    let f = tick_fades k R in
    let g = turned_fades (one_tick k) f.roomy (still_ready k U.sound.running.runs.ready) in
    onward f (onward g (chosen_fades (turned (one_tick k)) g.roomy))

pub advanced_fades : (n : ℕ) (k : State) → RoomyIn k → Unheld k → Fade k (ticks true n k)
unfolding ticks up_to
advanced_fades zero k R U = stays R
advanced_fades (suc n) k R U = let f = advanced_fades n k R U in onward f (one_by_one (ticks true n k) f.roomy (ticks_unheld n k U))

-- ── the calls
module _ (k : State) (S : Sound k) where
  pub roomy_in : RoomyIn k
  roomy_in = record { many = S.tables.task_slots; room = listing_room k.tasks k.order S.tables.task_slots S.listing }

  -- the caller is ready, and its slot is one of the 16
  pub caller_ready : has_begun k.tasks k.running ≡ false
  caller_ready = ap is_blocked S.running.runs.ready

  caller_low : k.running.0 < 16
  caller_low = ready_low k.tasks k.running S.tables.task_slots S.running.runs.ready

  first_low : (o : ObjSlot) (t : TaskSlot) (l : List TaskSlot) → first k (waiters_of o) ≡ t ∷ l → t.0 < 16
  first_low o t l e = omega (arith, first_within k (waiters_of o) t (first_single k (waiters_of o) t l e), S.tables.task_slots)

  yielded_fades : Fade k (yielded k)
  unfolding yielded to_tail
  yielded_fades = tail_fades roomy_in k.running caller_ready caller_low

  ticked_fades : Fade k (ticked k)
  unfolding ticked
  ticked_fades = go (ltb 0 k.hold)
    where
      f : Fade k (one_tick k)
      f = tick_fades k roomy_in

      go : (b : Bool) → Fade k (if b then with_hold k k.hold (k.pended + 1) else turned (one_tick k))
      go true = stays roomy_in
      go false = onward f (turned_fades (one_tick k) f.roomy (still_ready k S.running.runs.ready))

  suspended_fades : (t : TaskSlot) → Fade k (suspended k t)
  unfolding suspended leaves
  suspended_fades t = go (is_listed (task_at k.tasks t).place) refl
    where
      x : Task
      x = broken_off (task_at k.tasks t)

      go : (b : Bool) → is_listed (task_at k.tasks t).place ≡ b → Fade k (if b then leaves (with_task k t x) t else k)
      go true e =
          let low = there_low k.tasks t roomy_in.many (passes_there is_listed (task_at k.tasks t).place refl refl e) in
          onward (set_fades k roomy_in t x (λ b. absurd (false≢true b))) (leave_fades (set_roomy k roomy_in t x) t (ap (λ (y : Task). is_blocked y.place) (set_at k roomy_in t x low)))
      go false e = stays roomy_in

  deleted_fades : (t : TaskSlot) (last : Bool) → t.0 < 16 → Fade k (deleted k t last)
  unfolding deleted leaves
  deleted_fades t last low = go last
    where
      gone : (x : Task) → is_blocked x.place ≡ false → Fade k (leaves (with_task k t x) t)
      gone x e =
          onward (set_fades k roomy_in t x (λ b. absurd (false≢true (sym e ∙ b))))
          (leave_fades (set_roomy k roomy_in t x) t (ap (λ (y : Task). is_blocked y.place) (set_at k roomy_in t x low) ∙ e))

      go : (b : Bool) → Fade k (leaves (with_task k t (if b then spent_task else free_task)) t)
      go true = gone spent_task refl
      go false = gone free_task refl

  created_fades : (p : ℕ) → free_slot k.tasks < 16 → Fade k (created k p)
  unfolding created to_tail
  created_fades p low =
      let t = task (free_slot k.tasks) in
      onward (set_fades k roomy_in t (ready_at p) (λ b. absurd (false≢true b)))
      (tail_fades (set_roomy k roomy_in t (ready_at p)) t (ap (λ (y : Task). is_blocked y.place) (set_at k roomy_in t (ready_at p) low)) low)

  given_fades : (o : ObjSlot) → Fade k (given k o)
  given_fades o =
      by_give k o (λ j. Fade k j) (λ m. stays roomy_in) (λ s h e m. stays roomy_in) (λ s h e m q. stays roomy_in) (λ s h e m t l q. arrives_fades k roomy_in t Ready 1 refl (first_low o t l q))

  -- the caller begins to wait
  wait_begins : (o : ObjSlot) (x : Want) (w : ℕ) → Remember k (wait_for k o x w)
  unfolding wait_for
  wait_begins o x w = arrives_begins k roomy_in k.running (Waiting (wait_on o x) (wake_of k.tick w)) 0 refl caller_ready caller_low

  quietly : {us : List Task} {m : List TaskSlot} → Fades k.tasks (listed k.order) us m → Remembers k.running k.tasks (listed k.order) us m
  quietly f = none_begins caller_ready f

  delayed_remembers : (n : ℕ) → Remember k (delayed k n)
  unfolding delayed
  delayed_remembers n = go (eqb n 0)
    where
      go : (b : Bool) → Remember k (if b then yielded k else arrives k k.running (Delayed (later k.tick n)) 0)
      go true = quietly yielded_fades
      go false = arrives_begins k roomy_in k.running (Delayed (later k.tick n)) 0 refl caller_ready caller_low

  sent_remembers : (o : ObjSlot) (q : Ring) (w : ℕ) → Remember k (sent k o q w)
  unfolding sent
  sent_remembers o q w =
      by_outlet k o q (λ x. Remember k (sent_by k o q w x)) (λ t e. quietly (arrives_fades k roomy_in t Ready 1 refl (first_low o t [] e))) (quietly (stays roomy_in)) (wait_begins o OwnTurn w)

  received_remembers : (o : ObjSlot) (q : Ring) (w : ℕ) → Remember k (received k o q w)
  unfolding received
  received_remembers o q w = go (eqb q.count 0) (first k (waiters_of o)) refl
    where
      go : (b : Bool) (l : List TaskSlot) → first k (waiters_of o) ≡ l → Remember k (if b then wait_for k o OwnTurn w else refilled_by k o (one_less q) l)
      go true l e = wait_begins o OwnTurn w
      go false [] e = quietly (stays roomy_in)
      go false (t ∷ l) e = quietly (arrives_fades _ roomy_in t Ready 1 refl (first_low o t l e))

  send_remembers : (o : ObjSlot) (w : ℕ) → Remember k (sent_to k o (kind_at k.objects o) w)
  send_remembers o w =
      by_kind (kind_at k.objects o) (λ x. Remember k (sent_to k o x w)) (quietly (stays roomy_in)) (quietly (stays roomy_in)) (λ q e. sent_remembers o q w)
      (λ s h e. quietly (stays roomy_in)) (λ b e. quietly (stays roomy_in))

  receive_remembers : (o : ObjSlot) (w : ℕ) → Remember k (received_from k o (kind_at k.objects o) w)
  receive_remembers o w =
      by_kind (kind_at k.objects o) (λ x. Remember k (received_from k o x w)) (quietly (stays roomy_in)) (quietly (stays roomy_in)) (λ q e. received_remembers o q w)
      (λ s h e. quietly (stays roomy_in)) (λ b e. quietly (stays roomy_in))

  taken_remembers : (o : ObjSlot) (w : ℕ) → Remember k (taken k o w)
  taken_remembers o w =
      by_take k o (λ j. Remember k j) w (λ m. quietly (stays roomy_in)) (λ s e. quietly (stays roomy_in)) (λ s e. quietly (stays roomy_in)) (λ s h e d. wait_begins o OwnTurn w)

  set_fades_all : (o : ObjSlot) (m : ℕ) → Fade k (set_on k o (kind_at k.objects o) m)
  set_fades_all o m =
      by_set k o (Fade k) (λ e. stays roomy_in) m
      (λ b e. by_bits o (bit_or b m) (Fade k)
      (λ j t f q. onward f (arrives_fades j f.roomy t Ready 1 refl (omega (arith, first_within j (those_satisfied_on o (bit_or b m)) t q, f.roomy.many)))) (λ j c f. f) k (stays roomy_in))

  await_remembers : (o : ObjSlot) (x : Want) (w : ℕ) → Remember k (awaited_on k o (kind_at k.objects o) x w)
  await_remembers o x w = by_await k o (Remember k) (λ e. quietly (stays roomy_in)) x w (λ b e q. quietly (stays roomy_in)) (λ b e q. wait_begins o x w)

-- ── every call
pub effect_remembers : (k : State) → Sound k → (n : ℕ) (c : Call) → Passed k (asked k.uses c) n → Remember k (effect k (asked k.uses c))
unfolding effect asked names_none none_free resumed new_priority held queue_made mutex_made group_made removed advanced
effect_remembers k S n (Create p) P = quietly k S (created_fades k S p (omega (arith, has_slot k S n p P, S.tables.task_slots)))
effect_remembers k S n (Delete t) P =
    let u = task_slot k.uses t in quietly k S (deleted_fades k S u (last_in k.uses.tasks u.0) (there_low k.tasks u S.tables.task_slots P.named))
effect_remembers k S n (Suspend t) P = quietly k S (suspended_fades k S (task_slot k.uses t))
effect_remembers k S n (Resume t) P =
    let u = task_slot k.uses t in quietly k S (arrives_fades k (roomy_in k S) u Ready _ refl (there_low k.tasks u S.tables.task_slots P.named))
effect_remembers k S n (SetPriority t p) P = quietly k S (set_fades k (roomy_in k S) (task_slot k.uses t) _ (λ b. b))
effect_remembers k S n (Delay d) P = delayed_remembers k S d
effect_remembers k S n Yield P = quietly k S (yielded_fades k S)
effect_remembers k S n Hold P = quietly k S (stays (roomy_in k S))
effect_remembers k S n Release P = quietly k S (released_fades k (roomy_in k S))
effect_remembers k S n (MakeQueue c z) P = quietly k S (stays (roomy_in k S))
effect_remembers k S n MakeMutex P = quietly k S (stays (roomy_in k S))
effect_remembers k S n (Remove o) P = quietly k S (stays (roomy_in k S))
effect_remembers k S n (Send o w) P = send_remembers k S (obj_slot k.uses o) w
effect_remembers k S n (Receive o w) P = receive_remembers k S (obj_slot k.uses o) w
effect_remembers k S n (Take o w) P = taken_remembers k S (obj_slot k.uses o) w
effect_remembers k S n (Give o) P = quietly k S (given_fades k S (obj_slot k.uses o))
effect_remembers k S n Tick P = quietly k S (ticked_fades k S)
effect_remembers k S n MakeRecursive P = quietly k S (stays (roomy_in k S))
effect_remembers k S n MakeGroup P = quietly k S (stays (roomy_in k S))
effect_remembers k S n (SetBits o m) P = quietly k S (set_fades_all k S (obj_slot k.uses o) m)
effect_remembers k S n (ClearBits o m) P =
    by_clear k (obj_slot k.uses o) (Remember k) (λ e. quietly k S (stays (roomy_in k S))) m (λ b e. quietly k S (stays (roomy_in k S)))
effect_remembers k S n (Await o m a c w) P = await_remembers k S (obj_slot k.uses o) _ w
effect_remembers k S n (Advance d) P = quietly k S (advanced_fades d k (roomy_in k S) (sound_unheld k S (advance_free k (asked k.uses (Advance d)) refl P.held)))

-- the effective priorities worked out, too
pub after_remembers : (k : State) → Sound k → (n : ℕ) (c : Call) → Passed k (asked k.uses c) n → Remember k (after k (asked k.uses c))
unfolding after
after_remembers k S n c P = let r = effect_remembers k S n c P in then_fades r (worked_fades (effect k (asked k.uses c)) r.roomy) (λ t. ap is_blocked (sym (worked_place (effect k (asked k.uses c)) t)))
