-- A recursive mutex is what an ordinary one is, but for its holder's take and for a give that is not the last: with every mutex made ordinary a call is answered the same, and
-- leads to the same kernel with every mutex made ordinary.
use Prim.Native.Nat.{ℕ, zero, suc, ◌+◌, ◌-◌}
use mathlib.Core.Path.{◌≡◌, refl, sym, ap, subst, ◌∙◌, fun_ext}
use mathlib.Core.Bool.{Bool, true, false, not, ◌&&◌, ◌||◌, false≢true, and-true}
use mathlib.Core.List.{List, [], ◌∷◌}
use lib.Dec.{eqb, ltb}
use lib.ListN.{length, get_or, set, length-map, get_or-map}
use lib.Bits.{bit_or}
use borrow.Author.Tests.{eqb-true}
use Rattle.std.proofs.Common.{if◌then◌else◌}
use Rattle.lists.specs.Lists.{any, index, foldl, up_to, all_below}
use Rattle.lists.proofs.Bools.{on}
use Rattle.numbers.specs.Numbers.{task, object, same_task}
use Rattle.calls.specs.Door.{task_slot, obj_slot, last_in}
use Rattle.calls.specs.Behind.{asked}
use Rattle.order.specs.Order.{listed}
use Rattle.chains.specs.Lent.{levels}
use Rattle.chains.specs.Chains.{within}
use Rattle.items.specs.Bytes.{put_at}
use Rattle.slots.specs.Places.{is_listed, is_ready, wakes_at, outcome_due}
use Rattle.slots.specs.Wants.{satisfied, cleared, clears}
use Rattle.slots.specs.Values.{broken_off, task_at, levelled}
use Rattle.slots.specs.Kinds.{unused, takes_object, is_by, by_whom, hands, held_by, holder_of, recursive_by, count_in, counting, kind_at}
use Rattle.slots.specs.declared.Object.{Object}
use Rattle.rows.specs.Asking.{is, makes}
use Rattle.rows.specs.Applies.{out_of_range, names_none_as, names_none, wrong_size, not_for_idle, not_with_hold, none_free, not_his, his_already, count_full, not_suspended, must_wait, no_depth, no_tick, first_row, table}
use Rattle.rules.specs.Types.{Place, Free, Delayed, Waiting, Suspended, Spent, Names, Nothing, ATask, AnObject, AQueue, AMutex, AGroup, Seen}
use Rattle.rules.specs.Tables.{holds, free_object, with_task, with_object, with_hold, with_tick}
use Rattle.rules.specs.Lines.{first, runs_if, chosen, level, to_tail, to_head, leaves, begun}
use Rattle.rules.specs.Waits.{arrives, wait_for, later}
use Rattle.rules.specs.Loans.{for_whom, waits_for, ruled, moved, moved_if, prioritized, relevelled, worked_out, new_priority}
use Rattle.rules.specs.Circles.{leads_to, closes_circle, no_circle}
use Rattle.rules.specs.Sound.{levels_fine, no_higher, sound}
use Rattle.rules.specs.Sentences.{MayWait, receiver, sender, taker, awaiter, KindFits, vacant, an_ordinary, Tables}
use Rattle.rules.specs.Refusals.{new_slot, held_or_waited, in_use, later_row, refusal}
use Rattle.rules.specs.Ticks.{woken_if_due, wakes, counted_on, one_tick, turned, ticked, turned_if, ticks, released, advanced, held}
use Rattle.rules.specs.Queues.{place_by, outlet, sent_by, sent, sent_to, store_sent, store_sent_to, refilled_by, received, received_from, store_received, store_received_from}
use Rattle.rules.specs.Rings.{one_more, one_less}
use Rattle.rules.specs.Events.{group_made, and_on, woken_in, woken_by, all_woken, clears_of, bits_set, store_set, want_by, awaited, store_awaited, set_on, store_set_on, cleared_on, awaited_on, store_awaited_on}
use Rattle.rules.specs.Effects.{created, deleted, suspended, resumed, yielded, delayed, queue_made, mutex_made, removed, taken_from, taken, handed_to, given_back, given, effect}
use Rattle.rules.specs.Steps.{stored, answered, uses_after, after, accepted, turned_away, stepped_by, step}
use Rattle.rules.proofs.SoundSays.{sound_tested, tested_sound, sound_says}
use Rattle.rules.proofs.SoundTables.{says_tables}
use Rattle.rules.proofs.TableWithin.{by_outlet}
use Rattle.rules.proofs.RowPasses.{Passed, passed}
use Rattle.promises.specs.Types.{TaskSlot, ObjSlot, Asked, Want, OwnTurn, Ready, all_ready, waiters_of, those_satisfied_on, Task}
use Rattle.promises.specs.Types.{Holder, Nobody, By, Ordinary, Recursive, Kind, Unused, SpentObject, Queue, Mutex, Group, State}
use Rattle.promises.specs.Types.{Call, Create, Delete, Suspend, Resume, SetPriority, Delay, Yield, Hold, Release, MakeQueue, MakeMutex, Remove, Send, Receive, Take, Give, Tick, Advance, MakeRecursive}
use Rattle.promises.specs.Types.{MakeGroup, SetBits, ClearBits, Await}
use Rattle.promises.specs.Recursive.{as_ordinary, ordinaries, all_ordinary, step_ordinary, goes_by_count, AsOrdinary}

-- ── one object: whose it is and of which kind does not go by the sort
same_hands : (x : Kind) → hands (as_ordinary x) ≡ hands x
same_hands Unused = refl
same_hands SpentObject = refl
same_hands (Queue q) = refl
same_hands (Mutex s h) = refl
same_hands (Group b) = refl

same_takes : (x : Kind) → takes_object (as_ordinary x) ≡ takes_object x
same_takes Unused = refl
same_takes SpentObject = refl
same_takes (Queue q) = refl
same_takes (Mutex s h) = refl
same_takes (Group b) = refl

may_wait_ordinary : {t : TaskSlot} {y : Want} {x : Kind} → MayWait t y x → MayWait t y (as_ordinary x)
may_wait_ordinary (receiver e) = receiver e
may_wait_ordinary (sender e) = sender e
may_wait_ordinary (taker d) = taker d
may_wait_ordinary (awaiter l h e) = awaiter l h e

fits_ordinary : (x : Kind) → KindFits x → KindFits (as_ordinary x)
fits_ordinary Unused f = vacant refl
fits_ordinary SpentObject f = vacant refl
fits_ordinary (Queue q) f = f
fits_ordinary (Mutex s h) f = an_ordinary
fits_ordinary (Group b) f = f

-- ── the table
kind_ordinary : (os : List Object) (o : ObjSlot) → kind_at (ordinaries os) o ≡ as_ordinary (kind_at os o)
unfolding kind_at
kind_ordinary os o = ap (λ (x : Object). x.kind) (get_or-map (λ (x : Object). record { kind = as_ordinary x.kind }) os o.0 unused)

hands_ordinary : (os : List Object) (o : ObjSlot) → hands (kind_at (ordinaries os) o) ≡ hands (kind_at os o)
hands_ordinary os o = ap hands (kind_ordinary os o) ∙ same_hands (kind_at os o)

set_ordinary : (os : List Object) (n : ℕ) (x : Kind) → set (ordinaries os) n (record { kind = as_ordinary x }) ≡ ordinaries (set os n (record { kind = x }))
set_ordinary [] n x = refl
set_ordinary (y ∷ os) zero x = refl
set_ordinary (y ∷ os) (suc n) x = ap (λ l. record { kind = as_ordinary y.kind } ∷ l) (set_ordinary os n x)

free_ordinary : (os : List Object) → free_object (ordinaries os) ≡ free_object os
unfolding free_object index
free_ordinary [] = refl
free_ordinary (x ∷ os) = rw (same_takes x.kind, free_ordinary os)

holds_ordinary : (os : List Object) (t : TaskSlot) → holds (ordinaries os) t ≡ holds os t
unfolding holds any
holds_ordinary [] t = refl
holds_ordinary (x ∷ os) t = rw (same_hands x.kind, holds_ordinary os t)

-- ── who waits for whom, what is lent, and what a circle is
waits_ordinary : (ts : List Task) (os : List Object) → waits_for ts (ordinaries os) ≡ waits_for ts os
waits_ordinary ts os = fun_ext (λ t. go (task_at ts t).place)
  where
    go : (p : Place) → for_whom (ordinaries os) p ≡ for_whom os p
    go Free = refl
    go Ready = refl
    go (Delayed w) = refl
    go (Waiting y w) = ap by_whom (hands_ordinary os y.object)
    go Suspended = refl
    go Spent = refl

ruled_ordinary : (ts : List Task) (os : List Object) → ruled ts (ordinaries os) ≡ ruled ts os
unfolding ruled
ruled_ordinary ts os = ap (λ f. levels (λ n. (task_at ts (task n)).own) (λ n. (f (task n)).0)) (waits_ordinary ts os)

leads_ordinary : (ts : List Task) (os : List Object) (h u : TaskSlot) → leads_to ts (ordinaries os) h u ≡ leads_to ts os h u
unfolding leads_to
leads_ordinary ts os h u = ap (λ f. ltb h.0 16 && within (λ n. (f (task n)).0) 16 h.0 u.0) (waits_ordinary ts os)

circle_ordinary : (ts : List Task) (os : List Object) → no_circle ts (ordinaries os) ≡ no_circle ts os
unfolding no_circle leads_to
circle_ordinary ts os =
    ap (λ f. all_below 16 (λ n. not (ltb (f (task n)).0 16 && within (λ i. (f (task i)).0) 16 (f (task n)).0 n))) (waits_ordinary ts os)

levels_ordinary : (ts : List Task) (os : List Object) → levels_fine ts (ordinaries os) ≡ levels_fine ts os
unfolding levels_fine
levels_ordinary ts os = rw (ruled_ordinary ts os)

-- ── soundness
tables_ordinary : {ts : List Task} {os : List Object} → Tables ts os → Tables ts (ordinaries os)
tables_ordinary {ts} {os} T =
    record {
      task_slots = T.task_slots;
      object_slots = length-map os _ ∙ T.object_slots;
      as_idle = T.as_idle;
      tasks = λ t. let F = T.tasks t in record {
        waits = λ y w e. subst (λ x. MayWait t y.want x) (sym (kind_ordinary os y.object)) (may_wait_ordinary (F.waits y w e));
        outcome_range = F.outcome_range;
        delay_outcome = F.delay_outcome;
        wait_outcome = F.wait_outcome;
        free = F.free;
        spent = F.spent;
      };
      idle_holds = λ o e. T.idle_holds o (sym (hands_ordinary os o) ∙ e);
      holders = λ t o e. T.holders t o (sym (hands_ordinary os o) ∙ e);
      ranges = λ o. subst KindFits (sym (kind_ordinary os o)) (fits_ordinary (kind_at os o) (T.ranges o));
    }

sound_ordinary : (k : State) → sound k ≡ true → sound (all_ordinary k) ≡ true
sound_ordinary k e =
    let T = sound_tested k e in
    tested_sound (all_ordinary k)
    (record {
      tables = says_tables k.tasks (ordinaries k.objects) (tables_ordinary (sound_says k e).tables);
      levels = levels_ordinary k.tasks k.objects ∙ T.levels;
      listing = T.listing;
      clock = T.clock;
      runs = T.runs;
      uses = T.uses;
      circles = circle_ordinary k.tasks k.objects ∙ T.circles;
    })

-- ── a step's building blocks
put_ordinary : (k : State) (o : ObjSlot) (x : Kind) → with_object (all_ordinary k) o (as_ordinary x) ≡ all_ordinary (with_object k o x)
put_ordinary k o x =
    ap (λ os. record { tasks = k.tasks; objects = os; order = k.order; running = k.running; tick = k.tick; hold = k.hold; pended = k.pended; uses = k.uses })
    (set_ordinary k.objects o.0 x)

upto_ordinary : (f : State → ℕ → State) → ((k : State) (n : ℕ) → f (all_ordinary k) n ≡ all_ordinary (f k n)) → (n : ℕ) (k : State) → up_to f n (all_ordinary k) ≡ all_ordinary (up_to f n k)
unfolding up_to
upto_ordinary f e zero k = refl
upto_ordinary f e (suc n) k = ap (λ j. f j n) (upto_ordinary f e n k) ∙ e (up_to f n k) n

prioritized_ordinary : (k : State) (t : TaskSlot) (p : ℕ) → prioritized (all_ordinary k) t p ≡ all_ordinary (prioritized k t p)
unfolding prioritized moved_if moved to_head to_tail
prioritized_ordinary k t p = go (is_ready (task_at k.tasks t).place) (eqb (level k.tasks t) p) (same_task t k.running)
  where
    j : State
    j = with_task k t (levelled (task_at k.tasks t) p)

    go : (a b c : Bool) → (if a then (if b then all_ordinary j else if c then to_head (all_ordinary j) t else to_tail (all_ordinary j) t) else all_ordinary j)
        ≡ all_ordinary (if a then (if b then j else if c then to_head j t else to_tail j t) else j)
    go true true c = refl
    go true false true = refl
    go true false false = refl
    go false b c = refl

worked_ordinary : (k : State) → worked_out (all_ordinary k) ≡ all_ordinary (worked_out k)
unfolding worked_out relevelled
worked_ordinary k =
    ap (λ ls. relevelled ls (all_ordinary k)) (ruled_ordinary k.tasks k.objects)
    ∙ upto_ordinary (λ j n. prioritized j (task n) (get_or (ruled k.tasks k.objects) n 0)) (λ j n. prioritized_ordinary j (task n) _) 16 k

chosen_ordinary : (k : State) → chosen (all_ordinary k) ≡ all_ordinary (chosen k)
unfolding chosen first
chosen_ordinary k = go (eqb k.hold 0) (first k all_ready)
  where
    go : (b : Bool) (l : List TaskSlot) → (if b then runs_if (all_ordinary k) l else all_ordinary k) ≡ all_ordinary (if b then runs_if k l else k)
    go true [] = refl
    go true (t ∷ l) = refl
    go false l = refl

-- ── ticks
woken_ordinary : (k : State) (t : TaskSlot) → woken_if_due (all_ordinary k) t ≡ all_ordinary (woken_if_due k t)
unfolding woken_if_due arrives to_tail
woken_ordinary k t = go (wakes_at k.tick (task_at k.tasks t).place)
  where
    go : (b : Bool) → (if b then arrives (all_ordinary k) t Ready (outcome_due (task_at k.tasks t).place) else all_ordinary k)
        ≡ all_ordinary (if b then arrives k t Ready (outcome_due (task_at k.tasks t).place) else k)
    go true = refl
    go false = refl

wakes_ordinary : (k : State) (l : List TaskSlot) → wakes (all_ordinary k) l ≡ all_ordinary (wakes k l)
unfolding wakes foldl
wakes_ordinary k [] = refl
wakes_ordinary k (t ∷ l) = ap (λ j. wakes j l) (woken_ordinary k t) ∙ wakes_ordinary (woken_if_due k t) l

tick_ordinary : (k : State) → one_tick (all_ordinary k) ≡ all_ordinary (one_tick k)
unfolding one_tick counted_on
tick_ordinary k = ap worked_out (wakes_ordinary (with_tick k (later k.tick 1)) (begun k.tasks (listed k.order))) ∙ worked_ordinary (counted_on k)

turned_ordinary : (k : State) → turned (all_ordinary k) ≡ all_ordinary (turned k)
unfolding turned to_tail
turned_ordinary k = go (no_higher k.tasks (level k.tasks k.running) (listed k.order))
  where
    go : (b : Bool) → (if b then to_tail (all_ordinary k) k.running else all_ordinary k) ≡ all_ordinary (if b then to_tail k k.running else k)
    go true = refl
    go false = refl

turned_if_ordinary : (b : Bool) (k : State) → turned_if b (all_ordinary k) ≡ all_ordinary (turned_if b k)
turned_if_ordinary true k = ap chosen (turned_ordinary k) ∙ chosen_ordinary (turned k)
turned_if_ordinary false k = refl

ticks_ordinary : (b : Bool) (n : ℕ) (k : State) → ticks b n (all_ordinary k) ≡ all_ordinary (ticks b n k)
unfolding ticks
ticks_ordinary b n k = upto_ordinary (λ x i. turned_if b (one_tick x)) (λ x i. ap (turned_if b) (tick_ordinary x) ∙ turned_if_ordinary b (one_tick x)) n k

ticked_ordinary : (k : State) → ticked (all_ordinary k) ≡ all_ordinary (ticked k)
unfolding ticked
ticked_ordinary k = go (ltb 0 k.hold)
  where
    go : (b : Bool) → (if b then with_hold (all_ordinary k) k.hold (k.pended + 1) else turned (one_tick (all_ordinary k)))
        ≡ all_ordinary (if b then with_hold k k.hold (k.pended + 1) else turned (one_tick k))
    go true = refl
    go false = ap turned (tick_ordinary k) ∙ turned_ordinary (one_tick k)

released_ordinary : (k : State) → released (all_ordinary k) ≡ all_ordinary (released k)
unfolding released
released_ordinary k = go (eqb k.hold 1)
  where
    go : (b : Bool) → (if b then ticks false k.pended (with_hold (all_ordinary k) 0 0) else with_hold (all_ordinary k) (k.hold - 1) k.pended)
        ≡ all_ordinary (if b then ticks false k.pended (with_hold k 0 0) else with_hold k (k.hold - 1) k.pended)
    go true = ticks_ordinary false k.pended (with_hold k 0 0)
    go false = refl

-- ── queues
sent_ordinary : (k : State) (o : ObjSlot) (x : Kind) (w : ℕ) → sent_to (all_ordinary k) o (as_ordinary x) w ≡ all_ordinary (sent_to k o x w)
unfolding sent outlet first arrives wait_for to_tail
sent_ordinary k o Unused w = refl
sent_ordinary k o SpentObject w = refl
sent_ordinary k o (Queue q) w = by_outlet k o q (λ y. sent_by (all_ordinary k) o q w y ≡ all_ordinary (sent_by k o q w y)) (λ t e. refl) (put_ordinary k o (Queue (one_more q))) refl
sent_ordinary k o (Mutex s h) w = refl
sent_ordinary k o (Group b) w = refl

received_ordinary : (k : State) (o : ObjSlot) (x : Kind) (w : ℕ) → received_from (all_ordinary k) o (as_ordinary x) w ≡ all_ordinary (received_from k o x w)
unfolding received first arrives wait_for to_tail
received_ordinary k o Unused w = refl
received_ordinary k o SpentObject w = refl
received_ordinary k o (Queue q) w = go (eqb q.count 0) (first k (waiters_of o))
  where
    go : (b : Bool) (l : List TaskSlot) → (if b then wait_for (all_ordinary k) o OwnTurn w else refilled_by (all_ordinary k) o (one_less q) l)
        ≡ all_ordinary (if b then wait_for k o OwnTurn w else refilled_by k o (one_less q) l)
    go true l = refl
    go false [] = put_ordinary k o (Queue (one_less q))
    go false (t ∷ l) = ap (λ j. arrives j t Ready 1) (put_ordinary k o (Queue (one_more (one_less q))))
received_ordinary k o (Mutex s h) w = refl
received_ordinary k o (Group b) w = refl

store_sent_ordinary : (k : State) (o : ObjSlot) (x : Kind) (item s : List ℕ) → store_sent_to (all_ordinary k) o (as_ordinary x) item s ≡ store_sent_to k o x item s
unfolding store_sent outlet first
store_sent_ordinary k o Unused item s = refl
store_sent_ordinary k o SpentObject item s = refl
store_sent_ordinary k o (Queue q) item s = by_outlet k o q (λ y. put_at (place_by (all_ordinary k) o q y) item s ≡ put_at (place_by k o q y) item s) (λ t e. refl) refl refl
store_sent_ordinary k o (Mutex m h) item s = refl
store_sent_ordinary k o (Group b) item s = refl

store_received_ordinary : (k : State) (o : ObjSlot) (x : Kind) (s : List ℕ) → store_received_from (all_ordinary k) o (as_ordinary x) s ≡ store_received_from k o x s
unfolding store_received first
store_received_ordinary k o Unused s = refl
store_received_ordinary k o SpentObject s = refl
store_received_ordinary k o (Queue q) s = refl
store_received_ordinary k o (Mutex m h) s = refl
store_received_ordinary k o (Group b) s = refl

-- ── mutexes
takes_ordinary : (k : State) (o : ObjSlot) (x : Kind) (w : ℕ) → recursive_by k.running x ≡ false → taken_from (all_ordinary k) o (as_ordinary x) w ≡ all_ordinary (taken_from k o x w)
unfolding arrives wait_for to_tail
takes_ordinary k o Unused w p = refl
takes_ordinary k o SpentObject w p = refl
takes_ordinary k o (Queue q) w p = refl
takes_ordinary k o (Mutex s Nobody) w p = put_ordinary k o (Mutex (counting s 1) (By k.running))
takes_ordinary k o (Mutex Ordinary (By h)) w p = go (same_task h k.running)
  where
    go : (b : Bool) → (if b then with_object (all_ordinary k) o (Mutex Ordinary (By h)) else wait_for (all_ordinary k) o OwnTurn w)
        ≡ all_ordinary (if b then with_object k o (Mutex Ordinary (By h)) else wait_for k o OwnTurn w)
    go true = put_ordinary k o (Mutex Ordinary (By h))
    go false = refl
takes_ordinary k o (Mutex (Recursive n) (By h)) w p = rw p
takes_ordinary k o (Group b) w p = refl

gives_ordinary : (k : State) (o : ObjSlot) (x : Kind) → ltb 1 (count_in x) ≡ false → given_back (all_ordinary k) o (as_ordinary x) ≡ all_ordinary (given_back k o x)
unfolding first arrives to_tail
gives_ordinary k o Unused p = refl
gives_ordinary k o SpentObject p = refl
gives_ordinary k o (Queue q) p = refl
gives_ordinary k o (Group b) p = refl
gives_ordinary k o (Mutex s h) p = rw p (go (first k (waiters_of o)))
  where
    go : (l : List TaskSlot) → handed_to (all_ordinary k) o Ordinary l ≡ all_ordinary (handed_to k o s l)
    go [] = put_ordinary k o (Mutex (counting s 0) Nobody)
    go (t ∷ l) = put_ordinary (arrives k t Ready 1) o (Mutex (counting s 1) (By t))

-- ── event groups
all_woken_ordinary : (k : State) (l : List TaskSlot) → all_woken (all_ordinary k) l ≡ all_ordinary (all_woken k l)
unfolding all_woken foldl arrives to_tail
all_woken_ordinary k [] = refl
all_woken_ordinary k (t ∷ l) = all_woken_ordinary (arrives k t Ready 1) l

module _ (o : ObjSlot) (b : ℕ) where
  woken_in_ordinary : (n : ℕ) (k : State) → woken_in n (all_ordinary k) o b ≡ woken_in n k o b
  unfolding woken_in first arrives to_tail
  woken_in_ordinary zero k = refl
  woken_in_ordinary (suc n) k = go (first k (those_satisfied_on o b)) (λ t. woken_in_ordinary n (arrives k t Ready 1))
    where
      go : (l : List TaskSlot) → ((t : TaskSlot) → woken_in n (all_ordinary (arrives k t Ready 1)) o b ≡ woken_in n (arrives k t Ready 1) o b)
          → and_on l (λ t. woken_in n (all_ordinary (arrives k t Ready 1)) o b) ≡ and_on l (λ t. woken_in n (arrives k t Ready 1) o b)
      go [] on = refl
      go (t ∷ l) on = ap (λ r. t ∷ r) (on t)

  woken_by_ordinary : (k : State) → woken_by (all_ordinary k) o b ≡ woken_by k o b
  unfolding woken_by
  woken_by_ordinary k = woken_in_ordinary 16 k

  bits_ordinary : (k : State) → bits_set (all_ordinary k) o b ≡ all_ordinary (bits_set k o b)
  unfolding bits_set
  bits_ordinary k =
      let l = woken_by k o b in
      rw (woken_by_ordinary k, all_woken_ordinary k l) (put_ordinary (all_woken k l) o (Group (cleared b (clears_of k.tasks l))))

  awaits_ordinary : (k : State) (x : Want) (w : ℕ) → awaited (all_ordinary k) o b x w ≡ all_ordinary (awaited k o b x w)
  unfolding awaited wait_for arrives to_tail
  awaits_ordinary k x w = go (satisfied b x)
    where
      y : Kind
      y = Group (cleared b (clears x))

      go : (met : Bool) → (if met then with_object (all_ordinary k) o y else wait_for (all_ordinary k) o x w) ≡ all_ordinary (if met then with_object k o y else wait_for k o x w)
      go true = put_ordinary k o y
      go false = refl

sets_ordinary : (k : State) (o : ObjSlot) (x : Kind) (m : ℕ) → set_on (all_ordinary k) o (as_ordinary x) m ≡ all_ordinary (set_on k o x m)
sets_ordinary k o Unused m = refl
sets_ordinary k o SpentObject m = refl
sets_ordinary k o (Queue q) m = refl
sets_ordinary k o (Mutex s h) m = refl
sets_ordinary k o (Group b) m = bits_ordinary o (bit_or b m) k

store_set_ordinary : (k : State) (o : ObjSlot) (x : Kind) (m : ℕ) (s : List ℕ) → store_set_on (all_ordinary k) o (as_ordinary x) m s ≡ store_set_on k o x m s
unfolding store_set
store_set_ordinary k o Unused m s = refl
store_set_ordinary k o SpentObject m s = refl
store_set_ordinary k o (Queue q) m s = refl
store_set_ordinary k o (Mutex n h) m s = refl
store_set_ordinary k o (Group b) m s = rw (woken_by_ordinary o (bit_or b m) k)

clears_ordinary : (k : State) (o : ObjSlot) (x : Kind) (m : ℕ) → cleared_on (all_ordinary k) o (as_ordinary x) m ≡ all_ordinary (cleared_on k o x m)
clears_ordinary k o Unused m = refl
clears_ordinary k o SpentObject m = refl
clears_ordinary k o (Queue q) m = refl
clears_ordinary k o (Mutex s h) m = refl
clears_ordinary k o (Group b) m = put_ordinary k o (Group (cleared b m))

awaited_ordinary : (k : State) (o : ObjSlot) (x : Kind) (y : Want) (w : ℕ) → awaited_on (all_ordinary k) o (as_ordinary x) y w ≡ all_ordinary (awaited_on k o x y w)
awaited_ordinary k o Unused y w = refl
awaited_ordinary k o SpentObject y w = refl
awaited_ordinary k o (Queue q) y w = refl
awaited_ordinary k o (Mutex s h) y w = refl
awaited_ordinary k o (Group b) y w = awaits_ordinary o b k y w

store_awaited_ordinary : (k : State) (x : Kind) (y : Want) (s : List ℕ) → store_awaited_on (all_ordinary k) (as_ordinary x) y s ≡ store_awaited_on k x y s
unfolding store_awaited
store_awaited_ordinary k Unused y s = refl
store_awaited_ordinary k SpentObject y s = refl
store_awaited_ordinary k (Queue q) y s = refl
store_awaited_ordinary k (Mutex n h) y s = refl
store_awaited_ordinary k (Group b) y s = refl

-- ── what each call does
made_ordinary : (k : State) (x : Kind) → with_object (all_ordinary k) (object (free_object (ordinaries k.objects))) (as_ordinary x) ≡ all_ordinary (with_object k (object (free_object k.objects)) x)
made_ordinary k x = ap (λ n. with_object (all_ordinary k) (object n) (as_ordinary x)) (free_ordinary k.objects) ∙ put_ordinary k (object (free_object k.objects)) x

suspended_ordinary : (k : State) (t : TaskSlot) → suspended (all_ordinary k) t ≡ all_ordinary (suspended k t)
unfolding suspended leaves
suspended_ordinary k t = go (is_listed (task_at k.tasks t).place)
  where
    j : State
    j = leaves (with_task k t (broken_off (task_at k.tasks t))) t

    go : (b : Bool) → (if b then all_ordinary j else all_ordinary k) ≡ all_ordinary (if b then j else k)
    go true = refl
    go false = refl

delayed_ordinary : (k : State) (n : ℕ) → delayed (all_ordinary k) n ≡ all_ordinary (delayed k n)
unfolding delayed yielded arrives to_tail
delayed_ordinary k n = go (eqb n 0)
  where
    j : State
    j = arrives k k.running (Delayed (later k.tick n)) 0

    go : (b : Bool) → (if b then all_ordinary (yielded k) else all_ordinary j) ≡ all_ordinary (if b then yielded k else j)
    go true = refl
    go false = refl

removed_ordinary : (k : State) (o : ObjSlot) (b : Bool) → removed (all_ordinary k) o b ≡ all_ordinary (removed k o b)
unfolding removed
removed_ordinary k o true = put_ordinary k o SpentObject
removed_ordinary k o false = put_ordinary k o Unused

-- a give by its holder that does not go by the count is the last
last_give : (t : TaskSlot) (x : Kind) → held_by t x ≡ true → (recursive_by t x && ltb 1 (count_in x)) ≡ false → ltb 1 (count_in x) ≡ false
last_give t Unused h e = refl
last_give t SpentObject h e = refl
last_give t (Queue q) h e = refl
last_give t (Mutex Ordinary u) h e = refl
last_give t (Mutex (Recursive n) u) h e = rw h at e
last_give t (Group b) h e = refl

effect_ordinary : (k : State) (c : Call) (i : ℕ) → Passed k (asked k.uses c) i → goes_by_count k c ≡ false → is 19 (asked k.uses c) ≡ false
    → effect (all_ordinary k) (asked k.uses c) ≡ all_ordinary (effect k (asked k.uses c))
unfolding effect asked not_his created deleted resumed new_priority yielded held advanced queue_made mutex_made group_made taken given arrives leaves to_tail
effect_ordinary k (Create p) i P g m = refl
effect_ordinary k (Delete t) i P g m = refl
effect_ordinary k (Suspend t) i P g m = suspended_ordinary k (task_slot k.uses t)
effect_ordinary k (Resume t) i P g m = refl
effect_ordinary k (SetPriority t p) i P g m = refl
effect_ordinary k (Delay n) i P g m = delayed_ordinary k n
effect_ordinary k Yield i P g m = refl
effect_ordinary k Hold i P g m = refl
effect_ordinary k Release i P g m = released_ordinary k
effect_ordinary k (MakeQueue c z) i P g m = made_ordinary k (Queue (record { capacity = c; size = z; first = 0; count = 0 }))
effect_ordinary k MakeMutex i P g m = made_ordinary k (Mutex Ordinary Nobody)
effect_ordinary k (Remove o) i P g m = removed_ordinary k (obj_slot k.uses o) (last_in k.uses.objects (obj_slot k.uses o).0)
effect_ordinary k (Send o w) i P g m =
    let p = obj_slot k.uses o in
    ap (λ x. sent_to (all_ordinary k) p x w) (kind_ordinary k.objects p) ∙ sent_ordinary k p (kind_at k.objects p) w
effect_ordinary k (Receive o w) i P g m =
    let p = obj_slot k.uses o in
    ap (λ x. received_from (all_ordinary k) p x w) (kind_ordinary k.objects p) ∙ received_ordinary k p (kind_at k.objects p) w
effect_ordinary k (Take o w) i P g m =
    let p = obj_slot k.uses o in
    ap (λ x. taken_from (all_ordinary k) p x w) (kind_ordinary k.objects p)
    ∙ takes_ordinary k p (kind_at k.objects p) w (sym (and-true (recursive_by k.running (kind_at k.objects p))) ∙ g)
effect_ordinary k (Give o) i P g m =
    let p = obj_slot k.uses o in
    ap (given_back (all_ordinary k) p) (kind_ordinary k.objects p)
    ∙ gives_ordinary k p (kind_at k.objects p) (last_give k.running (kind_at k.objects p) (on (held_by k.running (kind_at k.objects p)) P.his) g)
effect_ordinary k Tick i P g m = ticked_ordinary k
effect_ordinary k (Advance n) i P g m = ticks_ordinary true n k
effect_ordinary k MakeRecursive i P g m = absurd (false≢true (sym m))
effect_ordinary k MakeGroup i P g m = made_ordinary k (Group 0)
effect_ordinary k (SetBits o b) i P g m =
    let p = obj_slot k.uses o in
    ap (λ x. set_on (all_ordinary k) p x b) (kind_ordinary k.objects p) ∙ sets_ordinary k p (kind_at k.objects p) b
effect_ordinary k (ClearBits o b) i P g m =
    let p = obj_slot k.uses o in
    ap (λ x. cleared_on (all_ordinary k) p x b) (kind_ordinary k.objects p) ∙ clears_ordinary k p (kind_at k.objects p) b
effect_ordinary k (Await o b all clear w) i P g m =
    let p = obj_slot k.uses o in
    let y = want_by (asked k.uses (Await o b all clear w)) in
    ap (λ x. awaited_on (all_ordinary k) p x y w) (kind_ordinary k.objects p) ∙ awaited_ordinary k p (kind_at k.objects p) y w

-- ── what is turned away
-- what the rows look at, with this kind and this answer about circles
abbrev seen_by : State → Asked → Kind → Bool → Seen
seen_by k a x b =
    record {
      place = (task_at k.tasks a.task).place;
      kind = x;
      new = if makes a then new_slot k a else 0;
      used = in_use k a;
      circle = b;
      running = k.running;
      hold = k.hold;
      pended = k.pended;
    }

names_ordinary : (k : State) (a : Asked) (n : ℕ) (h : Holder) (b : Bool) (m : Names) → names_none_as (seen_by k a (Mutex Ordinary h) b) m ≡ names_none_as (seen_by k a (Mutex (Recursive n) h) b) m
names_ordinary k a n h b Nothing = refl
names_ordinary k a n h b ATask = refl
names_ordinary k a n h b AnObject = refl
names_ordinary k a n h b AQueue = refl
names_ordinary k a n h b AMutex = refl
names_ordinary k a n h b AGroup = refl

-- a recursive one that the caller does not take again
recursive_rows : (k : State) (a : Asked) (n : ℕ) (h : Holder) (b : Bool) (item s : ℕ) (c : Bool) → is 15 a ≡ c → (d : Bool) → is_by k.running h ≡ d → (c && d) ≡ false
    → table (seen_by k a (Mutex Ordinary h) b) a item s ≡ table (seen_by k a (Mutex (Recursive n) h) b) a item s
unfolding table names_none wrong_size not_for_idle not_with_hold none_free not_his his_already count_full not_suspended must_wait no_depth no_tick
recursive_rows k a n h b item s false e d f p = rw (e, names_ordinary k a n h b a.names)
recursive_rows k a n h b item s true e true f p = absurd (false≢true (sym p))
recursive_rows k a n h b item s true e false f p = rw (f, names_ordinary k a n h b a.names)

rows_ordinary : (k : State) (a : Asked) (x : Kind) (b : Bool) (item s : ℕ) → (is 15 a && recursive_by k.running x) ≡ false
    → table (seen_by k a (as_ordinary x) b) a item s ≡ table (seen_by k a x b) a item s
rows_ordinary k a Unused b item s p = refl
rows_ordinary k a SpentObject b item s p = refl
rows_ordinary k a (Queue q) b item s p = refl
rows_ordinary k a (Group m) b item s p = refl
rows_ordinary k a (Mutex Ordinary h) b item s p = refl
rows_ordinary k a (Mutex (Recursive n) h) b item s p = recursive_rows k a n h b item s (is 15 a) refl (is_by k.running h) refl p

used_ordinary : (k : State) (a : Asked) → in_use (all_ordinary k) a ≡ in_use k a
unfolding in_use held_or_waited
used_ordinary k a = rw (holds_ordinary k.objects a.task, hands_ordinary k.objects a.object)

not_again_ordinary : (t : TaskSlot) (x : Kind) → recursive_by t (as_ordinary x) ≡ false
not_again_ordinary t Unused = refl
not_again_ordinary t SpentObject = refl
not_again_ordinary t (Queue q) = refl
not_again_ordinary t (Mutex s h) = refl
not_again_ordinary t (Group b) = refl

circles_ordinary : (k : State) (a : Asked) → (is 15 a && recursive_by k.running (kind_at k.objects a.object)) ≡ false → closes_circle (all_ordinary k) a ≡ closes_circle k a
unfolding closes_circle
circles_ordinary k a p = go (is 15 a) refl
  where
    x : Kind
    x = kind_at k.objects a.object

    go : (c : Bool) → is 15 a ≡ c → closes_circle (all_ordinary k) a ≡ closes_circle k a
    go false e = rw e
    go true e =
        rw (e, kind_ordinary k.objects a.object, not_again_ordinary k.running x, same_hands x, leads_ordinary k.tasks k.objects (holder_of x) k.running, rw e at p)

row_ordinary : (k : State) (a : Asked) (item s : ℕ) → (is 15 a && recursive_by k.running (kind_at k.objects a.object)) ≡ false → later_row (all_ordinary k) a item s ≡ later_row k a item s
unfolding later_row
row_ordinary k a item s p =
    rw (kind_ordinary k.objects a.object, free_ordinary k.objects, used_ordinary k a, circles_ordinary k a p)
    (ap first_row (rows_ordinary k a (kind_at k.objects a.object) (closes_circle k a) item s p))

-- ── the step
stored_ordinary : (k : State) (a : Asked) (item s : List ℕ) → stored (all_ordinary k) a item s ≡ stored k a item s
unfolding stored
stored_ordinary k a item s =
    let x : Kind = kind_at k.objects a.object in
    rw (
      kind_ordinary k.objects a.object,
      store_sent_ordinary k a.object x item s,
      store_received_ordinary k a.object x s,
      store_set_ordinary k a.object x a.bits s,
      store_awaited_ordinary k x (want_by a) s,
    )

answered_ordinary : (k : State) (a : Asked) (j : State) → answered (all_ordinary k) a (all_ordinary j) ≡ answered k a j
unfolding answered
answered_ordinary k a j = rw (free_ordinary k.objects)

-- what a call does where every mutex is ordinary and another where they are not; 11 and 19, or one call
accepted_ordinary : (k : State) (a b : Asked) (item s : List ℕ) → effect (all_ordinary k) a ≡ all_ordinary (effect k b) → answered (all_ordinary k) a ≡ answered (all_ordinary k) b
    → stored (all_ordinary k) a item s ≡ stored (all_ordinary k) b item s → uses_after k.uses a ≡ uses_after k.uses b
    → accepted (all_ordinary k) a item s ≡ step_ordinary (accepted k b item s)
unfolding accepted after
accepted_ordinary k a b item s e n t u =
    let q : chosen (worked_out (effect (all_ordinary k) a)) ≡ all_ordinary (chosen (worked_out (effect k b))) =
    ap (λ j. chosen (worked_out j)) e ∙ ap chosen (worked_ordinary (effect k b)) ∙ chosen_ordinary (worked_out (effect k b)) in
    rw (q, n, answered_ordinary k b (chosen (worked_out (effect k b))), t, stored_ordinary k b item s, u)

-- by the row that applies
stepped_ordinary : (k : State) (a b : Asked) (item s : List ℕ) (n : ℕ) → (n ≡ 0 → accepted (all_ordinary k) a item s ≡ step_ordinary (accepted k b item s))
    → stepped_by n (all_ordinary k) a item s ≡ step_ordinary (stepped_by n k b item s)
stepped_ordinary k a b item s n f = go (eqb n 0) refl
  where
    go : (z : Bool) → eqb n 0 ≡ z → (if z then accepted (all_ordinary k) a item s else turned_away (all_ordinary k) n s) ≡ step_ordinary (if z then accepted k b item s else turned_away k n s)
    go true z = f (eqb-true n 0 z)
    go false z = refl

-- of a sound kernel
module _ (k : State) (e : sound k ≡ true) (item s : List ℕ) where
  other_take : (c : Call) → goes_by_count k c ≡ false → let a = asked k.uses c in (is 15 a && recursive_by k.running (kind_at k.objects a.object)) ≡ false
  other_take c g = go (is 15 (asked k.uses c)) (recursive_by k.running (kind_at k.objects (asked k.uses c).object)) _ g
    where
      go : (a b d : Bool) → (b && (a || d)) ≡ false → (a && b) ≡ false
      go true true d q = q
      go true false d q = refl
      go false b d q = refl

  same_so : (c : Call) → goes_by_count k c ≡ false → is 19 (asked k.uses c) ≡ false → step (all_ordinary k) c item s ≡ step_ordinary (step k c item s)
  unfolding step refusal
  same_so c g m =
      let a = asked k.uses c in
      rw (sound_ordinary k e, e, row_ordinary k a (length item) (length s) (other_take c g))
      (stepped_ordinary k a a item s (later_row k a (length item) (length s)) (λ r.
      accepted_ordinary k a a item s (effect_ordinary k c (length s) (passed k a (length item) (length s) r) g m) refl refl refl))

  -- the same row applies to 19 and to 11
  make_rows : later_row k (asked k.uses MakeMutex) (length item) (length s) ≡ later_row k (asked k.uses MakeRecursive) (length item) (length s)
  unfolding asked later_row table out_of_range names_none wrong_size not_for_idle not_with_hold none_free in_use not_his his_already count_full not_suspended closes_circle must_wait no_depth no_tick
  make_rows = refl

  made_like : step (all_ordinary k) MakeMutex item s ≡ step_ordinary (step k MakeRecursive item s)
  unfolding step refusal effect asked answered stored uses_after mutex_made
  made_like =
      let a = asked k.uses MakeMutex in
      let b = asked k.uses MakeRecursive in
      rw (sound_ordinary k e, e, row_ordinary k a (length item) (length s) refl, make_rows)
      (stepped_ordinary k a b item s (later_row k b (length item) (length s)) (λ r. accepted_ordinary k a b item s (made_ordinary k (Mutex (Recursive 0) Nobody)) refl refl refl))

pub as_ordinary_lem : (k : State) → sound k ≡ true → (c : Call) (item s : List ℕ) → AsOrdinary k c item s (step k c item s)
as_ordinary_lem k e c item s =
    record {
      same = same_so k e item s c;
      made_so = λ z. subst (λ d. step (all_ordinary k) MakeMutex item s ≡ step_ordinary (step k d item s)) (sym z) (made_like k e item s);
    }
