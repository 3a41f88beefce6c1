-- The gate of the request, computed; and the mistakes that were named are caught, so none of them is the step.
use Prim.Native.Nat.{ℕ, zero, suc}
use mathlib.Core.Path.{◌≡◌, refl, ap}
use mathlib.Core.Bool.{Bool, true, false}
use mathlib.Core.List.{List, [], ◌∷◌, map, Memᴰ}
use lib.Bits.{bit_or}
use borrow.Author.Tests.{eqb-true}
use Rattle.std.proofs.Common.{if◌then◌else◌}
use Rattle.lists.specs.Lists.{every, all_below, foldl, up_to, values, index, any, kept}
use Rattle.calls.specs.Door.{fresh_uses, uses_fine}
use Rattle.calls.specs.Behind.{asked}
use Rattle.items.specs.Bytes.{bytes_at, put_at}
use Rattle.order.specs.Order.{ordered, without}
use Rattle.order.specs.Tidy.{count, tidy}
use Rattle.chains.specs.Columns.{raised}
use Rattle.chains.specs.Lent.{goes_on, levels}
use Rattle.rules.specs.Effects.{created, suspended, yielded, queue_made, removed, effect}
use Rattle.rules.specs.Events.{group_made, slip_bits, and_on, woken_in, woken_by, all_woken, clears_of, bits_set, store_set, want_by, awaited, store_awaited, set_on, store_set_on, cleared_on, awaited_on, store_awaited_on}
use Rattle.rules.specs.Lines.{line, those, begun, highest, leader, first, chosen, to_tail, to_head, leaves}
use Rattle.rules.specs.Loans.{moved, moved_if, ruled, prioritized, relevelled, worked_out}
use Rattle.rows.specs.Asking.{is}
use Rattle.rows.specs.Applies.{out_of_range, names_none, wrong_size, not_for_idle, not_with_hold, none_free, not_his, his_already, count_full, not_suspended, must_wait, no_depth, no_tick, table}
use Rattle.chains.specs.Chains.{within}
use Rattle.rules.specs.Circles.{leads_to, closes_circle, no_circle}
use Rattle.rules.specs.Refusals.{held_or_waited, in_use, later_row, refusal}
use Rattle.rules.specs.Sound.{tables_fine, levels_fine, listing_fine, clock_fine, no_higher, runs_fine, sound}
use Rattle.rules.specs.Steps.{stored, answered, uses_after, after, accepted, step}
use Rattle.rules.specs.Trace.{trace}
use Rattle.slots.specs.Values.{task_at}
use Rattle.slots.specs.Wants.{all_bits, cleared}
use Rattle.slots.specs.Kinds.{kind_at}
use Rattle.rules.specs.Tables.{fresh, holds, free_slot, free_object}
use Rattle.rules.specs.Ticks.{woken_if_due, wakes, counted_on, one_tick, turned, ticked, ticks, held, released}
use Rattle.rules.specs.Waits.{arrives, wait_for}
use Rattle.promises.specs.Types.{TaskSlot, ObjSlot, Asked, Call, Want, Ready, Kind, Unused, SpentObject, Queue, Mutex, Group, those_satisfied_on, State}
use Rattle.promises.specs.Cases.{Case, ran}
use Rattle.promises.specs.Wrong.{uses_then, step_of, step_by, changed, Wrong, shows_by, same_number, same_list, same_view, found, verdict}
use Rattle.promises.specs.EventCases.{gate_opens, any_bit, clears_together, at_once, runs_out, in_order, rows_of_groups, sixteen_groups, event_cases}
use Rattle.promises.specs.WrongEvents.{object_in, woken_through, first_met, same_bits, right_set, set_on_by, store_set_on_by, set_does, set_stores, sets_by, clear_on_by, clear_does}
use Rattle.promises.specs.WrongEvents.{right_wait, await_on_by, store_await_on_by, await_does, await_stores, awaits_by, tick_stores, tick_tells, tells_nothing, unmet_by, where_it_must, range_by, ranges_by, empty_wait}
use Rattle.promises.specs.WrongEvents.{set_mistakes, clear_mistakes, wait_mistakes, range_mistakes, event_mistakes}
use Rattle.promises.proofs.Caught.{none_of}

pub events_found : map ran event_cases ≡ map (λ (c : Case). c.expected) event_cases
unfolding event_cases gate_opens any_bit clears_together at_once runs_out in_order rows_of_groups sixteen_groups trace every all_below foldl up_to values index any kept asked bytes_at put_at ordered
    without count tidy created suspended yielded queue_made removed group_made slip_bits woken_in woken_by all_woken clears_of bits_set store_set awaited store_awaited effect line those begun highest
    leader first chosen to_tail to_head leaves moved moved_if prioritized ruled levels goes_on raised relevelled worked_out out_of_range names_none wrong_size not_for_idle not_with_hold none_free
    held_or_waited in_use not_his his_already count_full not_suspended closes_circle leads_to no_circle within must_wait no_depth no_tick table later_row refusal no_higher runs_fine tables_fine levels_fine
    listing_fine clock_fine uses_fine sound stored answered uses_after after accepted step fresh fresh_uses task_at kind_at holds free_slot free_object held released woken_if_due wakes counted_on
    one_tick turned ticked ticks arrives wait_for
events_found = refl

-- ── the mistakes
-- with the right parts a set is the set
through_so : (n : ℕ) (k : State) (o : ObjSlot) (b : ℕ) → woken_through first_met same_bits n k o b ≡ woken_in n k o b
unfolding woken_through woken_in
through_so zero k o b = refl
through_so (suc n) k o b = go (first k (those_satisfied_on o b)) (λ t. through_so n (arrives k t Ready 1) o b)
  where
    go : (l : List TaskSlot) → ((t : TaskSlot) → woken_through first_met same_bits n (arrives k t Ready 1) o b ≡ woken_in n (arrives k t Ready 1) o b)
        → and_on l (λ t. woken_through first_met same_bits n (arrives k t Ready 1) o b) ≡ and_on l (λ t. woken_in n (arrives k t Ready 1) o b)
    go [] ih = refl
    go (t ∷ l) ih = ap (λ (r : List TaskSlot). t ∷ r) (ih t)

set_on_so : (k : State) (o : ObjSlot) (x : Kind) (m : ℕ) → set_on_by right_set k o x m ≡ set_on k o x m
unfolding bits_set all_woken woken_by
set_on_so k o Unused m = refl
set_on_so k o SpentObject m = refl
set_on_so k o (Queue q) m = refl
set_on_so k o (Mutex s h) m = refl
set_on_so k o (Group b) m = rw (through_so 16 k o (bit_or b m))

store_set_so : (k : State) (o : ObjSlot) (x : Kind) (m : ℕ) (s : List ℕ) → store_set_on_by right_set k o x m s ≡ store_set_on k o x m s
unfolding store_set slip_bits woken_by
store_set_so k o Unused m s = refl
store_set_so k o SpentObject m s = refl
store_set_so k o (Queue q) m s = refl
store_set_so k o (Mutex n h) m s = refl
store_set_so k o (Group b) m s = rw (through_so 16 k o (bit_or b m))

-- an effect with the row of its call changed for the same
same_effect : (n : ℕ) (does : State → Asked → State) → ((k : State) (a : Asked) → a.number ≡ n → does k a ≡ effect k a) → (k : State) (a : Asked) → changed n does k a ≡ after k a
unfolding after
same_effect n does same k a = go (is n a) refl
  where
    go : (y : Bool) → is n a ≡ y → (if y then worked_out (does k a) else worked_out (effect k a)) ≡ worked_out (effect k a)
    go true q = ap worked_out (same k a (eqb-true a.number n q))
    go false q = refl

same_store : (n : ℕ) (a : Asked) (x y : List ℕ) → (a.number ≡ n → x ≡ y) → (if is n a then x else y) ≡ y
same_store n a x y same = go (is n a) refl
  where
    go : (z : Bool) → is n a ≡ z → (if z then x else y) ≡ y
    go true q = same (eqb-true a.number n q)
    go false q = refl

-- a step with another effect and another store that are the same is the step
same_step : (does : State → Asked → State) (stores : State → Asked → List ℕ → List ℕ → List ℕ) → ((k : State) (a : Asked) → does k a ≡ after k a)
    → ((k : State) (a : Asked) (item s : List ℕ) → stores k a item s ≡ stored k a item s)
    → (k : State) (c : Call) (item s : List ℕ) → step_of asked refusal does chosen stores uses_then k c item s ≡ step k c item s
unfolding step_of step accepted
same_step does stores d t k c item s = rw (d k (asked k.uses c), t k (asked k.uses c) item s)

pub sets_by_so : (k : State) (c : Call) (item s : List ℕ) → sets_by right_set k c item s ≡ step k c item s
unfolding effect stored
sets_by_so =
    same_step (set_does right_set) (set_stores right_set)
    (same_effect 21 _ (λ k a e. rw e (set_on_so k a.object (object_in k a) a.bits)))
    (λ k a item s. same_store 21 a _ _ (λ e. rw e (store_set_so k a.object (object_in k a) a.bits s)))

-- with the right bits left, a clear
clear_on_so : (k : State) (o : ObjSlot) (x : Kind) (m : ℕ) → clear_on_by cleared k o x m ≡ cleared_on k o x m
clear_on_so k o Unused m = refl
clear_on_so k o SpentObject m = refl
clear_on_so k o (Queue q) m = refl
clear_on_so k o (Mutex s h) m = refl
clear_on_so k o (Group b) m = refl

pub clears_by_so : (k : State) (c : Call) (item s : List ℕ) → step_by (clear_does cleared) chosen k c item s ≡ step k c item s
unfolding effect
clears_by_so = same_step (clear_does cleared) stored (same_effect 22 _ (λ k a e. rw e (clear_on_so k a.object (object_in k a) a.bits))) (λ k a item s. refl)

-- with the right parts, a wait
await_on_so : (k : State) (o : ObjSlot) (x : Kind) (v : Want) (w : ℕ) → await_on_by right_wait k o x v w ≡ awaited_on k o x v w
unfolding awaited
await_on_so k o Unused v w = refl
await_on_so k o SpentObject v w = refl
await_on_so k o (Queue q) v w = refl
await_on_so k o (Mutex s h) v w = refl
await_on_so k o (Group b) v w = refl

store_await_so : (k : State) (x : Kind) (v : Want) (s : List ℕ) → store_await_on_by right_wait k x v s ≡ store_awaited_on k x v s
unfolding store_awaited slip_bits
store_await_so k Unused v s = refl
store_await_so k SpentObject v s = refl
store_await_so k (Queue q) v s = refl
store_await_so k (Mutex n h) v s = refl
store_await_so k (Group b) v s = refl

pub awaits_by_so : (k : State) (c : Call) (item s : List ℕ) → awaits_by right_wait k c item s ≡ step k c item s
unfolding effect stored
awaits_by_so =
    same_step (await_does right_wait) (await_stores right_wait)
    (same_effect 23 _ (λ k a e. rw e (await_on_so k a.object (object_in k a) (want_by a) a.wait)))
    (λ k a item s. same_store 23 a _ _ (λ e. rw e (store_await_so k (object_in k a) (want_by a) s)))

-- a tick that tells nothing
pub ticks_by_so : (k : State) (c : Call) (item s : List ℕ) → tick_tells tells_nothing k c item s ≡ step k c item s
unfolding stored
ticks_by_so = same_step after (tick_stores tells_nothing) (λ k a. refl) (λ k a item s. same_store 17 a _ _ (λ e. rw e))

-- the right tests in rows 14 and 4
pub unmet_by_so : (k : State) (c : Call) (item s : List ℕ) → unmet_by where_it_must k c item s ≡ step k c item s
unfolding step_of step accepted refusal later_row table
unmet_by_so k c item s = refl

pub ranges_by_so : (k : State) (c : Call) (item s : List ℕ) → ranges_by (range_by all_bits 1 empty_wait) k c item s ≡ step k c item s
unfolding step_of step accepted refusal later_row table out_of_range
ranges_by_so k c item s = refl

pub events_caught : map found event_mistakes ≡ map verdict event_mistakes
unfolding event_mistakes set_mistakes clear_mistakes wait_mistakes range_mistakes woken_through step_of shows_by same_number same_list same_view trace every all_below foldl up_to values index any kept asked
    bytes_at put_at ordered without count tidy created yielded group_made slip_bits woken_in woken_by all_woken clears_of bits_set store_set awaited store_awaited effect line those begun highest leader
    first chosen to_tail to_head leaves moved moved_if prioritized ruled levels goes_on raised relevelled worked_out out_of_range names_none wrong_size not_for_idle not_with_hold none_free in_use not_his
    his_already count_full not_suspended closes_circle leads_to no_circle within must_wait no_depth no_tick table later_row refusal no_higher runs_fine tables_fine levels_fine listing_fine clock_fine
    uses_fine sound stored answered uses_after after accepted step fresh fresh_uses task_at kind_at holds free_slot free_object woken_if_due wakes counted_on one_tick turned ticked ticks arrives wait_for
events_caught = refl

pub none_waits_so : (w : Wrong) → Memᴰ w event_mistakes → w.step ≡ step → ⊥
none_waits_so = none_of event_mistakes events_caught
