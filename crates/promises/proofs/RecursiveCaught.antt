-- The recursive mutex of the request, computed; and the mistakes that were named are caught, so none of them is the step.
use Prim.Native.Nat.{ℕ, ◌-◌}
use mathlib.Core.Path.{◌≡◌, refl, sym, ap, ◌∙◌}
use mathlib.Core.Bool.{Bool, true, false}
use mathlib.Core.List.{List, [], ◌∷◌, map, Memᴰ}
use lib.Dec.{ltb}
use borrow.Author.Tests.{eqb-true}
use Rattle.std.proofs.Common.{if◌then◌else◌}
use Rattle.lists.specs.Lists.{every, all_below, foldl, up_to, values, index, any, kept}
use Rattle.calls.specs.Door.{fresh_uses, uses_fine}
use Rattle.calls.specs.Behind.{asked}
use Rattle.order.specs.Order.{ordered, without}
use Rattle.order.specs.Tidy.{count, tidy}
use Rattle.chains.specs.Columns.{raised}
use Rattle.chains.specs.Lent.{goes_on, levels}
use Rattle.rules.specs.Effects.{created, mutex_made, removed, taken, handed_to, given_back, given, effect}
use Rattle.rules.specs.Queues.{received, store_received}
use Rattle.rules.specs.Lines.{line, those, begun, highest, leader, first, chosen, to_tail, to_head, leaves}
use Rattle.rules.specs.Loans.{moved, moved_if, ruled, prioritized, relevelled, worked_out}
use Rattle.rows.specs.Asking.{is}
use Rattle.rows.specs.Applies.{out_of_range, names_none, wrong_size, not_for_idle, not_with_hold, none_free, not_his, his_already, count_full, not_suspended, must_wait, no_depth, no_tick, table}
use Rattle.chains.specs.Chains.{within}
use Rattle.rules.specs.Circles.{leads_to, closes_circle, no_circle}
use Rattle.rules.specs.Refusals.{held_or_waited, in_use, later_row, refusal}
use Rattle.rules.specs.Sound.{tables_fine, levels_fine, listing_fine, clock_fine, no_higher, runs_fine, sound}
use Rattle.rules.specs.Steps.{stored, answered, uses_after, may_lend, after, accepted, step}
use Rattle.rules.proofs.KeepEvery.{fresh-sound}
use Rattle.rules.specs.Trace.{trace}
use Rattle.slots.specs.Values.{task_at}
use Rattle.slots.specs.Kinds.{count_of, counting, kind_at}
use Rattle.rules.specs.Tables.{fresh, holds, free_slot, free_object, with_object}
use Rattle.rules.specs.Ticks.{held, ticks, released}
use Rattle.rules.specs.Waits.{arrives, wait_for}
use Rattle.promises.specs.Wrong.{step_of, Wrong, shows_by, same_number, same_list, same_view, found, verdict}
use Rattle.promises.specs.Cases.{Case, ran}
use Rattle.promises.specs.Types.{TaskSlot, ObjSlot, Asked, Call, waiters_of, Kind, Unused, SpentObject, Queue, Mutex, Group, State}
use Rattle.promises.specs.WrongCircles.{refuses_by}
use Rattle.promises.specs.WrongRecursive.{mutex_in, handed_by, given_back_by, gives_by, more_than_once, at_one, at_none, full_by, full_at, recursive_mistakes}
use Rattle.promises.specs.RecursiveCases.{nested, rows_beside, others_take, recursive_cases}
use Rattle.promises.specs.WholeRound.{alone, joined}
use Rattle.promises.proofs.Caught.{none_of}
use Rattle.promises.proofs.Quickly.{ran_quickly, quick_cases}

starts_sound : every (map (λ (c : Case). sound c.start) recursive_cases) ≡ true
unfolding recursive_cases nested rows_beside others_take every
starts_sound = rw fresh-sound

sooner : map ran_quickly recursive_cases ≡ map (λ (c : Case). c.expected) recursive_cases
unfolding recursive_cases nested rows_beside others_take trace step_of may_lend every all_below foldl up_to values index any kept asked ordered without count tidy created mutex_made removed
    taken given received effect line those begun highest leader first chosen to_tail to_head leaves moved moved_if prioritized ruled levels goes_on raised relevelled worked_out out_of_range
    names_none wrong_size not_for_idle not_with_hold none_free held_or_waited in_use not_his his_already count_full not_suspended closes_circle leads_to no_circle within must_wait no_depth no_tick table
    later_row refusal no_higher runs_fine tables_fine levels_fine listing_fine clock_fine uses_fine sound stored store_received answered uses_after after accepted step fresh fresh_uses task_at kind_at
    holds free_slot free_object held released ticks arrives wait_for
sooner = refl

pub recursive_found : map ran recursive_cases ≡ map (λ (c : Case). c.expected) recursive_cases
recursive_found = sym (quick_cases recursive_cases starts_sound) ∙ sooner

-- ── the mistakes
-- with the right counts a give is the effect, worked out
given_back_so : (k : State) (o : ObjSlot) (x : Kind) → given_back_by more_than_once at_one at_none k o x ≡ given_back k o x
given_back_so k o Unused = refl
given_back_so k o SpentObject = refl
given_back_so k o (Queue q) = refl
given_back_so k o (Group b) = refl
given_back_so k o (Mutex s h) = go (ltb 1 (count_of s)) (first k (waiters_of o))
  where
    less : State
    less = with_object k o (Mutex (counting s (count_of s - 1)) h)

    go : (b : Bool) (l : List TaskSlot) → (if b then less else handed_by at_one at_none k o s l) ≡ (if b then less else handed_to k o s l)
    go true l = refl
    go false [] = refl
    go false (t ∷ l) = refl

pub gives_so : (k : State) (a : Asked) → gives_by more_than_once at_one at_none k a ≡ after k a
unfolding after effect given
gives_so k a = go (is 16 a) refl
  where
    go : (b : Bool) → is 16 a ≡ b → (if b then worked_out (given_back_by more_than_once at_one at_none k a.object (mutex_in k a)) else after k a) ≡ after k a
    go true e = rw (eqb-true a.number 16 e) (ap worked_out (given_back_so k a.object (mutex_in k a)))
    go false e = refl

-- with the right test in row 18 it is the step
pub full_so : (k : State) (c : Call) (i s : List ℕ) → refuses_by (full_by (full_at 255)) k c i s ≡ step k c i s
unfolding step_of step accepted refusal later_row table count_full
full_so k c i s = refl

pub recursive_caught : map found recursive_mistakes ≡ map verdict recursive_mistakes
unfolding recursive_mistakes alone joined step_of trace shows_by same_number same_list same_view every all_below foldl up_to values index any kept asked ordered without count
    tidy created mutex_made taken given effect line those begun highest leader first chosen to_tail to_head leaves moved moved_if
    prioritized ruled levels goes_on raised relevelled worked_out out_of_range names_none wrong_size not_for_idle not_with_hold none_free in_use
    not_his his_already count_full not_suspended closes_circle leads_to no_circle within must_wait no_depth no_tick table later_row refusal no_higher runs_fine tables_fine levels_fine listing_fine clock_fine
    uses_fine sound stored answered uses_after after accepted step fresh fresh_uses task_at kind_at holds free_slot free_object held arrives wait_for
recursive_caught = refl

pub none_takes_so : (w : Wrong) → Memᴰ w recursive_mistakes → w.step ≡ step → ⊥
none_takes_so = none_of recursive_mistakes recursive_caught
