-- The circles that were named are refused and the chains are not, computed; and the mistakes in refusal 17 are caught, so none of them is the step.
use Prim.Native.Nat.{ℕ}
use mathlib.Core.Path.{◌≡◌, refl, sym, ◌∙◌}
use mathlib.Core.Bool.{true}
use mathlib.Core.List.{List, map, Memᴰ}
use Rattle.lists.specs.Lists.{every, all_below, foldl, up_to, values, index, any, kept}
use Rattle.calls.specs.Door.{fresh_uses, uses_fine}
use Rattle.calls.specs.Behind.{asked}
use Rattle.order.specs.Order.{ordered, without}
use Rattle.order.specs.Tidy.{count, tidy}
use Rattle.promises.specs.Types.{Call, State}
use Rattle.chains.specs.Columns.{raised}
use Rattle.chains.specs.Lent.{goes_on, levels}
use Rattle.rules.specs.Effects.{created, queue_made, mutex_made, taken, given, effect}
use Rattle.rules.specs.Queues.{received, store_received}
use Rattle.rules.specs.Lines.{line, those, begun, highest, leader, first, chosen, to_tail, to_head, leaves}
use Rattle.rules.specs.Loans.{moved, moved_if, ruled, prioritized, relevelled, worked_out}
use Rattle.rows.specs.Applies.{out_of_range, names_none, wrong_size, not_for_idle, not_with_hold, none_free, not_his, his_already, count_full, not_suspended, must_wait, no_depth, no_tick, table}
use Rattle.chains.specs.Chains.{within}
use Rattle.rules.specs.Circles.{leads_to, closes_circle, no_circle}
use Rattle.rules.specs.Refusals.{in_use, later_row, refusal}
use Rattle.rules.specs.Sound.{tables_fine, levels_fine, listing_fine, clock_fine, no_higher, runs_fine, sound}
use Rattle.rules.specs.Steps.{stored, answered, uses_after, may_lend, after, accepted, step}
use Rattle.rules.proofs.KeepEvery.{fresh-sound}
use Rattle.rules.specs.Trace.{trace}
use Rattle.slots.specs.Values.{task_at}
use Rattle.slots.specs.Kinds.{kind_at}
use Rattle.rules.specs.Tables.{fresh, holds, free_slot, free_object}
use Rattle.rules.specs.Ticks.{held}
use Rattle.rules.specs.Waits.{arrives, wait_for}
use Rattle.promises.specs.Wrong.{step_of, Wrong, shows_by, same_number, same_list, same_view, found, verdict}
use Rattle.promises.specs.Cases.{Case, ran}
use Rattle.promises.specs.CircleCases.{circle_of_two, circle_of_three, chain_of_fifteen, circle_of_fifteen, same_mutex_twice, rows_around, ends_at_a_Queue, circle_cases}
use Rattle.promises.specs.WrongCircles.{refuses_by, circle_by, circle_mistakes}
use Rattle.promises.proofs.Caught.{none_of}
use Rattle.promises.proofs.Quickly.{ran_quickly, quick_cases}

-- with the right test in row 17 it is the step
pub refuses_so : (k : State) (c : Call) (i s : List ℕ) → refuses_by (circle_by closes_circle) k c i s ≡ step k c i s
unfolding step_of step accepted refusal later_row
refuses_so k c i s = refl

starts_sound : every (map (λ (c : Case). sound c.start) circle_cases) ≡ true
unfolding circle_cases circle_of_two circle_of_three chain_of_fifteen circle_of_fifteen same_mutex_twice rows_around ends_at_a_Queue every
starts_sound = rw fresh-sound

sooner : map ran_quickly circle_cases ≡ map (λ (c : Case). c.expected) circle_cases
unfolding circle_cases circle_of_two circle_of_three chain_of_fifteen circle_of_fifteen same_mutex_twice rows_around ends_at_a_Queue trace step_of may_lend every all_below foldl up_to values index any kept asked
    ordered without count tidy created queue_made mutex_made taken given received effect line those begun highest leader first chosen to_tail to_head leaves moved moved_if
    prioritized ruled levels goes_on raised relevelled worked_out out_of_range names_none wrong_size not_for_idle not_with_hold none_free in_use not_his his_already count_full not_suspended
    closes_circle leads_to no_circle within must_wait no_depth no_tick table later_row refusal no_higher runs_fine tables_fine levels_fine listing_fine clock_fine uses_fine sound stored store_received answered
    uses_after after accepted step fresh fresh_uses task_at kind_at holds free_slot free_object held arrives wait_for
sooner = refl

pub circles_found : map ran circle_cases ≡ map (λ (c : Case). c.expected) circle_cases
circles_found = sym (quick_cases circle_cases starts_sound) ∙ sooner

pub circles_caught : map found circle_mistakes ≡ map verdict circle_mistakes
unfolding circle_mistakes step_of trace shows_by same_number same_list same_view every all_below foldl up_to values index any kept asked ordered without count
    tidy created mutex_made taken effect line those begun highest leader first chosen to_tail to_head leaves moved moved_if
    prioritized ruled levels goes_on raised relevelled worked_out out_of_range names_none wrong_size not_for_idle not_with_hold none_free in_use
    not_his his_already count_full not_suspended closes_circle leads_to no_circle within must_wait no_depth no_tick table later_row refusal no_higher runs_fine tables_fine levels_fine listing_fine clock_fine
    uses_fine sound stored answered uses_after after accepted step fresh fresh_uses task_at kind_at holds free_slot free_object held arrives wait_for
circles_caught = refl

pub none_refuses_so : (w : Wrong) → Memᴰ w circle_mistakes → w.step ≡ step → ⊥
none_refuses_so = none_of circle_mistakes circles_caught
