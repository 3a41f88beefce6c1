-- Computed histories: loans along the chain; slots used again; and two meters due together.
use mathlib.Core.Path.{◌≡◌, refl}
use mathlib.Core.Bool.{true, false}
use mathlib.Core.List.{[], ◌∷◌, map}
use Rattle.lists.specs.Lists.{every, all_below, foldl, up_to, values, index, any, kept}
use Rattle.chains.specs.Columns.{raised}
use Rattle.chains.specs.Lent.{goes_on, levels}
use Rattle.calls.specs.Door.{fresh_uses, uses_fine}
use Rattle.calls.specs.Behind.{asked}
use Rattle.order.specs.Order.{ordered, without}
use Rattle.order.specs.Tidy.{count, tidy}
use Rattle.items.specs.Bytes.{put_at}
use Rattle.rules.specs.Effects.{created, deleted, suspended, resumed, yielded, delayed, queue_made, mutex_made, removed, taken, given, effect}
use Rattle.rules.specs.Parts.{item_at}
use Rattle.rules.specs.Queues.{outlet, sent, store_sent, received, store_received}
use Rattle.rules.specs.Lines.{line, those, begun, highest, leader, first, chosen, to_tail, to_head, leaves}
use Rattle.rules.specs.Loans.{ruled, moved, moved_if, prioritized, relevelled, worked_out, new_priority}
use Rattle.rows.specs.Applies.{out_of_range, names_none, wrong_size, not_for_idle, not_with_hold, none_free, not_his, his_already, count_full, not_suspended, must_wait, no_depth}
use Rattle.chains.specs.Chains.{within}
use Rattle.rules.specs.Circles.{leads_to, closes_circle, no_circle}
use Rattle.rules.specs.Refusals.{held_or_waited, in_use}
use Rattle.rows.specs.Applies.{no_tick, table}
use Rattle.rules.specs.Refusals.{later_row, refusal}
use Rattle.rules.specs.Sound.{tables_fine, levels_fine, listing_fine, clock_fine, no_higher, runs_fine, sound}
use Rattle.rules.specs.Steps.{stored, answered, uses_after, after, accepted, step}
use Rattle.rules.specs.Trace.{trace, step_made}
use Rattle.slots.specs.Values.{task_at}
use Rattle.slots.specs.Kinds.{kind_at}
use Rattle.rules.specs.Tables.{fresh, holds, free_slot, free_object}
use Rattle.rules.specs.Ticks.{woken_if_due, wakes, counted_on, one_tick, turned, ticked, ticks, released, held, advanced}
use Rattle.rules.specs.Waits.{arrives, wait_for}
use Rattle.promises.specs.History.{reached}
use Rattle.promises.specs.Advance.{wakings}
use Rattle.histories.specs.Moments.{unlent}
use Rattle.histories.specs.Tales.{shown_after, Fits, chain_of_three, first_give, set_with_loan, time_runs_out, two_loans_end, refused_circle, three_links, handed_with_waiter, waiter_set_lower}
use Rattle.histories.specs.Tales.{waiters_gone, refused_change, slot_used_again}
use Rattle.histories.specs.Again.{names_task, names_object, made_task, made_object, used_again, at_each}
use Rattle.histories.specs.Given.{given_to, last_given_to}
use Rattle.histories.specs.Earlier.{began_at}
use Rattle.histories.specs.Meters.{meters_by, as_the_slots, against_the_slots, longer_first, waiter_first, delay_first, delays_released, waiter_released, delays_advanced, waiter_advanced, loan_ends}
use Rattle.histories.specs.Meters.{each_its_own_tick}

pub record TalesFit : Type 0 where
  -- the tag task has the record writer's priority
  pub chain_of_three : Fits chain_of_three
  -- a loan ends with the give, whatever else the giver holds
  pub ends_at_the_give : Fits first_give
  -- a change below a loan is heard of when the loan ends, one above it at once
  pub set_with_loan : Fits set_with_loan
  -- a loan ends with the wait
  pub ends_with_the_wait : Fits time_runs_out
  pub two_on_one_tick : Fits two_loans_end
  -- a take that would close a circle lends nothing
  pub refused_circle : Fits refused_circle
  -- a change of a waiter goes along the chain
  pub three_links : Fits three_links
  -- who waited already when the mutex was handed on lends to the new holder
  pub handed_with_waiter : Fits handed_with_waiter
  pub waiter_set_lower : Fits waiter_set_lower
  pub waiters_gone : Fits waiters_gone
  -- a refused change gives nothing
  pub not_if_refused : Fits refused_change
  -- a slot used again is another task
  pub another_task : Fits slot_used_again

pub tales_fit : TalesFit
unfolding trace shown_after chain_of_three first_give set_with_loan time_runs_out two_loans_end refused_circle three_links handed_with_waiter waiter_set_lower waiters_gone refused_change slot_used_again
    given_to last_given_to every all_below foldl up_to index any kept asked ordered without count tidy put_at created deleted suspended
    resumed yielded delayed queue_made mutex_made removed taken given effect after item_at outlet sent store_sent received store_received line those begun
    highest leader first chosen to_tail to_head leaves values goes_on raised levels ruled moved moved_if prioritized relevelled worked_out new_priority out_of_range names_none wrong_size not_for_idle
    not_with_hold none_free held_or_waited in_use not_his his_already count_full not_suspended closes_circle leads_to no_circle within must_wait no_depth no_tick table later_row refusal no_higher runs_fine tables_fine
    levels_fine listing_fine clock_fine uses_fine sound stored answered uses_after accepted step fresh fresh_uses task_at kind_at holds free_slot free_object
    woken_if_due wakes counted_on one_tick turned ticked ticks released held arrives wait_for
tales_fit = record {
  chain_of_three = refl;
  ends_at_the_give = refl;
  set_with_loan = refl;
  ends_with_the_wait = refl;
  two_on_one_tick = refl;
  refused_circle = refl;
  three_links = refl;
  handed_with_waiter = refl;
  waiter_set_lower = refl;
  waiters_gone = refl;
  not_if_refused = refl;
  another_task = refl;
}

-- each slot is used again, with another number
pub record AgainFits : Type 0 where
  pub first_made : at_each (λ m. made_task m 1) ≡ true ∷ false ∷ false ∷ false ∷ false ∷ false ∷ []
  pub first_named : at_each (λ m. names_task m.gave.kernel 1) ≡ true ∷ false ∷ false ∷ false ∷ false ∷ false ∷ []
  pub second_made : at_each (λ m. made_task m 17) ≡ false ∷ false ∷ true ∷ false ∷ false ∷ false ∷ []
  pub second_named : at_each (λ m. names_task m.gave.kernel 17) ≡ false ∷ false ∷ true ∷ true ∷ true ∷ true ∷ []
  pub first_mutex : at_each (λ m. made_object m 0) ≡ false ∷ false ∷ false ∷ true ∷ false ∷ false ∷ []
  pub first_mutex_named : at_each (λ m. names_object m.gave.kernel 0) ≡ false ∷ false ∷ false ∷ true ∷ false ∷ false ∷ []
  pub second_mutex : at_each (λ m. made_object m 16) ≡ false ∷ false ∷ false ∷ false ∷ false ∷ true ∷ []
  pub second_mutex_named : at_each (λ m. names_object m.gave.kernel 16) ≡ false ∷ false ∷ false ∷ false ∷ false ∷ true ∷ []
  -- each number is given what its own create says
  pub first_given : map (given_to 1) (trace step_made fresh [] (map unlent used_again)) ≡ (3 ∷ []) ∷ [] ∷ [] ∷ [] ∷ [] ∷ [] ∷ []
  pub second_given : map (given_to 17) (trace step_made fresh [] (map unlent used_again)) ≡ [] ∷ [] ∷ (5 ∷ []) ∷ [] ∷ [] ∷ [] ∷ []

pub again_fits : AgainFits
unfolding trace used_again given_to every all_below foldl up_to index any kept asked ordered without count tidy put_at created deleted suspended
    resumed yielded delayed queue_made mutex_made removed taken given effect after item_at outlet sent store_sent received store_received line those begun
    highest leader first chosen to_tail to_head leaves values goes_on raised levels ruled moved moved_if prioritized relevelled worked_out new_priority out_of_range names_none wrong_size not_for_idle
    not_with_hold none_free held_or_waited in_use not_his his_already count_full not_suspended closes_circle leads_to no_circle within must_wait no_depth no_tick table later_row refusal no_higher runs_fine tables_fine
    levels_fine listing_fine clock_fine uses_fine sound stored answered uses_after accepted step fresh fresh_uses task_at kind_at holds free_slot free_object
    woken_if_due wakes counted_on one_tick turned ticked ticks released held arrives wait_for
again_fits = record {
  first_made = refl;
  first_named = refl;
  second_made = refl;
  second_named = refl;
  first_mutex = refl;
  first_mutex_named = refl;
  second_mutex = refl;
  second_mutex_named = refl;
  first_given = refl;
  second_given = refl;
}

-- of two meters due on one tick the one that began earlier runs first
pub record MetersFit : Type 0 where
  pub as_the_slots : meters_by as_the_slots ≡ as_the_slots.expected
  pub against_the_slots : meters_by against_the_slots ≡ against_the_slots.expected
  pub longer_first : meters_by longer_first ≡ longer_first.expected
  pub waiter_first : meters_by waiter_first ≡ waiter_first.expected
  pub delay_first : meters_by delay_first ≡ delay_first.expected
  pub delays_released : meters_by delays_released ≡ delays_released.expected
  pub waiter_released : meters_by waiter_released ≡ waiter_released.expected
  pub delays_advanced : meters_by delays_advanced ≡ delays_advanced.expected
  pub waiter_advanced : meters_by waiter_advanced ≡ waiter_advanced.expected
  -- but for one that has a loan which ends on that tick
  pub loan_ends : meters_by loan_ends ≡ loan_ends.expected

pub meters_fit : MetersFit
unfolding trace as_the_slots against_the_slots longer_first waiter_first delay_first delays_released waiter_released delays_advanced waiter_advanced loan_ends began_at advanced
    every all_below foldl up_to index any kept asked ordered without count tidy put_at created deleted suspended
    resumed yielded delayed queue_made mutex_made removed taken given effect after item_at outlet sent store_sent received store_received line those begun
    highest leader first chosen to_tail to_head leaves values goes_on raised levels ruled moved moved_if prioritized relevelled worked_out new_priority out_of_range names_none wrong_size not_for_idle
    not_with_hold none_free held_or_waited in_use not_his his_already count_full not_suspended closes_circle leads_to no_circle within must_wait no_depth no_tick table later_row refusal no_higher runs_fine tables_fine
    levels_fine listing_fine clock_fine uses_fine sound stored answered uses_after accepted step fresh fresh_uses task_at kind_at holds free_slot free_object
    woken_if_due wakes counted_on one_tick turned ticked ticks released held arrives wait_for
meters_fit = record {
  as_the_slots = refl;
  against_the_slots = refl;
  longer_first = refl;
  waiter_first = refl;
  delay_first = refl;
  delays_released = refl;
  waiter_released = refl;
  delays_advanced = refl;
  waiter_advanced = refl;
  loan_ends = refl;
}

-- of 16 ticks fifteen wake a meter, and of no number more
pub fifteen_wake : wakings true 16 (reached (map unlent each_its_own_tick)) ≡ 15
unfolding wakings trace each_its_own_tick advanced every all_below foldl up_to index any kept asked ordered without count tidy put_at created deleted suspended
    resumed yielded delayed queue_made mutex_made removed taken given effect after item_at outlet sent store_sent received store_received line those begun
    highest leader first chosen to_tail to_head leaves values goes_on raised levels ruled moved moved_if prioritized relevelled worked_out new_priority out_of_range names_none wrong_size not_for_idle
    not_with_hold none_free held_or_waited in_use not_his his_already count_full not_suspended closes_circle leads_to no_circle within must_wait no_depth no_tick table later_row refusal no_higher runs_fine tables_fine
    levels_fine listing_fine clock_fine uses_fine sound stored answered uses_after accepted step fresh fresh_uses task_at kind_at holds free_slot free_object
    woken_if_due wakes counted_on one_tick turned ticked ticks released held arrives wait_for
fifteen_wake = refl
