-- P1 to P12: one claim over the whole list, computed by the quicker step.
use mathlib.Core.Path.{◌≡◌, refl, sym, ◌∙◌}
use mathlib.Core.Bool.{true}
use mathlib.Core.List.{map}
use Rattle.lists.specs.Lists.{every, all_below, foldl, up_to, values, index, any, kept}
use Rattle.calls.specs.Door.{fresh_uses, uses_fine}
use Rattle.calls.specs.Behind.{asked}
use Rattle.order.specs.Order.{ordered, without}
use Rattle.order.specs.Tidy.{count, tidy}
use Rattle.items.specs.Bytes.{put_at}
use Rattle.chains.specs.Columns.{raised}
use Rattle.chains.specs.Lent.{goes_on, levels}
use Rattle.rules.specs.Effects.{created, deleted, suspended, resumed, yielded, delayed, queue_made, mutex_made, removed, taken, given, effect}
use Rattle.rules.specs.Parts.{item_at}
use Rattle.rules.specs.Queues.{outlet, sent, store_sent, received, store_received}
use Rattle.rules.specs.Lines.{line, those, begun, highest, leader, first, chosen, to_tail, to_head, leaves}
use Rattle.rules.specs.Loans.{moved, moved_if, ruled, prioritized, relevelled, worked_out, new_priority}
use Rattle.rows.specs.Applies.{out_of_range, names_none, wrong_size, not_for_idle, not_with_hold, none_free, not_his, his_already, count_full, not_suspended, must_wait, no_depth}
use Rattle.chains.specs.Chains.{within}
use Rattle.rules.specs.Circles.{leads_to, closes_circle, no_circle}
use Rattle.rules.specs.Refusals.{held_or_waited, in_use}
use Rattle.rows.specs.Applies.{no_tick, table}
use Rattle.rules.specs.Refusals.{later_row, refusal}
use Rattle.rules.specs.Sound.{tables_fine, levels_fine, listing_fine, clock_fine, no_higher, runs_fine, sound}
use Rattle.rules.specs.Steps.{stored, answered, uses_after, may_lend, after, accepted, step}
use Rattle.rules.specs.Trace.{trace}
use Rattle.slots.specs.Values.{task_at}
use Rattle.slots.specs.Kinds.{kind_at}
use Rattle.rules.specs.Tables.{fresh, holds, free_slot, free_object}
use Rattle.rules.specs.Ticks.{woken_if_due, wakes, counted_on, one_tick, turned, ticked, ticks, released, held}
use Rattle.rules.specs.Waits.{arrives, wait_for}
use Rattle.promises.specs.Wrong.{step_of}
use Rattle.promises.specs.Cases.{Case, ran, p1, p2, p3, p4, p5, p6, p7, p8, p9, p10, p11, p12, cases}
use Rattle.promises.proofs.Quickly.{ran_quickly, quick_cases}

starts_sound : every (map (λ (c : Case). sound c.start) cases) ≡ true
unfolding cases p1 p2 p3 p4 p5 p6 p7 p8 p9 p10 p11 p12 every all_below up_to values kept any ordered count tidy ruled levels goes_on raised no_higher runs_fine tables_fine levels_fine
    listing_fine clock_fine uses_fine no_circle leads_to within sound fresh fresh_uses task_at kind_at holds line
starts_sound = refl

sooner : map ran_quickly cases ≡ map (λ (c : Case). c.expected) cases
unfolding cases p1 p2 p3 p4 p5 p6 p7 p8 p9 p10 p11 p12 trace step_of may_lend every all_below foldl up_to index any kept asked ordered without count tidy put_at created
    deleted suspended resumed yielded delayed queue_made mutex_made removed taken given effect item_at outlet sent store_sent received
    store_received line those begun highest leader first chosen to_tail to_head leaves moved moved_if prioritized new_priority ruled levels goes_on raised values relevelled worked_out out_of_range names_none
    wrong_size not_for_idle not_with_hold none_free held_or_waited in_use not_his his_already count_full not_suspended closes_circle leads_to no_circle within must_wait no_depth no_tick table later_row refusal
    no_higher runs_fine tables_fine levels_fine listing_fine clock_fine uses_fine sound stored answered uses_after after accepted step fresh fresh_uses task_at kind_at
    holds free_slot free_object woken_if_due wakes counted_on one_tick turned ticked ticks released held arrives wait_for
sooner = refl

pub both_sides_of_the_gate : map ran cases ≡ map (λ (c : Case). c.expected) cases
both_sides_of_the_gate = sym (quick_cases cases starts_sound) ∙ sooner
