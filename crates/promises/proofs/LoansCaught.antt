-- The mistakes in the effective priorities are caught: one claim over the whole list, computed; so none of them is the step.
use Prim.Native.Nat.{ℕ}
use mathlib.Core.Path.{◌≡◌, refl}
use mathlib.Core.Bool.{Bool, true, false}
use mathlib.Core.List.{List, map, Memᴰ}
use borrow.Author.Tests.{eqb-true}
use Rattle.std.proofs.Common.{if◌then◌else◌}
use Rattle.lists.specs.Lists.{every, all_below, foldl, up_to, values, index, any, kept}
use Rattle.calls.specs.Door.{fresh_uses, uses_fine}
use Rattle.calls.specs.Behind.{asked}
use Rattle.order.specs.Order.{ordered, without}
use Rattle.order.specs.Tidy.{count, tidy}
use Rattle.promises.specs.Types.{Asked, Call, State}
use Rattle.chains.specs.Columns.{raised}
use Rattle.chains.specs.Lent.{goes_on, levels}
use Rattle.rules.specs.Effects.{created, suspended, yielded, delayed, mutex_made, taken, effect}
use Rattle.rules.specs.Lines.{line, those, begun, highest, leader, first, chosen, to_tail, to_head, leaves}
use Rattle.rules.specs.Loans.{moved, moved_if, ruled, prioritized, relevelled, worked_out, new_priority}
use Rattle.rows.specs.Asking.{is}
use Rattle.rows.specs.Applies.{out_of_range, names_none, wrong_size, not_for_idle, not_with_hold, none_free, not_his, his_already, count_full, not_suspended, must_wait, no_depth, no_tick, table}
use Rattle.chains.specs.Chains.{within}
use Rattle.rules.specs.Circles.{leads_to, closes_circle, no_circle}
use Rattle.rules.specs.Refusals.{in_use, later_row, refusal}
use Rattle.rules.specs.Sound.{tables_fine, levels_fine, listing_fine, clock_fine, no_higher, runs_fine, sound}
use Rattle.rules.specs.Steps.{stored, answered, uses_after, after, accepted, step}
use Rattle.rules.specs.Trace.{trace}
use Rattle.slots.specs.Values.{task_at}
use Rattle.slots.specs.Kinds.{kind_at}
use Rattle.rules.specs.Tables.{fresh, holds, free_slot, free_object}
use Rattle.rules.specs.Ticks.{woken_if_due, wakes, counted_on, one_tick, turned, ticked, ticks, released, held, advanced}
use Rattle.rules.specs.Waits.{arrives, wait_for}
use Rattle.promises.specs.Wrong.{step_of, ticked_by, released_by, by_number, Wrong, shows_by, same_number, same_list, same_view, found, verdict}
use Rattle.promises.specs.WrongLoans.{works_by, lends_by, works_out, by_the_rule, loan_mistakes}
use Rattle.promises.proofs.Caught.{none_of}

-- with the right numbers, order and moves they are worked out as the rules say
pub works_out_so : (k : State) → works_out by_the_rule by_number prioritized k ≡ worked_out k
unfolding worked_out relevelled up_to foldl values
works_out_so k = refl

-- after each tick's wakes and before choose: it is the effect, worked out
pub works_so : (k : State) (a : Asked) → works_by worked_out worked_out k a ≡ after k a
unfolding after effect one_tick ticked ticks released advanced
works_so k a = go (is 17 a) refl (is 9 a) refl (is 18 a) refl
  where
    count : State → State
    count = λ j. worked_out (counted_on j)

    go : (b : Bool) → is 17 a ≡ b → (c : Bool) → is 9 a ≡ c → (d : Bool) → is 18 a ≡ d
        → worked_out (if b then ticked_by count k else if c then released_by count k else if d then ticks true a.ticks k else effect k a) ≡ after k a
    go true e c f d g = rw (eqb-true a.number 17 e)
    go false e true f d g = rw (eqb-true a.number 9 f)
    go false e false f true g = rw (eqb-true a.number 18 g)
    go false e false f false g = refl

-- and in a sound kernel it is the step
pub lends_so : (k : State) (c : Call) (i s : List ℕ) → sound k ≡ true → lends_by worked_out k c i s ≡ step k c i s
unfolding step_of step accepted refusal
lends_so k c i s e = rw (works_so k (asked k.uses c), e)

pub loans_caught : map found loan_mistakes ≡ map verdict loan_mistakes
unfolding loan_mistakes step_of trace shows_by same_number same_list same_view every all_below foldl up_to values index any kept asked ordered without count
    tidy created suspended yielded delayed mutex_made taken effect line those begun highest leader first chosen to_tail to_head leaves moved moved_if
    prioritized new_priority ruled levels goes_on raised relevelled worked_out out_of_range names_none wrong_size not_for_idle not_with_hold none_free in_use
    not_his his_already count_full not_suspended closes_circle leads_to no_circle within must_wait no_depth no_tick table later_row refusal no_higher runs_fine tables_fine levels_fine listing_fine clock_fine
    uses_fine sound stored answered uses_after after accepted step fresh fresh_uses task_at kind_at holds free_slot free_object woken_if_due wakes counted_on
    one_tick turned ticked ticks released held arrives wait_for
loans_caught = refl

pub none_lends_so : (w : Wrong) → Memᴰ w loan_mistakes → w.step ≡ step → ⊥
none_lends_so = none_of loan_mistakes loans_caught
