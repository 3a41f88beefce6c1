-- There is a surplus: two sound kernels that are alike and differ in their orders. And the order of those who began is none of it: two sound kernels that
-- differ in that alone, and of which a tick lets another task run.
use Prim.Native.Nat.{ℕ, zero, suc}
use mathlib.Core.Path.{◌≡◌, refl, ap}
use mathlib.Core.Bool.{true}
use mathlib.Core.List.{[]}
use native.Mathlib.Omega.{arith}
use lib.ListN.{get_or, replicate}
use borrow.Author.Tests.{ne_eqb}
use Rattle.lists.specs.Lists.{every, all_below, foldl, up_to, values, any, kept}
use Rattle.numbers.specs.declared.ObjSlot.{ObjSlot}
use Rattle.numbers.specs.Numbers.{task, idle}
use Rattle.calls.specs.declared.Call.TheVariants.{Tick}
use Rattle.calls.specs.Door.{fresh_uses, uses_fine}
use Rattle.calls.specs.Behind.{asked}
use Rattle.order.specs.declared.Order.{Order}
use Rattle.order.specs.Order.{listed, ordered, without}
use Rattle.order.specs.Tidy.{count, tidy}
use Rattle.slots.specs.Who.{waiters_of}
use Rattle.slots.specs.Values.{task_at}
use Rattle.slots.specs.Kinds.{kind_at}
use Rattle.rules.specs.Tables.{holds, with_order}
use Rattle.rules.specs.Lines.{line, those, begun, highest, leader, first, chosen, to_tail}
use Rattle.rules.specs.Sound.{tables_fine, levels_fine, listing_fine, clock_fine, no_higher, runs_fine, sound}
use Rattle.rules.specs.Waits.{arrives}
use Rattle.chains.specs.Lent.{goes_on, levels}
use Rattle.rules.specs.Loans.{moved_if, prioritized, ruled, relevelled, worked_out}
use Rattle.rules.specs.Ticks.{woken_if_due, wakes, counted_on, one_tick, turned, ticked}
use Rattle.rows.specs.Applies.{out_of_range, names_none, wrong_size, not_for_idle, not_with_hold, none_free, not_his, his_already, count_full, not_suspended, must_wait, no_depth, no_tick, table}
use Rattle.chains.specs.Chains.{within}
use Rattle.rules.specs.Circles.{leads_to, closes_circle, no_circle}
use Rattle.rules.specs.Refusals.{in_use, later_row, refusal}
use Rattle.rules.specs.Effects.{effect}
use Rattle.rules.specs.Steps.{after, accepted, step}
use Rattle.promises.specs.Alike.{Alike, idle_first, idle_last, first_began, second_began}

pub two_sound : (sound idle_first ≡ true) × (sound idle_last ≡ true)
unfolding idle_first idle_last sound every all_below any kept ordered count tidy
    task_at kind_at holds line no_higher runs_fine tables_fine levels_fine ruled levels goes_on values up_to listing_fine clock_fine uses_fine fresh_uses no_circle leads_to within
two_sound = (refl, refl)

pub two_alike : Alike idle_first idle_last
unfolding idle_first idle_last line those begun kept task_at ordered
two_alike = record { tasks = refl; objects = refl; running = refl; tick = refl; hold = refl; pended = refl; uses = refl; lines = lines; lists = λ o. refl; begun = refl }
  where
    lines : (p : ℕ) → line idle_first.tasks p (listed idle_first.order) ≡ line idle_last.tasks p (listed idle_last.order)
    lines zero = refl
    lines (suc p) = rw (ne_eqb 0 (suc p) (λ q. omega arith))

pub two_differ : idle_first.order ≡ idle_last.order → ⊥
unfolding idle_first idle_last ordered
two_differ e = let z : ◌≡◌ {A = ℕ} 0 1 = ap (λ (o : Order). (get_or o.places 0 idle).0) e in omega arith

-- ── who began first
pub began_sound : (sound first_began ≡ true) × (sound second_began ≡ true)
unfolding first_began second_began sound every all_below any kept ordered count tidy
    task_at kind_at holds line no_higher runs_fine tables_fine levels_fine ruled levels goes_on values up_to listing_fine clock_fine uses_fine fresh_uses no_circle leads_to within
began_sound = (refl, refl)

-- all is the same but the order, and so is each line and each list
pub same_but_begun : (with_order first_began second_began.order ≡ second_began)
    × (((p : ℕ) → line first_began.tasks p (listed first_began.order) ≡ line second_began.tasks p (listed second_began.order))
    × ((o : ObjSlot) → those first_began.tasks (waiters_of o) (listed first_began.order) ≡ those second_began.tasks (waiters_of o) (listed second_began.order)))
unfolding first_began second_began line those kept task_at ordered
same_but_begun = (refl, (λ p. refl, λ o. refl))

-- so without the field `begun` alike kernels would part
pub order_counts : ((step first_began Tick [] (replicate 9216 0)).kernel.running ≡ task 1) × ((step second_began Tick [] (replicate 9216 0)).kernel.running ≡ task 2)
unfolding first_began second_began step accepted after asked refusal later_row table out_of_range names_none wrong_size not_for_idle not_with_hold none_free in_use
    not_his his_already count_full not_suspended closes_circle leads_to no_circle within must_wait no_depth no_tick sound every all_below any kept foldl ordered without count tidy task_at kind_at holds line those
    begun highest leader first chosen to_tail arrives woken_if_due wakes counted_on one_tick turned ticked effect no_higher runs_fine tables_fine levels_fine listing_fine
    clock_fine uses_fine fresh_uses ruled levels goes_on values up_to relevelled worked_out prioritized moved_if
order_counts = (refl, refl)
