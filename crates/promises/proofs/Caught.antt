-- The idle programs, the easy mistakes, the mistakes of numbers, of the highest line, of the order of wakes and of an advance are caught: one claim over the whole list,
-- computed; so none of them is the step.
use Prim.Native.Nat.{ℕ, zero, suc}
use mathlib.Core.Path.{◌≡◌, refl, ap, sym, ◌∙◌}
use mathlib.Core.Bool.{Bool, true, false, not, false≢true}
use mathlib.Core.List.Memᴰ
use mathlib.Core.List.{List, [], ◌∷◌, map, Memᴰ}
use mathlib.Core.Logic.{⊎_elim}
use lib.Count.{count_leading_zeros, count_trailing_zeros}
use borrow.Author.Tests.{eqb-true}
use Rattle.heights.specs.Heights.{lit, top, height, occupied}
use Rattle.std.proofs.Common.{if◌then◌else◌}
use Rattle.lists.specs.Lists.{every, all_below, foldl, up_to, values, index, any, kept}
use Rattle.calls.specs.Door.{fresh_uses, uses_fine}
use Rattle.calls.specs.Behind.{asked}
use Rattle.order.specs.Order.{ordered, without}
use Rattle.order.specs.Tidy.{count, tidy}
use Rattle.items.specs.Bytes.{put_at}
use Rattle.promises.specs.Types.{Asked, Call, State}
use Rattle.promises.specs.Cases.{View}
use Rattle.promises.specs.Wrong.{Stepping, uses_then, step_of, step_by, Numbers, turns_all_away, always_done, changes_nothing, as_begun, one_tick_by, ticked_by, released_by, made_up, Wrong, shows_by, of_word}
use Rattle.promises.specs.Wrong.{same_number, same_list, same_view, Verdict, found, verdict, idle_programs, easy_mistakes, number_mistakes, chosen_by, line_mistakes, wakes_along, wake_mistakes}
use Rattle.promises.specs.Wrong.{advances_by, as_asked, all_begun, nothing_more, advance_mistakes, wrongs}
use Rattle.chains.specs.Columns.{raised}
use Rattle.chains.specs.Lent.{goes_on, levels}
use Rattle.rules.specs.Effects.{created, deleted, suspended, resumed, yielded, delayed, queue_made, mutex_made, removed, taken, given, effect}
use Rattle.rules.specs.Parts.{item_at}
use Rattle.rules.specs.Queues.{outlet, sent, store_sent, received, store_received}
use Rattle.rules.specs.Lines.{line, those, begun, highest, leader, first, chosen, to_tail, to_head, leaves}
use Rattle.rules.specs.Occupied.{lines_of}
use Rattle.rules.proofs.LineHeights.{height_highest}
use Rattle.rules.proofs.LineLeads.{first_heads_highest}
use Rattle.rules.specs.Loans.{moved, moved_if, ruled, prioritized, relevelled, worked_out, new_priority}
use Rattle.rows.specs.Asking.{is}
use Rattle.rows.specs.Applies.{out_of_range, names_none, wrong_size, not_for_idle, not_with_hold, none_free, not_his, his_already, count_full, not_suspended, must_wait, no_depth}
use Rattle.chains.specs.Chains.{within}
use Rattle.rules.specs.Circles.{leads_to, closes_circle, no_circle}
use Rattle.rules.specs.Refusals.{held_or_waited, in_use}
use Rattle.rows.specs.Applies.{no_tick, table}
use Rattle.rules.specs.Refusals.{later_row, refusal}
use Rattle.rules.specs.Sound.{tables_fine, levels_fine, listing_fine, clock_fine, no_higher, runs_fine, sound}
use Rattle.rules.specs.Steps.{stored, answered, uses_after, after, accepted, step}
use Rattle.rules.specs.Trace.{trace}
use Rattle.slots.specs.Values.{task_at}
use Rattle.slots.specs.Kinds.{kind_at}
use Rattle.rules.specs.Tables.{fresh, holds, free_slot, free_object}
use Rattle.rules.specs.Ticks.{woken_if_due, wakes, counted_on, one_tick, turned, turned_if, ticked, ticks, released, held, advanced}
use Rattle.rules.specs.Waits.{arrives, wait_for}

-- what is changed is changed in the step itself: with the kernel's own parts the frame is the step
pub frame : (k : State) (c : Call) (i s : List ℕ) → step_of asked refusal after chosen stored uses_then k c i s ≡ step k c i s
unfolding step_of step accepted
frame k c i s = refl

-- with the right line, and whoever stands first in it, it is choose
pub chosen_by-height : (k : State) → chosen_by (λ j. height (lines_of j)) k ≡ chosen k
unfolding chosen
chosen_by-height k = rw (height_highest k, first_heads_highest k)

-- along the list of those who began, at a tick and at a release, it is the effect, worked out
pub wakes_as_begun : (k : State) (a : Asked) → wakes_along as_begun k a ≡ after k a
unfolding after effect one_tick counted_on ticked ticks released
wakes_as_begun k a = go (is 17 a) refl (is 9 a) refl
  where
    count : State → State
    count = one_tick_by (λ j. wakes j (as_begun j))

    go : (b : Bool) → is 17 a ≡ b → (c : Bool) → is 9 a ≡ c
        → (if b then worked_out (ticked_by count k) else if c then worked_out (released_by count k) else after k a) ≡ after k a
    go true e c f = rw (eqb-true a.number 17 e)
    go false e true f = rw (eqb-true a.number 9 f)
    go false e false f = refl

-- with the right parts an advance is the effect
pub advances_as_asked : (k : State) (a : Asked) → advances_by as_asked all_begun (turned_if true) nothing_more k a ≡ after k a
unfolding after effect one_tick counted_on ticks advanced
advances_as_asked k a = go (is 18 a) refl
  where
    go : (b : Bool) → is 18 a ≡ b → (if b then worked_out (ticks true a.ticks k) else after k a) ≡ after k a
    go true e = rw (eqb-true a.number 18 e)
    go false e = refl

pub caught : (number : Numbers) (n : ℕ) → map found (wrongs number n) ≡ map verdict (wrongs number n)
unfolding wrongs idle_programs easy_mistakes number_mistakes line_mistakes wake_mistakes advance_mistakes lines_of occupied lit top count_leading_zeros count_trailing_zeros step_of turns_all_away
    always_done changes_nothing trace shows_by same_number same_list same_view every all_below foldl up_to values index any kept asked ordered without count tidy
    put_at created deleted suspended resumed yielded delayed queue_made mutex_made removed taken given effect item_at outlet sent store_sent
    received store_received line those begun highest leader first chosen to_tail to_head leaves moved moved_if prioritized new_priority ruled levels goes_on raised relevelled worked_out out_of_range
    names_none wrong_size not_for_idle not_with_hold none_free held_or_waited in_use not_his his_already count_full not_suspended closes_circle leads_to no_circle within must_wait no_depth no_tick table later_row
    refusal no_higher runs_fine tables_fine levels_fine listing_fine clock_fine uses_fine sound stored answered uses_after after accepted step fresh fresh_uses
    task_at kind_at holds free_slot free_object woken_if_due wakes counted_on one_tick turned ticked ticks released held advanced arrives wait_for
caught number n = refl

same_number_lem : (n : ℕ) → same_number n n ≡ true
unfolding same_number
same_number_lem zero = refl
same_number_lem (suc n) = same_number_lem n

same_list_lem : (xs : List ℕ) → same_list xs xs ≡ true
unfolding same_list
same_list_lem [] = refl
same_list_lem (x ∷ xs) = rw (same_number_lem x, same_list_lem xs)

same_view_lem : (x : View) → same_view x x ≡ true
unfolding same_view
same_view_lem x = rw (same_number_lem (of_word x.answer.word), same_number_lem x.answer.number, same_number_lem x.running, same_list_lem x.looked)

-- where all that is said of a wrong step is found, it is not the step
not_the_step : (w : Wrong) → found w ≡ verdict w → w.step ≡ step → ⊥
not_the_step w h e =
    let shown : w.wrong ≡ w.right = sym (ap (λ (v : Verdict). v.wrong) h) ∙ (ap (λ (f : Stepping). shows_by f w) e ∙ ap (λ (v : Verdict). v.right) h) in
    let apart : not (same_view w.right w.wrong) ≡ true = ap (λ (v : Verdict). v.apart) h in
    false≢true (ap not (sym (same_view_lem w.right)) ∙ rw shown at apart)

-- so it is with each of a list
pub none_of : (ws : List Wrong) → map found ws ≡ map verdict ws → (w : Wrong) → Memᴰ w ws → w.step ≡ step → ⊥
none_of [] h w m = absurd (Memᴰ.not-nil m)
none_of (x ∷ ws) h w m =
    let front : found x ≡ verdict x = cc in
    let rest : map found ws ≡ map verdict ws = cc in
    ⊎_elim (λ e. not_the_step w (rw e front)) (λ n. none_of ws rest w n) (Memᴰ.cases_cons m)

pub none_is_the_step : (number : Numbers) (n : ℕ) (w : Wrong) → Memᴰ w (wrongs number n) → w.step ≡ step → ⊥
none_is_the_step number n = none_of (wrongs number n) (caught number n)

-- "One that turns every call away": whatever numbers it gives
pub none_turns_all_away : (number : Numbers) → turns_all_away number ≡ step → ⊥
unfolding wrongs idle_programs
none_turns_all_away number = none_is_the_step number 0 _ (Memᴰ.head refl)

past_five : {a b c d e w : Wrong} {ws : List Wrong} → Memᴰ w ws → Memᴰ w (a ∷ b ∷ c ∷ d ∷ e ∷ ws)
past_five m = Memᴰ.tail (Memᴰ.tail (Memᴰ.tail (Memᴰ.tail (Memᴰ.tail m))))

-- "One that keeps a made-up pended count": whatever the count
pub none_keeps_a_count : (n : ℕ) → step_by (made_up n) chosen ≡ step → ⊥
unfolding wrongs idle_programs
none_keeps_a_count zero = none_is_the_step (λ k c item s. 0) 0 _ (past_five (Memᴰ.head refl))
none_keeps_a_count (suc zero) = none_is_the_step (λ k c item s. 0) 0 _ (past_five (Memᴰ.tail (Memᴰ.head refl)))
none_keeps_a_count (suc (suc n)) = none_is_the_step (λ k c item s. 0) n _ (past_five (Memᴰ.tail (Memᴰ.tail (Memᴰ.head refl))))
