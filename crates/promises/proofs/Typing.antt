-- P1 as bytes: what the program writes when document 01's session is typed, computed; and so in whatever blocks it is typed.
use Prim.Native.Nat.{ℕ, ◌≤◌}
use mathlib.Core.Path.{◌≡◌, refl, ap, ◌∙◌}
use mathlib.Core.List.{List, [], flatten}
use Rattle.lists.specs.Lists.{every, all_below, foldl, up_to, values, index, any, kept}
use Rattle.calls.specs.Door.{fresh_uses, uses_fine}
use Rattle.calls.specs.Behind.{asked}
use Rattle.order.specs.Order.{ordered, without}
use Rattle.order.specs.Tidy.{count, tidy}
use Rattle.chains.specs.Columns.{raised}
use Rattle.chains.specs.Lent.{goes_on, levels}
use Rattle.rules.specs.Effects.{created, mutex_made, taken, given, effect}
use Rattle.rules.specs.Lines.{line, those, highest, leader, first, chosen, to_tail, to_head, leaves}
use Rattle.rules.specs.Loans.{moved, moved_if, prioritized, ruled, relevelled, worked_out}
use Rattle.rows.specs.Applies.{out_of_range, names_none, wrong_size, not_for_idle, not_with_hold, none_free, not_his, his_already, count_full, not_suspended, must_wait, no_depth, no_tick, table}
use Rattle.chains.specs.Chains.{within}
use Rattle.rules.specs.Circles.{leads_to, closes_circle, no_circle}
use Rattle.rules.specs.Refusals.{in_use, later_row, refusal}
use Rattle.rules.specs.Sound.{tables_fine, levels_fine, listing_fine, clock_fine, no_higher, runs_fine, sound}
use Rattle.rules.specs.Steps.{stored, answered, uses_after, after, accepted, step}
use Rattle.rules.specs.Sessions.{read_line, step_of_line}
use Rattle.rules.specs.Trace.{trace}
use Rattle.slots.specs.Values.{task_at}
use Rattle.slots.specs.Kinds.{kind_at}
use Rattle.rules.specs.Tables.{fresh, holds, free_slot, free_object}
use Rattle.rules.specs.Waits.{arrives, wait_for}
use Rattle.fields.specs.Decimal.{digits, dec}
use Rattle.fields.specs.Digit.{among}
use Rattle.fields.specs.Number.{grow}
use Rattle.calls.specs.Table.{call_of}
use Rattle.calls.specs.Words.{shape_of}
use Rattle.journal.specs.Reader.{nums, read_of}
use Rattle.journal.specs.Reply.{reply}
use Rattle.promises.specs.Program.{lines_of, Answered, answering, answers_to}
use Rattle.promises.specs.Turns.{Turn, after_turns, came_in, after_end, at_start}
use Rattle.promises.specs.Typed.{as_bytes, typed, written}
use Rattle.promises.proofs.LineForLine.{session_is_the_program}

pub p1_as_bytes : answers_to typed ≡ written
unfolding as_bytes typed written lines_of read_line step_of_line trace answering flatten digits dec among grow call_of shape_of nums read_of reply every
    all_below foldl up_to index any kept asked ordered without count tidy created mutex_made taken given effect line those highest leader first
    chosen to_tail to_head leaves moved moved_if prioritized ruled levels goes_on raised values relevelled worked_out out_of_range names_none wrong_size not_for_idle not_with_hold none_free in_use not_his
    his_already count_full not_suspended closes_circle leads_to no_circle within must_wait no_depth no_tick table later_row refusal no_higher runs_fine tables_fine levels_fine listing_fine clock_fine uses_fine
    sound stored answered uses_after after accepted step fresh fresh_uses task_at kind_at holds free_slot free_object arrives wait_for
p1_as_bytes = refl

pub p1_in_any_blocks : (ts : List Turn) → came_in ts ≡ typed → (after_turns at_start ts).waits ≡ [] → (n : ℕ) → 256 ≤ n → (after_end (after_turns at_start ts) n).answers ≡ written
p1_in_any_blocks ts e f n m =
    ap (λ (r : Answered). r.answers) (session_is_the_program ts f n m) ∙ ap answers_to e ∙ p1_as_bytes
