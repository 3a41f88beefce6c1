-- "whoever began its delay or wait earlier": the moment at which the present one began, and what that moment decides.
use Rattle.std.specs.Prelude.{ℕ, suc, ◌<◌, ◌≡◌, Bool, true, false, not, ◌&&◌, List, [], ◌∷◌, ◌++◌, eqb, length, if◌then◌else◌}
use Rattle.lists.specs.Lists.{any}
use Rattle.calls.specs.Table.{called}
use Rattle.order.specs.Order.{listed}
use Rattle.slots.specs.Places.{wakes_at}
use Rattle.slots.specs.Values.{in_line, task_at}
use Rattle.rules.specs.Tables.{with_tick, with_hold}
use Rattle.rules.specs.Lines.{line, has_begun, begun, Ahead, level}
use Rattle.rules.specs.Waits.{later}
use Rattle.rules.specs.Ticks.{ReadyFirst, ticks}
use Rattle.rules.specs.Trace.{Moment, CallMade}
use Rattle.promises.specs.History.{reached}
use Rattle.histories.specs.Types.{TaskSlot, Call, State}
use Rattle.histories.specs.Moments.{moments}

-- it is delayed or waits after the moment, and did neither before
abbrev pub begins : TaskSlot → Moment CallMade → Bool
begins t m = has_begun m.gave.kernel.tasks t && not (has_begun m.before.tasks t)

-- the last moment at which it began, told by how many came before it; the latest stands first
unfoldable pub began_at : TaskSlot → List (Moment CallMade) → ℕ
began_at t [] = 0
began_at t (m ∷ earlier) = if begins t m then length earlier else began_at t earlier

-- after these calls from the fresh kernel each delay and each wait has the moment at which it began, and no two have the same
pub record EachBegan (ms : List CallMade) : Type 0 where
  pub some : (t : TaskSlot) → has_begun (reached ms).tasks t ≡ true → any (begins t) (moments ms) ≡ true
  pub apart : (t u : TaskSlot) → has_begun (reached ms).tasks t ≡ true → has_begun (reached ms).tasks u ≡ true → began_at t (moments ms) ≡ began_at u (moments ms) → t ≡ u

-- two tasks that are due on the same tick, w, of which the one "began its delay or wait earlier"
pub record Earlier (ms : List CallMade) (w : ℕ) (t u : TaskSlot) : Type 0 where
  pub first_due : wakes_at w (task_at (reached ms).tasks t).place ≡ true
  pub second_due : wakes_at w (task_at (reached ms).tasks u).place ≡ true
  pub sooner : began_at t (moments ms) < began_at u (moments ms)

-- the next tick of k, if it is the one on which both are due and the delay or wait of u has not ended before, makes t ready first
abbrev pub WakesFirst : ℕ → TaskSlot → TaskSlot → State → Type 0
WakesFirst w t u k = later k.tick 1 ≡ w → has_begun k.tasks u ≡ true → ReadyFirst t u (with_tick k w) (begun k.tasks (listed k.order))

-- from k to j: where both had the effective priority p and both stand in the line of p, t stands ahead. Of other lines this is not said: who is woken on the tick on which its
-- loan ends joins the line of the effective priority that it had, and from there "tasks whose line changes move in order of task number" (`loan_ends` in Meters.antt)
abbrev pub AheadIfBoth : ℕ → TaskSlot → TaskSlot → State → State → Type 0
AheadIfBoth p t u k j =
    level k.tasks t ≡ p → level k.tasks u ≡ p → in_line p (task_at j.tasks t) ≡ true → in_line p (task_at j.tasks u) ≡ true
    → Ahead t u (line j.tasks p (listed j.order))

-- the call is an advance
abbrev pub advances : Call → Bool
advances c = eqb (called c).number 18

-- "Among tasks due on one tick, make ready first whoever began its delay or wait earlier", "for a tick and for release", and so for each tick of an advance
pub record WokenInOrder (ms : List CallMade) (w : ℕ) (t u : TaskSlot) : Type 0 where
  -- the order that is remembered says so
  pub remembered : Ahead t u (begun (reached ms).tasks (listed (reached ms).order))
  -- a tick makes it ready first
  pub at_tick : later (reached ms).tick 1 ≡ w → ReadyFirst t u (with_tick (reached ms) w) (begun (reached ms).tasks (listed (reached ms).order))
  -- so does the pended tick of a release on which both are due, after i others
  pub at_release : (i : ℕ) → WakesFirst w t u (ticks false i (with_hold (reached ms) 0 0))
  -- so does the tick of an advance on which both are due, after i others, each with its turn of the line
  pub at_advance : (i : ℕ) → (reached ms).hold ≡ 0 → WakesFirst w t u (ticks true i (reached ms))
  -- so it stands ahead where both join the line of the effective priority that they had, whatever the call after which they stand there, but for an advance: there more ticks
  -- may come, and turn the line
  pub in_line : (m : CallMade) (p : ℕ) → advances m.call ≡ false → AheadIfBoth p t u (reached ms) (reached (ms ++ (m ∷ [])))
  -- in an advance it stands ahead after the tick, behind i others, that ends the delay or wait of u
  pub in_advance : (i p : ℕ) → (reached ms).hold ≡ 0 → has_begun (ticks true i (reached ms)).tasks u ≡ true
      → AheadIfBoth p t u (ticks true i (reached ms)) (ticks true (suc i) (reached ms))
