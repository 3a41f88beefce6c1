-- The wake ticks: how long until the next, and the wakes of one tick.
use Rattle.std.specs.Prelude.{ℕ, min, Bool, ◌&&◌, ◌||◌, List, [], ◌∷◌, ◌++◌, Option, Some, None, eqb, if◌then◌else◌}
use Rattle.lists.specs.Lists.{foldl, any}
use Rattle.numbers.specs.declared.TaskSlot.{TaskSlot}
use Rattle.order.specs.declared.Order.{Order}
use Rattle.order.specs.Order.{listed, ordered, without}
use Rattle.slots.specs.declared.Place.{Place}
use Rattle.slots.specs.declared.Place.TheVariants.{Ready}
use Rattle.slots.specs.declared.Task.{Task}
use Rattle.slots.specs.Places.{is_waiting, wakes_at, outcome_due, away}
use Rattle.slots.specs.Values.{placed}
use Rattle.tasks.specs.declared.Tasks.{Tasks}
use Rattle.tasks.specs.Columns.{row_at, rows_of, put}

-- the states that have a wake tick: delayed, and waiting but not for ever
abbrev pub timed : ℕ → Bool
timed s = eqb s 2 || eqb s 3

-- with which outcome a row in this state is made ready when it is due
abbrev pub ended_of : ℕ → Option ℕ
ended_of s = if eqb s 2 then Some 1 else if eqb s 3 then Some 2 else None

-- the same of the task t, where it is due now
abbrev pub due_in : ℕ → Tasks → TaskSlot → Option ℕ
due_in now ts t = if wakes_at now (row_at ts t.0).place then Some (outcome_due (row_at ts t.0).place) else None

-- how many ticks pass before the one on which a task is next due; 4,294,967,295 where none has a wake tick
unfoldable pub until_in : ℕ → Tasks → ℕ
until_in now ts = foldl (λ n x. min n (away now x.place)) 4294967295 (rows_of ts)

-- some row's wake tick, used or not, is the count
unfoldable pub wake_now : Tasks → ℕ → Bool
wake_now ts now = any (λ w. eqb w now) ts.wake

-- a wait, and no mere delay, ends
abbrev pub wait_ends : ℕ → Place → Bool
wait_ends now p = is_waiting p && wakes_at now p

-- a table and an order: what the wakes of a tick leave, and what is left where effective priorities are worked out
pub record Woken : Type 0 where
  pub tasks : Tasks
  pub order : Order

abbrev pub woken : Tasks → Order → Woken
woken ts o = record { tasks = ts; order = o }

-- a task that is due, as it is when made ready
abbrev pub ready_of : Task → Task
ready_of x = placed x Ready (outcome_due x.place)

abbrev pub tailed : Order → TaskSlot → Order
tailed o t = ordered (without t (listed o) ++ (t ∷ []))

-- the task t, made ready if it is due
unfoldable pub wake_in : ℕ → Woken → TaskSlot → Woken
wake_in now w t =
    if wakes_at now (row_at w.tasks t.0).place
    then woken (put w.tasks t.0 (ready_of (row_at w.tasks t.0))) (tailed w.order t)
    else w

-- of those that l lists the due are made ready, in its order
unfoldable pub wakes_in : ℕ → Woken → List TaskSlot → Woken
wakes_in now w l = foldl (wake_in now) w l
