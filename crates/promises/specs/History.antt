-- "Start from the fresh kernel and make any calls, refused ones among them."
use Rattle.std.specs.Prelude.{ℕ, ◌+◌, ◌≤◌, ◌≡◌, Bool, false, List, [], ◌∷◌, replicate, if◌then◌else◌}
use Rattle.numbers.specs.declared.TaskSlot.{TaskSlot}
use Rattle.numbers.specs.declared.ObjSlot.{ObjSlot}
use Rattle.numbers.specs.Numbers.{task, idle}
use Rattle.calls.specs.Door.{fresh_uses}
use Rattle.order.specs.Order.{listed, ordered}
use Rattle.order.specs.Tidy.{count}
use Rattle.slots.specs.declared.Place.{Place}
use Rattle.slots.specs.declared.Place.TheVariants.{Ready}
use Rattle.slots.specs.Who.{waiters_of}
use Rattle.slots.specs.Places.{is_free, is_ready, is_delayed, is_waiting, is_suspended, is_blocked, is_listed, waits_on}
use Rattle.slots.specs.Values.{free_task, ready_at, broken_off, in_line, task_at}
use Rattle.slots.specs.Kinds.{unused}
use Rattle.rules.specs.State.{State}
use Rattle.rules.specs.Tables.{fresh}
use Rattle.rules.specs.Lines.{line, those, begun, level}
use Rattle.rules.specs.Trace.{trace, state_after, CallMade, step_made}

-- the kernel after the calls, one after the other
abbrev pub after : State → List CallMade → State
after k ms = state_after k (trace step_made k [] ms)

-- "from the fresh kernel"
abbrev pub reached : List CallMade → State
reached ms = after fresh ms

abbrev pub once : Bool → ℕ
once b = if b then 1 else 0

-- in how many of the four states it is
abbrev pub states : Place → ℕ
states p = once (is_ready p) + once (is_delayed p) + once (is_waiting p) + once (is_suspended p)

pub record Placed (k : State) : Type 0 where
  -- "every existing task is in exactly one of the four states"
  pub one_state : (t : TaskSlot) → is_free (task_at k.tasks t).place ≡ false → states (task_at k.tasks t).place ≡ 1
  -- "and listed only where that state belongs": in the one order each ready, delayed or waiting task once, and no one else
  pub order : (t : TaskSlot) → count t.0 (listed k.order) ≡ once (is_listed (task_at k.tasks t).place)
  -- in the line of its effective priority, once, if it is ready, and else in none
  pub lines : (p : ℕ) (t : TaskSlot) → count t.0 (line k.tasks p (listed k.order)) ≡ once (in_line p (task_at k.tasks t))
  -- in the list of the object that it waits on, once, and in no other
  pub lists : (o : ObjSlot) (t : TaskSlot) → count t.0 (those k.tasks (waiters_of o) (listed k.order)) ≡ once (waits_on o (task_at k.tasks t).place)
  -- in the order of those who began a delay or a wait, once, if it is delayed or waits, and else not at all
  pub remembered : (t : TaskSlot) → count t.0 (begun k.tasks (listed k.order)) ≡ once (is_blocked (task_at k.tasks t).place)
  -- "and unless the scheduler is held no ready task outranks the running one"
  pub not_outranked : k.hold ≡ 0 → (t : TaskSlot) → (task_at k.tasks t).place ≡ Ready → level k.tasks t ≤ level k.tasks k.running

-- a kernel that is not to be: its order lists a suspended task, and a free slot twice, which no line and no list shows
unfoldable pub overlisted : State
overlisted =
    record {
      tasks = ready_at 0 ∷ broken_off (ready_at 3) ∷ replicate 14 free_task;
      objects = replicate 16 unused;
      order = ordered (idle ∷ task 1 ∷ task 5 ∷ task 5 ∷ []);
      running = idle;
      tick = 0;
      hold = 0;
      pended = 0;
      uses = fresh_uses;
    }
