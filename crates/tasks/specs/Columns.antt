-- The table as a list of tasks, in the words of the rules; and as the columns that stand for it.
use Rattle.std.specs.Prelude.{ℕ, List, map, length, get_or, set}
use Rattle.lists.specs.Lists.{index, values}
use Rattle.slots.specs.declared.Want.{Want}
use Rattle.slots.specs.declared.Place.{Place}
use Rattle.slots.specs.declared.Task.{Task}
use Rattle.slots.specs.Places.{takes_task}
use Rattle.tasks.specs.declared.Tasks.{Tasks}
use Rattle.tasks.specs.Masks.{wants_of, want_put, want_at}
use Rattle.tasks.specs.Numbering.{cells, cells_of, place_of}

-- a task's numbers
abbrev pub state_of : Task → ℕ
state_of x = (cells_of x.place).state

abbrev pub object_cell : Task → ℕ
object_cell x = (cells_of x.place).object

abbrev pub wake_cell : Task → ℕ
wake_cell x = (cells_of x.place).wake

abbrev pub want_cell : Task → Want
want_cell x = (cells_of x.place).want

-- the columns that stand for a list of tasks
unfoldable pub tasks_of : List Task → Tasks
tasks_of xs =
    record {
      state = map state_of xs;
      object = map object_cell xs;
      wake = map wake_cell xs;
      wants = wants_of (map want_cell xs);
      own = map (λ (x : Task). x.own) xs;
      effective = map (λ (x : Task). x.effective) xs;
      outcome = map (λ (x : Task). x.outcome) xs;
    }

-- the columns with the row `n` changed
unfoldable pub put : Tasks → ℕ → Task → Tasks
put ts n x =
    record {
      state = set ts.state n (state_of x);
      object = set ts.object n (object_cell x);
      wake = set ts.wake n (wake_cell x);
      wants = want_put ts.wants n (want_cell x);
      own = set ts.own n x.own;
      effective = set ts.effective n x.effective;
      outcome = set ts.outcome n x.outcome;
    }

-- the columns with another place and outcome in the row `n`
unfoldable pub placed_at : Tasks → ℕ → Place → ℕ → Tasks
placed_at ts n p o =
    record {
      state = set ts.state n (cells_of p).state;
      object = set ts.object n (cells_of p).object;
      wake = set ts.wake n (cells_of p).wake;
      wants = want_put ts.wants n (cells_of p).want;
      own = ts.own;
      effective = ts.effective;
      outcome = set ts.outcome n o;
    }

-- the columns with another own priority in the row `n`, and with another effective one
unfoldable pub owned_at : Tasks → ℕ → ℕ → Tasks
owned_at ts n own =
    record {
      state = ts.state;
      object = ts.object;
      wake = ts.wake;
      wants = ts.wants;
      own = set ts.own n own;
      effective = ts.effective;
      outcome = ts.outcome;
    }

unfoldable pub levelled_at : Tasks → ℕ → ℕ → Tasks
levelled_at ts n effective =
    record {
      state = ts.state;
      object = ts.object;
      wake = ts.wake;
      wants = ts.wants;
      own = ts.own;
      effective = set ts.effective n effective;
      outcome = ts.outcome;
    }

-- the task that the row `n` says
unfoldable pub row_at : Tasks → ℕ → Task
row_at ts n =
    record {
      place = place_of (cells (get_or ts.state n 0) (get_or ts.object n 0) (get_or ts.wake n 0) (want_at ts.wants n));
      own = get_or ts.own n 0;
      effective = get_or ts.effective n 0;
      outcome = get_or ts.outcome n 0;
    }

-- the table as a list
unfoldable pub rows_of : Tasks → List Task
rows_of ts = values (row_at ts) (length ts.state)

-- the lowest row that a create may take; their number where there is none
unfoldable pub free_in : Tasks → ℕ
free_in ts = index (λ (x : Task). takes_task x.place) (rows_of ts)
