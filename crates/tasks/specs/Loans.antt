-- The effective priorities: what they are by the chains of waits, and what becomes of the tasks and their order where they change.
use Rattle.std.specs.Prelude.{ℕ, ◌≡◌, Bool, ◌&&◌, List, ◌∷◌, eqb, ltb, length, get_or, if◌then◌else◌}
use Rattle.lists.specs.Lists.{all_below, up_to, values}
use Rattle.chains.specs.Chains.{within, ends, largest_own}
use Rattle.chains.specs.declared.AllLent.{AllLent}
use Rattle.chains.specs.Columns.{says}
use Rattle.numbers.specs.declared.TaskSlot.{TaskSlot}
use Rattle.numbers.specs.Numbers.{task, same_task}
use Rattle.order.specs.declared.Order.{Order}
use Rattle.order.specs.Order.{listed, ordered, without}
use Rattle.slots.specs.Places.{is_ready, waited_on}
use Rattle.tasks.specs.declared.Tasks.{Tasks}
use Rattle.tasks.specs.Columns.{row_at, rows_of, levelled_at}
use Rattle.tasks.specs.Dues.{Woken, woken, tailed}

-- whom the row s waits for, where `by` has the holder of each object
abbrev pub next_in : Tasks → List ℕ → ℕ → ℕ
next_in ts by s = says by (waited_on (row_at ts s).place)

-- for each row the largest own priority along the chains that lead to it
unfoldable pub levels_in : Tasks → List ℕ → List ℕ
levels_in ts by = values (λ u. largest_own (λ s. (row_at ts s).own) (next_in ts by) u) 16

-- each row waits for someone whose chain ends
unfoldable pub ended_in : Tasks → List ℕ → Bool
ended_in ts by = all_below 16 (λ s. ends (next_in ts by) 16 (next_in ts by s))

-- the chain from h leads to the row u
unfoldable pub reaches_in : Tasks → List ℕ → ℕ → ℕ → Bool
reaches_in ts by h u = ltb u 16 && within (next_in ts by) 16 h u

abbrev pub fronted : Order → TaskSlot → Order
fronted o t = ordered (t ∷ without t (listed o))

-- whose level has changed goes to the tail of its new line, and the running task r to the front
abbrev pub moved : Order → TaskSlot → TaskSlot → Order
moved o t r = if same_task t r then fronted o t else tailed o t

-- the row n gets its level: where that is another, a ready task goes to the tail of its new line, and the running task r to the front
unfoldable pub level_in : TaskSlot → List ℕ → Woken → ℕ → Woken
level_in r ls w n =
    if eqb (row_at w.tasks n).effective (get_or ls n 0)
    then w
    else woken (levelled_at w.tasks n (get_or ls n 0))
    (if is_ready (row_at w.tasks n).place then moved w.order (task n) r else w.order)

-- all sixteen, from the lowest slot on
unfoldable pub worked_in : TaskSlot → List ℕ → Woken → Woken
worked_in r by w = up_to (level_in r (levels_in w.tasks by)) 16 w

-- the object that each row waits on; 16 for none
abbrev pub ontos_in : Tasks → List ℕ
ontos_in ts = values (λ i. waited_on (row_at ts i).place) 16

pub record OntosAre (ts : Tasks) (r : List ℕ) : Type 0 where
  pub said : r ≡ ontos_in ts

-- all that is answered of the levels
pub record LevelsAre (ts : Tasks) (by : List ℕ) (r : AllLent) : Type 0 where
  pub many : length (rows_of ts) ≡ 16
  pub said : r.levels ≡ levels_in ts by
  pub ended : r.ended ≡ ended_in ts by

-- all that is answered
pub record Worked (ts : Tasks) (o : Order) (by : List ℕ) (r : TaskSlot) (w : Woken) : Type 0 where
  pub many : length (rows_of ts) ≡ 16
  pub said : w ≡ worked_in r by (woken ts o)
