-- What the walks of an order and of the rows find, in the words of the rules; and what they test in numbers.
use Rattle.std.specs.Prelude.{ℕ, Bool, ◌&&◌, ◌||◌, List, [], ◌∷◌, eqb, Option, Some, None}
use Rattle.lists.specs.Lists.{foldl, any, kept}
use Rattle.numbers.specs.declared.TaskSlot.{TaskSlot}
use Rattle.numbers.specs.declared.ObjSlot.{ObjSlot}
use Rattle.heights.specs.declared.Lines.{Lines}
use Rattle.heights.specs.Heights.{occupied, largest}
use Rattle.slots.specs.declared.Want.{Want}
use Rattle.slots.specs.declared.Task.{Task}
use Rattle.slots.specs.Who.{Who, all_ready, waiters_of, those_satisfied_on}
use Rattle.slots.specs.declared.Lead.{Lead}
use Rattle.slots.specs.Places.{is_ready, waits_on}
use Rattle.slots.specs.Wants.{satisfied}
use Rattle.slots.specs.Leads.{better}
use Rattle.slots.specs.Values.{in_line}
use Rattle.tasks.specs.declared.Tasks.{Tasks}
use Rattle.tasks.specs.Columns.{row_at, rows_of}

-- those who wait on an object; where there are bits, those of them that the bits satisfy
abbrev pub who_on : ObjSlot → Option ℕ → Who
who_on x None = waiters_of x
who_on x (Some b) = those_satisfied_on x b

-- the best of those meant, among those that `l` lists
unfoldable pub lead_in : Tasks → Who → List TaskSlot → Option Lead
lead_in ts w l = foldl (λ b t. better w b t (row_at ts t.0)) None l

-- the line of priority p, of those that `l` lists; who stands first in it, u where nobody does
unfoldable pub line_in : Tasks → ℕ → List TaskSlot → List TaskSlot
line_in ts p l = kept (λ t. in_line p (row_at ts t.0)) l

abbrev pub head_or : List TaskSlot → TaskSlot → TaskSlot
head_or [] u = u
head_or (t ∷ l) u = t

-- of a listed task, whether it is ready, and its priority
abbrev pub ready_at : Tasks → TaskSlot → Bool
ready_at ts t = is_ready (row_at ts t.0).place

abbrev pub level_at : Tasks → TaskSlot → ℕ
level_at ts t = (row_at ts t.0).effective

-- the lines that the ready of those that `l` lists stand in; the highest of them, 0 for none
unfoldable pub lines_in : Tasks → List TaskSlot → Lines
lines_in ts l = occupied (ready_at ts) (level_at ts) l

unfoldable pub top_in : Tasks → List TaskSlot → ℕ
top_in ts l = largest (level_at ts) (kept (ready_at ts) l)

-- some row waits on the object
unfoldable pub waited_in : Tasks → ObjSlot → Bool
waited_in ts o = any (λ (x : Task). waits_on o x.place) (rows_of ts)

-- who is meant, in numbers
abbrev pub is_meant : Who → ℕ → ℕ → Want → Bool
is_meant all_ready s o w = eqb s 1
is_meant (waiters_of x) s o w = (eqb s 3 || eqb s 4) && eqb o x.0
is_meant (those_satisfied_on x b) s o w = ((eqb s 3 || eqb s 4) && eqb o x.0) && satisfied b w
