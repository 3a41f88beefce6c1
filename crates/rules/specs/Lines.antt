-- Lines and lists of waiters: the one order, passed through a test. Who stands first, and who runs.
use Rattle.std.specs.Prelude.{ℕ, ◌≡◌, Bool, ◌||◌, List, [], ◌∷◌, ◌++◌, eqb, if◌then◌else◌}
use Rattle.lists.specs.Lists.{larger, kept, head}
use Rattle.numbers.specs.Numbers.{same_task}
use Rattle.order.specs.Order.{listed, ordered, without}
use Rattle.slots.specs.Places.{is_blocked}
use Rattle.slots.specs.Values.{in_line, task_at}
use Rattle.slots.specs.Leads.{is_who}
use Rattle.rules.specs.Types.{TaskSlot, Task, Who, all_ready, State}
use Rattle.rules.specs.Tables.{with_order, with_running}

-- "Each priority has a line of its ready tasks": the line of p, of the tasks that l lists
unfoldable pub line : List Task → ℕ → List TaskSlot → List TaskSlot
line ts p l = kept (λ t. in_line p (task_at ts t)) l

-- those meant: the ready ones, or an object's waiters, "in order of arrival"
unfoldable pub those : List Task → Who → List TaskSlot → List TaskSlot
those ts w l = kept (λ t. is_who w (task_at ts t).place) l

-- it began a delay or a wait that is not over
abbrev pub has_begun : List Task → TaskSlot → Bool
has_begun ts t = is_blocked (task_at ts t).place

-- "The kernel has to remember that order among delayed and waiting tasks together": whoever began earlier stands earlier
unfoldable pub begun : List Task → List TaskSlot → List TaskSlot
begun ts l = kept (has_begun ts) l

-- of the two, t stands in l first, and then u
abbrev pub is_one_of : TaskSlot → TaskSlot → TaskSlot → Bool
is_one_of t u x = same_task x t || same_task x u

abbrev pub Ahead : TaskSlot → TaskSlot → List TaskSlot → Type 0
Ahead t u l = kept (is_one_of t u) l ≡ t ∷ u ∷ []

-- a task's effective priority; the highest of several, 0 for none
abbrev pub level : List Task → TaskSlot → ℕ
level ts t = (task_at ts t).effective

unfoldable pub highest : List Task → List TaskSlot → ℕ
highest ts [] = 0
highest ts (t ∷ l) = larger (level ts t) (highest ts l)

-- "highest effective priority, then earliest arrival": a list of one, or of none
unfoldable pub leader : List Task → List TaskSlot → List TaskSlot
leader ts l = head (kept (λ t. eqb (level ts t) (highest ts l)) l)

-- of the ready "the head of the highest occupied line"; of an object's waiters the "First waiter"
unfoldable pub first : State → Who → List TaskSlot
first k w = leader k.tasks (those k.tasks w (listed k.order))

-- "Choose. With hold 0, the head of the highest occupied line runs; a task overtaken stays at the head of its line. With a hold, the running task stays."
abbrev pub runs_if : State → List TaskSlot → State
runs_if k [] = k
runs_if k (t ∷ l) = with_running k t

unfoldable pub chosen : State → State
chosen k = if eqb k.hold 0 then runs_if k (first k all_ready) else k

-- to the tail of its line or list; to the head; out of the order
unfoldable pub to_tail : State → TaskSlot → State
to_tail k t = with_order k (ordered (without t (listed k.order) ++ (t ∷ [])))

unfoldable pub to_head : State → TaskSlot → State
to_head k t = with_order k (ordered (t ∷ without t (listed k.order)))

unfoldable pub leaves : State → TaskSlot → State
leaves k t = with_order k (ordered (without t (listed k.order)))
