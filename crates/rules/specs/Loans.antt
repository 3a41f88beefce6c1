-- How a priority comes about: given to the task, and lent along the chain of those who wait.
use Rattle.std.specs.Prelude.{ℕ, ◌<◌, ◌≡◌, Bool, List, eqb, get_or, if◌then◌else◌}
use Rattle.lists.specs.Lists.{up_to}
use Rattle.numbers.specs.Numbers.{task, same_task}
use Rattle.chains.specs.Lent.{levels}
use Rattle.slots.specs.Places.{is_ready, of_blocked}
use Rattle.slots.specs.Kinds.{holder_of, kind_at}
use Rattle.slots.specs.Values.{owned, levelled, task_at}
use Rattle.rules.specs.Types.{TaskSlot, Place, Task, Object, State}
use Rattle.rules.specs.Tables.{with_task}
use Rattle.rules.specs.Lines.{level, to_tail, to_head}

-- whom a task in that place waits for: the holder of the mutex that it waits on; a number past the table for nobody
abbrev pub for_whom : List Object → Place → TaskSlot
for_whom os p = of_blocked (task 16) (λ w. task 16) (λ x w. holder_of (kind_at os x.object)) p

abbrev pub waits_for : List Task → List Object → TaskSlot → TaskSlot
waits_for ts os t = for_whom os (task_at ts t).place

-- "A task's loan goes to the mutex it waits on, and that mutex passes it to its holder, and so on": the effective priority of each slot, which is the largest own priority
-- of all who reach it (`LargestOwn` in Sentences.antt)
unfoldable pub ruled : List Task → List Object → List ℕ
ruled ts os = levels (λ n. (task_at ts (task n)).own) (λ n. (waits_for ts os (task n)).0)

-- each effective priority is the rule's
abbrev pub Reckoned : List Task → List Object → Type 0
Reckoned ts os = (t : TaskSlot) → t.0 < 16 → level ts t ≡ get_or (ruled ts os) t.0 0

-- "A ready task whose effective priority changes moves to the new line, at the head if running, else at the tail; unchanged, it stays."
unfoldable pub moved : State → TaskSlot → State
moved k t = if same_task t k.running then to_head k t else to_tail k t

unfoldable pub moved_if : Bool → Bool → State → TaskSlot → State
moved_if ready unchanged k t = if ready then (if unchanged then k else moved k t) else k

-- the effective priority changed
unfoldable pub prioritized : State → TaskSlot → ℕ → State
prioritized k t eff = moved_if (is_ready (task_at k.tasks t).place) (eqb (level k.tasks t) eff) (with_task k t (levelled (task_at k.tasks t) eff)) t

-- each slot gets its own of these; "tasks whose line changes move in order of task number"
unfoldable pub relevelled : List ℕ → State → State
relevelled ls k = up_to (λ j n. prioritized j (task n) (get_or ls n 0)) 16 k

-- "It is worked out afresh"
unfoldable pub worked_out : State → State
worked_out k = let ls = ruled k.tasks k.objects in relevelled ls k

-- 5: "own changes"; the rule does the rest
unfoldable pub new_priority : State → TaskSlot → ℕ → State
new_priority k t p = with_task k t (owned (task_at k.tasks t) p)
