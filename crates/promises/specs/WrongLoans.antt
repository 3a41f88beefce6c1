-- Mistakes in the effective priorities: each is the step with one mistake made, with a few calls that tell the two apart.
use Rattle.std.specs.Prelude.{ℕ, true, List, [], ◌∷◌, ◌++◌, eqb, get_or, if◌then◌else◌}
use Rattle.lists.specs.Lists.{foldl, up_to, values, larger}
use Rattle.numbers.specs.Numbers.{task}
use Rattle.calls.specs.Named.{task_of, object_of}
use Rattle.calls.specs.Behind.{asked}
use Rattle.calls.specs.Said.{done, made}
use Rattle.order.specs.Order.{listed}
use Rattle.chains.specs.Lent.{goes_on}
use Rattle.slots.specs.Places.{is_ready}
use Rattle.slots.specs.Values.{levelled, task_at}
use Rattle.rows.specs.Asking.{is}
use Rattle.rules.specs.Tables.{holds, with_task}
use Rattle.rules.specs.Lines.{level, chosen, to_tail}
use Rattle.rules.specs.Loans.{waits_for, ruled, prioritized, worked_out}
use Rattle.rules.specs.Ticks.{counted_on, turned_if}
use Rattle.rules.specs.Refusals.{later_row}
use Rattle.rules.specs.Effects.{effect}
use Rattle.rules.specs.Steps.{after, stored}
use Rattle.promises.specs.Types.{TaskSlot, Create, Suspend, SetPriority, Delay, Yield, Hold, Release, MakeMutex, Take, Tick, Asked, State}
use Rattle.promises.specs.Cases.{view}
use Rattle.promises.specs.Wrong.{Stepping, step_of, step_by, uses_then, ticked_by, released_by, by_number, Wrong, fails, says_nothing}

-- "It is worked out afresh before choose, and after each tick's wakes": what a call does, with `each` after each tick's wakes and `last` before choose
abbrev pub works_by : (State → State) → (State → State) → State → Asked → State
works_by each last k a =
    let count : State → State = λ j. each (counted_on j) in
    last (
    if is 17 a then ticked_by count k
    else if is 9 a then released_by count k
    else if is 18 a then up_to (λ x i. turned_if true (count x)) a.ticks k
    else effect k a)

-- a step with another working-out in both places; a kernel in which an effective priority is not the rule's is not sound, so it does not ask that
abbrev pub lends_by : (State → State) → Stepping
lends_by works = step_of asked later_row (works_by works works) chosen stored uses_then

-- a working-out of other parts: the number that each slot gets, the order in which they get them, and what is done to each
abbrev pub works_out : (State → List ℕ) → (State → List TaskSlot) → (State → TaskSlot → ℕ → State) → State → State
works_out numbers along gives k = let ls = numbers k in foldl (λ j t. gives j t (get_or ls t.0 0)) k (along k)

-- the right numbers; `by_number` and `prioritized` are the other right parts
abbrev pub by_the_rule : State → List ℕ
by_the_rule k = ruled k.tasks k.objects

-- what each slot owns, has, and for whom it waits
abbrev pub own_of : State → ℕ → ℕ
own_of k n = (task_at k.tasks (task n)).own

abbrev pub level_of : State → ℕ → ℕ
level_of k n = level k.tasks (task n)

abbrev pub next_of : State → ℕ → ℕ
next_of k n = (waits_for k.tasks k.objects (task n)).0

-- "directly or along a chain of holders": over one link only
abbrev pub one_link : State → List ℕ
one_link k = up_to (λ ls n. goes_on (next_of k) 1 (next_of k n) (own_of k n) ls) 16 (values (own_of k) 16)

-- "In place of document 01's one lasting step": who holds a mutex keeps what it had
abbrev pub lasting : State → List ℕ
lasting k = let ls = by_the_rule k in values (λ n. if holds k.objects (task n) then larger (level_of k n) (get_or ls n 0) else get_or ls n 0) 16

-- "tasks whose line changes move in order of task number": in order of arrival, and then those who stand nowhere
abbrev pub as_arrived : State → List TaskSlot
as_arrived k = listed k.order ++ by_number k

-- "moves to the new line, at the head if running": at the tail always
abbrev pub to_the_tail : State → TaskSlot → ℕ → State
to_the_tail k t eff =
    let x = task_at k.tasks t in
    let j = with_task k t (levelled x eff) in
    if is_ready x.place then (if eqb x.effective eff then j else to_tail j t) else j

-- those who are not ready keep theirs
abbrev pub only_ready : State → TaskSlot → ℕ → State
only_ready k t eff = if is_ready (task_at k.tasks t).place then prioritized k t eff else k

-- "call 5 follows it too": only the task that is named gets another
abbrev pub set_alone : State → Asked → State
set_alone k a =
    let j = effect k a in
    if is 5 a then prioritized j a.task (get_or (by_the_rule j) a.task.0 0) else after k a

unfoldable pub loan_mistakes : List Wrong
loan_mistakes =
    -- task 3 waits for 2, which waits for 1: task 1 has 6, and task 4 does not overtake it
    fails (lends_by (works_out one_link by_number prioritized))
    (Create 3 ∷ MakeMutex ∷ MakeMutex ∷ Take (object_of 0) 0 ∷ Create 4 ∷ Take (object_of 1) 0 ∷ Take (object_of 0) 9 ∷ Create 6 ∷ Take (object_of 1) 9 ∷ Create 5 ∷ [])
    says_nothing
    (view made 4 1 [])
    (view made 4 4 [])
    -- task 2's wait ends; once it is suspended, task 3 goes before task 1, which has its own 3 again
    ∷ fails (lends_by (works_out lasting by_number prioritized))
    (Create 3 ∷ MakeMutex ∷ Take (object_of 0) 0 ∷ Create 5 ∷ Take (object_of 0) 1 ∷ Tick ∷ Create 4 ∷ Suspend (task_of 2) ∷ [])
    says_nothing
    (view done 0 3 [])
    (view done 0 1 [])
    -- the first pended tick ends task 3's wait for task 1, so that 1 is back in its line before the second wakes task 2
    ∷ fails (step_by (works_by (λ k. k) worked_out) chosen)
    (Create 3 ∷ MakeMutex ∷ Take (object_of 0) 0 ∷ Create 3 ∷ Yield ∷ Delay 2 ∷ Create 5 ∷ Take (object_of 0) 1 ∷ Create 6
    ∷ Hold ∷ Tick ∷ Tick ∷ Release ∷ Suspend (task_of 3) ∷ Suspend (task_of 4) ∷ [])
    says_nothing
    (view done 0 1 [])
    (view done 0 2 [])
    -- one tick ends two waits, for tasks 1 and 2, of which 2 stands first
    ∷ fails (step_by (works_by (works_out by_the_rule as_arrived prioritized) (works_out by_the_rule as_arrived prioritized)) chosen)
    (Create 3 ∷ MakeMutex ∷ MakeMutex ∷ Take (object_of 0) 0 ∷ Create 3 ∷ Yield ∷ Take (object_of 1) 0 ∷ Create 5 ∷ Take (object_of 1) 1
    ∷ Create 5 ∷ Yield ∷ Take (object_of 0) 1 ∷ Create 6 ∷ Tick ∷ Suspend (task_of 3) ∷ Suspend (task_of 4) ∷ Suspend (task_of 5) ∷ [])
    says_nothing
    (view done 0 1 [])
    (view done 0 2 [])
    -- task 1, which runs, comes into task 2's line
    ∷ fails (step_by (works_by (works_out by_the_rule by_number to_the_tail) (works_out by_the_rule by_number to_the_tail)) chosen)
    (Create 5 ∷ Create 3 ∷ SetPriority (task_of 1) 3 ∷ [])
    says_nothing
    (view done 0 1 [])
    (view done 0 2 [])
    -- task 1 is delayed when task 2 begins to wait for it, and is woken before task 3 in their line
    ∷ fails (lends_by (works_out by_the_rule by_number only_ready))
    (Create 3 ∷ MakeMutex ∷ Take (object_of 0) 0 ∷ Delay 1 ∷ Create 5 ∷ Create 5 ∷ Take (object_of 0) 9 ∷ Delay 1 ∷ Tick ∷ [])
    says_nothing
    (view done 0 1 [])
    (view done 0 3 [])
    -- task 2, which waits for task 1, is set to 6, so that task 1 goes before task 3
    ∷ fails (step_of asked later_row set_alone chosen stored uses_then)
    (Create 3 ∷ MakeMutex ∷ Take (object_of 0) 0 ∷ Create 4 ∷ Take (object_of 0) 9 ∷ Create 5 ∷ SetPriority (task_of 2) 6 ∷ [])
    says_nothing
    (view done 0 1 [])
    (view done 0 3 [])
    ∷ []
