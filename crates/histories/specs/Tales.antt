-- Histories of loans: calls, and after each of them the own and the effective priorities of some tasks.
use Rattle.std.specs.Prelude.{ℕ, ◌≡◌, List, [], ◌∷◌, ◌++◌, map, get_or, replicate, if◌then◌else◌}
use Rattle.calls.specs.Named.{task_of, object_of}
use Rattle.slots.specs.Values.{task_at}
use Rattle.rules.specs.Tables.{fresh}
use Rattle.rules.specs.Lines.{level}
use Rattle.rules.specs.Loans.{ruled}
use Rattle.rules.specs.Trace.{Moment, trace, CallMade, step_made}
use Rattle.histories.specs.Types.{State, Call, Create, Delete, Suspend, Resume, SetPriority, MakeMutex, Take, Give, Tick}
use Rattle.histories.specs.Moments.{unlent}
use Rattle.histories.specs.Again.{names_task}
use Rattle.histories.specs.ByFullNumber.{slot_of}
use Rattle.histories.specs.Given.{last_given_to}

-- of the task of the number, after a call: the own priority that the kernel has and the one that the history says, the effective one that the kernel has and the rule's, of
-- those of every slot; nothing where there is no such task
abbrev pub shown_of : State → List (Moment CallMade) → List ℕ → ℕ → List ℕ
shown_of k past rules n =
    let t = slot_of k n in
    if names_task k n then (task_at k.tasks t).own ∷ last_given_to n past ∷ level k.tasks t ∷ get_or rules t.0 0 ∷ [] else []

abbrev pub shown_in : List ℕ → State → List (Moment CallMade) → List (List ℕ)
shown_in ns k past = map (shown_of k past (ruled k.tasks k.objects)) ns

-- moment after moment, each with its past
unfoldable pub shown_after : List ℕ → List (Moment CallMade) → List (Moment CallMade) → List (List (List ℕ))
shown_after ns past [] = []
shown_after ns past (m ∷ ms) = shown_in ns m.gave.kernel (m ∷ past) ∷ shown_after ns (m ∷ past) ms

-- a call, and what is to be shown after it
pub record Line : Type 0 where
  pub call : Call
  pub shows : List (List ℕ)

-- the tasks by their numbers
pub record Tale : Type 0 where
  pub tasks : List ℕ
  pub lines : List Line

-- from the fresh kernel
abbrev pub shown_by : Tale → List (List (List ℕ))
shown_by w = shown_after w.tasks [] (trace step_made fresh [] (map (λ (l : Line). unlent l.call) w.lines))

abbrev pub expected : Tale → List (List (List ℕ))
expected w = map (λ (l : Line). l.shows) w.lines

-- after each call the kernel has what is written down, and the history and the rule say the same
abbrev pub Fits : Tale → Type 0
Fits w = shown_by w ≡ expected w

-- the call, and then two tasks, three or four
abbrev pub two : Call → List ℕ → List ℕ → Line
two c a b = record { call = c; shows = a ∷ b ∷ [] }

abbrev pub three : Call → List ℕ → List ℕ → List ℕ → Line
three c a b d = record { call = c; shows = a ∷ b ∷ d ∷ [] }

abbrev pub four : Call → List ℕ → List ℕ → List ℕ → List ℕ → Line
four c a b d e = record { call = c; shows = a ∷ b ∷ d ∷ e ∷ [] }

-- this own priority and this effective one, on which all agree; there is no such task
abbrev pub has : ℕ → ℕ → List ℕ
has p q = p ∷ p ∷ q ∷ q ∷ []

abbrev pub gone : List ℕ
gone = []

-- task 1, alone and of priority 3, makes n mutexes and takes the first
abbrev pub first_holds : (Call → Line) → ℕ → List Line
first_holds line n = line (Create 3) ∷ (replicate n (line MakeMutex) ++ (line (Take (object_of 0) 0) ∷ []))

-- "The record writer waited on the meter task, which waited on the tag task": tag task 1, meter task 2, record writer 3
unfoldable pub chain_of_three : Tale
chain_of_three = record {
  tasks = 1 ∷ 2 ∷ 3 ∷ [];
  lines =
      first_holds (λ c. three c (has 3 3) gone gone) 2
      ++ (three (Create 5) (has 3 3) (has 5 5) gone
      ∷ three (Take (object_of 1) 0) (has 3 3) (has 5 5) gone
      ∷ three (Take (object_of 0) 10) (has 3 5) (has 5 5) gone
      ∷ three (Create 9) (has 3 5) (has 5 5) (has 9 9)
      ∷ three (Take (object_of 1) 10) (has 3 9) (has 5 9) (has 9 9)
      ∷ three (Give (object_of 0)) (has 3 3) (has 5 9) (has 9 9)
      ∷ three (Give (object_of 1)) (has 3 3) (has 5 5) (has 9 9)
      ∷ []);
}

-- of two mutexes task 1 gives the one on which task 2 waits: it keeps nothing of the loan, though it holds the other
unfoldable pub first_give : Tale
first_give = record {
  tasks = 1 ∷ 2 ∷ [];
  lines =
      first_holds (λ c. two c (has 3 3) gone) 2
      ++ (two (Take (object_of 1) 0) (has 3 3) gone
      ∷ two (Create 5) (has 3 3) (has 5 5)
      ∷ two (Take (object_of 0) 10) (has 3 5) (has 5 5)
      ∷ two (Give (object_of 0)) (has 3 3) (has 5 5)
      ∷ []);
}

-- with a loan of 5 task 1 is set to 2, to 7 and to 4: it "keeps only what its waiters lend"
unfoldable pub set_with_loan : Tale
set_with_loan = record {
  tasks = 1 ∷ 2 ∷ [];
  lines =
      first_holds (λ c. two c (has 3 3) gone) 1
      ++ (two (Create 5) (has 3 3) (has 5 5)
      ∷ two (Take (object_of 0) 10) (has 3 5) (has 5 5)
      ∷ two (SetPriority (task_of 1) 2) (has 2 5) (has 5 5)
      ∷ two (SetPriority (task_of 1) 7) (has 7 7) (has 5 5)
      ∷ two (SetPriority (task_of 1) 4) (has 4 5) (has 5 5)
      ∷ two (Give (object_of 0)) (has 4 4) (has 5 5)
      ∷ []);
}

-- the waiter's time runs out: the loan ends, and the holder keeps its mutex, on which the next take waits again
unfoldable pub time_runs_out : Tale
time_runs_out = record {
  tasks = 1 ∷ 2 ∷ [];
  lines =
      first_holds (λ c. two c (has 3 3) gone) 1
      ++ (two (Create 5) (has 3 3) (has 5 5)
      ∷ two (Take (object_of 0) 1) (has 3 5) (has 5 5)
      ∷ two Tick (has 3 3) (has 5 5)
      ∷ two (Take (object_of 0) 1) (has 3 5) (has 5 5)
      ∷ []);
}

-- tasks 3 and 4 wait for tasks 1 and 2 until the same tick
unfoldable pub two_loans_end : Tale
two_loans_end = record {
  tasks = 1 ∷ 2 ∷ 3 ∷ 4 ∷ [];
  lines =
      first_holds (λ c. four c (has 3 3) gone gone gone) 2
      ++ (four (Create 4) (has 3 3) (has 4 4) gone gone
      ∷ four (Take (object_of 1) 0) (has 3 3) (has 4 4) gone gone
      ∷ four (Create 8) (has 3 3) (has 4 4) (has 8 8) gone
      ∷ four (Take (object_of 0) 1) (has 3 8) (has 4 4) (has 8 8) gone
      ∷ four (Create 9) (has 3 8) (has 4 4) (has 8 8) (has 9 9)
      ∷ four (Take (object_of 1) 1) (has 3 8) (has 4 9) (has 8 8) (has 9 9)
      ∷ four Tick (has 3 3) (has 4 4) (has 8 8) (has 9 9)
      ∷ []);
}

-- "Do not let two tasks wait on each other": task 2 waits on task 1's mutex until the next tick, and task 1 may not wait on task 2's, so that it lends nothing
unfoldable pub refused_circle : Tale
refused_circle = record {
  tasks = 1 ∷ 2 ∷ [];
  lines =
      first_holds (λ c. two c (has 3 3) gone) 2
      ++ (two (Create 5) (has 3 3) (has 5 5)
      ∷ two (Take (object_of 1) 0) (has 3 3) (has 5 5)
      ∷ two (Take (object_of 0) 1) (has 3 5) (has 5 5)
      ∷ two (Take (object_of 1) 10) (has 3 5) (has 5 5)
      ∷ two (SetPriority (task_of 1) 8) (has 8 8) (has 5 5)
      ∷ two (SetPriority (task_of 1) 2) (has 2 5) (has 5 5)
      ∷ two Tick (has 2 2) (has 5 5)
      ∷ []);
}

-- task 4 waits for task 3, that one for task 2, and that one for task 1: task 4 set lower, and then higher, changes all three
unfoldable pub three_links : Tale
three_links = record {
  tasks = 1 ∷ 2 ∷ 3 ∷ 4 ∷ [];
  lines =
      first_holds (λ c. four c (has 3 3) gone gone gone) 3
      ++ (four (Create 4) (has 3 3) (has 4 4) gone gone
      ∷ four (Take (object_of 1) 0) (has 3 3) (has 4 4) gone gone
      ∷ four (Take (object_of 0) 10) (has 3 4) (has 4 4) gone gone
      ∷ four (Create 5) (has 3 4) (has 4 4) (has 5 5) gone
      ∷ four (Take (object_of 2) 0) (has 3 4) (has 4 4) (has 5 5) gone
      ∷ four (Take (object_of 1) 10) (has 3 5) (has 4 5) (has 5 5) gone
      ∷ four (Create 6) (has 3 5) (has 4 5) (has 5 5) (has 6 6)
      ∷ four (Take (object_of 2) 10) (has 3 6) (has 4 6) (has 5 6) (has 6 6)
      ∷ four (SetPriority (task_of 4) 2) (has 3 5) (has 4 5) (has 5 5) (has 2 2)
      ∷ four (SetPriority (task_of 4) 20) (has 3 20) (has 4 20) (has 5 20) (has 20 20)
      ∷ []);
}

-- the mutex goes to task 3, of 29, while task 2, of 11, still waits; then task 3 is set to 10
unfoldable pub handed_with_waiter : Tale
handed_with_waiter = record {
  tasks = 1 ∷ 2 ∷ 3 ∷ [];
  lines =
      first_holds (λ c. three c (has 3 3) gone gone) 1
      ++ (three (Create 11) (has 3 3) (has 11 11) gone
      ∷ three (Take (object_of 0) 10) (has 3 11) (has 11 11) gone
      ∷ three (Create 29) (has 3 11) (has 11 11) (has 29 29)
      ∷ three (Take (object_of 0) 10) (has 3 29) (has 11 11) (has 29 29)
      ∷ three (Give (object_of 0)) (has 3 3) (has 11 11) (has 29 29)
      ∷ three (SetPriority (task_of 3) 10) (has 3 3) (has 11 11) (has 10 11)
      ∷ three (Give (object_of 0)) (has 3 3) (has 11 11) (has 10 10)
      ∷ []);
}

-- task 2 is set lower while it waits, and then task 3, of 8, begins to wait on the same mutex, which a task of 7 holds
unfoldable pub waiter_set_lower : Tale
waiter_set_lower = record {
  tasks = 1 ∷ 2 ∷ 3 ∷ [];
  lines =
      three (Create 7) (has 7 7) gone gone
      ∷ three MakeMutex (has 7 7) gone gone
      ∷ three (Take (object_of 0) 0) (has 7 7) gone gone
      ∷ three (Create 9) (has 7 7) (has 9 9) gone
      ∷ three (Take (object_of 0) 10) (has 7 9) (has 9 9) gone
      ∷ three (SetPriority (task_of 2) 5) (has 7 7) (has 5 5) gone
      ∷ three (Create 8) (has 7 7) (has 5 5) (has 8 8)
      ∷ three (Take (object_of 0) 10) (has 7 8) (has 5 5) (has 8 8)
      ∷ [];
}

-- a waiter that is suspended lends no more, resumed or not, nor does one that is deleted
unfoldable pub waiters_gone : Tale
waiters_gone = record {
  tasks = 1 ∷ 2 ∷ 3 ∷ [];
  lines =
      first_holds (λ c. three c (has 3 3) gone gone) 1
      ++ (three (Create 5) (has 3 3) (has 5 5) gone
      ∷ three (Take (object_of 0) 10) (has 3 5) (has 5 5) gone
      ∷ three (Create 6) (has 3 5) (has 5 5) (has 6 6)
      ∷ three (Take (object_of 0) 10) (has 3 6) (has 5 5) (has 6 6)
      ∷ three (Suspend (task_of 3)) (has 3 5) (has 5 5) (has 6 6)
      ∷ three (Delete (task_of 2)) (has 3 3) gone (has 6 6)
      ∷ three (Resume (task_of 3)) (has 3 3) gone (has 6 6)
      ∷ []);
}

-- a change to 40 is refused, and so is one of number 17, which names nothing
unfoldable pub refused_change : Tale
refused_change = record {
  tasks = 1 ∷ 17 ∷ [];
  lines = two (Create 3) (has 3 3) gone ∷ two (SetPriority (task_of 1) 40) (has 3 3) gone ∷ two (SetPriority (task_of 17) 5) (has 3 3) gone ∷ [];
}

-- the slot's first task had 5, the next has 3
unfoldable pub slot_used_again : Tale
slot_used_again = record {
  tasks = 1 ∷ 17 ∷ [];
  lines = two (Create 5) (has 5 5) gone ∷ two (Delete (task_of 1)) gone gone ∷ two (Create 3) gone (has 3 3) ∷ [];
}
