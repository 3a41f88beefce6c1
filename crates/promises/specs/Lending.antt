-- "The loan must go along the chain": the rule of effective priorities, that nothing else matters, and after which calls none of them changes.
use Rattle.std.specs.Prelude.{ℕ, ◌<◌, ◌≤◌, ◌≡◌, Bool, ◌||◌, List, get_or}
use Rattle.slots.specs.declared.Object.{Object}
use Rattle.slots.specs.Values.{levelled, task_at}
use Rattle.rows.specs.Asking.{is}
use Rattle.rules.specs.Lines.{level}
use Rattle.rules.specs.Loans.{waits_for, ruled}
use Rattle.rules.specs.Sentences.{Reaches, LargestOwn}
use Rattle.rules.specs.Steps.{may_lend}
use Rattle.promises.specs.Types.{TaskSlot, Asked, Ready, Task, State}

-- "a task's effective priority is the largest own priority among itself and all tasks that wait, directly or along a chain of holders, on a mutex it holds"; "a circle must
-- still end": each slot gets that number, and there is no second
pub record RuleHolds (ts : List Task) (os : List Object) : Type 0 where
  pub largest : (t : TaskSlot) → t.0 < 16 → LargestOwn ts os t (get_or (ruled ts os) t.0 0)
  pub no_second : (t : TaskSlot) (p q : ℕ) → LargestOwn ts os t p → LargestOwn ts os t q → p ≡ q

-- "It is worked out afresh": whatever the effective priorities of k were, in j they are the rule's, and each task is as it was but for that
pub record Afresh (k j : State) : Type 0 where
  pub rule : (t : TaskSlot) → t.0 < 16 → LargestOwn k.tasks k.objects t (level j.tasks t)
  pub but_for_it : (t : TaskSlot) → t.0 < 16 → task_at j.tasks t ≡ levelled (task_at k.tasks t) (level j.tasks t)

-- each task has the same own priority, and waits for the same one: for the holder of the mutex that it waits on, or for nobody
pub record SameLoans (k j : State) : Type 0 where
  pub owns : (t : TaskSlot) → (task_at k.tasks t).own ≡ (task_at j.tasks t).own
  pub waits : (t : TaskSlot) → waits_for k.tasks k.objects t ≡ waits_for j.tasks j.objects t

abbrev pub SameLevels : State → State → Type 0
SameLevels k j = (t : TaskSlot) → level k.tasks t ≡ level j.tasks t

-- the calls after which a task may have another effective priority: delete, suspend, set priority, take and give; and release, tick and advance, with which a wait on a mutex may end
unfoldable pub may_change : Asked → Bool
may_change a = may_lend a || (is 9 a || (is 17 a || is 18 a))

-- "The record writer waited on the meter task, which waited on the tag task, and the tag task stayed slow.": where s waits, over any number of links, for a task t that is
-- ready, t has no less than s owns; nor has the running task, unless the scheduler is held
pub record NotSlow (k : State) : Type 0 where
  pub holder : (s t : TaskSlot) → Reaches k.tasks k.objects s t → (task_at k.tasks t).place ≡ Ready → (task_at k.tasks s).own ≤ level k.tasks t
  pub runner : k.hold ≡ 0 → (s t : TaskSlot) → Reaches k.tasks k.objects s t → (task_at k.tasks t).place ≡ Ready → (task_at k.tasks s).own ≤ level k.tasks k.running
