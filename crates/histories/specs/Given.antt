-- Demand 3's last sentence, which reads the rule of loans: what a task's own priority and its effective one are after any calls. The task is told by its full number.
use Rattle.std.specs.Prelude.{ℕ, ◌≡◌, Bool, true, ◌&&◌, ◌||◌, List, [], ◌∷◌, eqb, if◌then◌else◌}
use Rattle.calls.specs.Table.{word}
use Rattle.calls.specs.Words.{frame_of}
use Rattle.calls.specs.Behind.{asked}
use Rattle.slots.specs.Values.{task_at}
use Rattle.rules.specs.Lines.{level}
use Rattle.rules.specs.Sentences.{LargestOwn}
use Rattle.rules.specs.Trace.{Moment, CallMade}
use Rattle.histories.specs.Types.{Call, State}
use Rattle.histories.specs.Moments.{moments, not_refused}
use Rattle.histories.specs.Again.{names_task, made_task}
use Rattle.histories.specs.ByFullNumber.{slot_of}

-- a set priority whose call says the number n itself
abbrev pub sets_priority_of : ℕ → Call → Bool
sets_priority_of n c = eqb (frame_of c).number 5 && eqb (word (frame_of c).words 0) n

-- the priority given to n at the moment, a list of one or of none: "by its creation or an accepted change", the create that answered made n or an accepted set priority of n
unfoldable pub given_to : ℕ → Moment CallMade → List ℕ
given_to n m =
    if made_task m n || (sets_priority_of n m.made.call && not_refused m) then (asked m.before.uses m.made.call).priority ∷ [] else []

-- "the priority last given to it": the first of a list, or else n
abbrev pub last_of : List ℕ → ℕ → ℕ
last_of [] n = n
last_of (p ∷ ps) n = p

-- of the moments, the latest first; idle counts as created with 0
unfoldable pub last_given_to : ℕ → List (Moment CallMade) → ℕ
last_given_to n [] = 0
last_given_to n (m ∷ earlier) = last_of (given_to n m) (last_given_to n earlier)

-- of the task that n names in k, which these calls reach from the fresh kernel
pub record ByTheRule (ms : List CallMade) (k : State) (n : ℕ) : Type 0 where
  -- "the priority last given to it by its creation or an accepted change"
  pub own : (task_at k.tasks (slot_of k n)).own ≡ last_given_to n (moments ms)
  -- "a task's effective priority is the largest own priority among itself and all tasks that wait, directly or along a chain of holders, on a mutex it holds"
  pub effective : LargestOwn k.tasks k.objects (slot_of k n) (level k.tasks (slot_of k n))

-- if n names a task
abbrev pub LentByRule : List CallMade → State → ℕ → Type 0
LentByRule ms k n = names_task k n ≡ true → ByTheRule ms k n
