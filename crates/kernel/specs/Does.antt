-- What a function of the kernel value does, said of the state that the value stands for.
use Rattle.std.specs.Prelude.{◌≡◌, ℕ, ◌<◌, length, if◌then◌else◌}
use Rattle.numbers.specs.declared.TaskSlot.{TaskSlot}
use Rattle.calls.specs.declared.Asked.{Asked}
use Rattle.calls.specs.Said.{Saying, says, done, made, waiting}
use Rattle.slots.specs.Places.{is_blocked}
use Rattle.slots.specs.Values.{task_at}
use Rattle.rules.specs.Loans.{Reckoned}
use Rattle.rules.specs.State.{State}
use Rattle.rows.specs.Asking.{makes}
use Rattle.rules.specs.Sentences.{Sound, Unheld}
use Rattle.kernel.specs.Types.{Core}
use Rattle.kernel.specs.Stands.{core_of, shown_core}

-- it reads
abbrev pub Reads : {A : Type 0} → Core → (State → A) → A → Type 0
Reads k f r = (s : State) → k ≡ core_of s → r ≡ f s

-- it makes the next kernel
abbrev pub Does : Core → (State → State) → Core → Type 0
Does k f r = (s : State) → k ≡ core_of s → r ≡ core_of (f s)

-- what the call a answers its caller u, from the state e on: the number n of the slot that it took, or waiting, exactly if u is now delayed or waits on an object
abbrev pub answer_of : Asked → ℕ → TaskSlot → State → Saying
answer_of a n u e =
    if makes a then says made n
    else if is_blocked (task_at e.tasks u).place then says waiting 0
    else says done 0

-- the value stands for a state, and that state is sound
pub record Firm (k : Core) : Type 0 where
  pub stands : k ≡ core_of (shown_core k)
  pub sound : Sound (shown_core k)
  pub runs : k.running.0 < 16

-- the value stands for a state, and of that state the line may be turned
pub record Turning (k : Core) : Type 0 where
  pub stands : k ≡ core_of (shown_core k)
  pub unheld : Unheld (shown_core k)

-- the value stands for a state, and each effective priority of that state is the rule's
pub record Reckons (k : Core) : Type 0 where
  pub stands : k ≡ core_of (shown_core k)
  pub full : length (shown_core k).tasks ≡ 16
  pub reckoned : Reckoned (shown_core k).tasks (shown_core k).objects
