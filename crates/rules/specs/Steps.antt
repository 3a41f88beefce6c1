-- A step: a state, a call, the item lent with it and the lent store give the next state, the answer and the store afterwards.
use Rattle.std.specs.Prelude.{ℕ, Bool, ◌||◌, List, eqb, length, if◌then◌else◌}
use Rattle.numbers.specs.Numbers.{task, object}
use Rattle.calls.specs.Door.{task_no, obj_no, without_task, without_object}
use Rattle.calls.specs.Behind.{asked}
use Rattle.calls.specs.Said.{Saying, says, done, made, waiting, refused}
use Rattle.slots.specs.Places.{is_blocked}
use Rattle.rules.specs.Types.{Call, Uses, Asked, State}
use Rattle.slots.specs.Values.{task_at}
use Rattle.slots.specs.Kinds.{kind_at}
use Rattle.rules.specs.Tables.{with_uses}
use Rattle.rules.specs.Lines.{chosen}
use Rattle.rules.specs.Loans.{worked_out}
use Rattle.rules.specs.Queues.{store_sent_to, store_received_from}
use Rattle.rules.specs.Events.{want_by, store_set_on, store_awaited_on}
use Rattle.rows.specs.Asking.{is, makes}
use Rattle.rules.specs.Refusals.{new_slot}
use Rattle.rules.specs.Refusals.{refusal}
use Rattle.rules.specs.Effects.{effect}

-- send and receive change the store, and so do a set that wakes and a wait that need not wait; "no other call changes the store"
unfoldable pub stored : State → Asked → List ℕ → List ℕ → List ℕ
stored k a item s =
    if is 13 a then store_sent_to k a.object (kind_at k.objects a.object) item s
    else if is 14 a then store_received_from k a.object (kind_at k.objects a.object) s
    else if is 21 a then store_set_on k a.object (kind_at k.objects a.object) a.bits s
    else if is 23 a then store_awaited_on k (kind_at k.objects a.object) (want_by a) s
    else s

-- the number of the slot n that a create or make takes, where the slots have these uses
abbrev pub new_number : Uses → Asked → ℕ → ℕ
new_number us a n = if is 1 a then (task_no us (task n)).0 else (obj_no us (object n)).0

-- "An accepted call answers done, made with the new number, or waiting (given exactly if the caller is now delayed or waits on an object)."
unfoldable pub answered : State → Asked → State → Saying
answered k a next =
    if makes a then says made (new_number k.uses a (new_slot k a))
    else if is_blocked (task_at next.tasks k.running).place then says waiting 0
    else says done 0

pub record Stepped : Type 0 where
  pub kernel : State
  pub answer : Saying
  pub store : List ℕ

-- "where a slot's use .. goes up by one at each delete or remove"
unfoldable pub uses_after : Uses → Asked → Uses
uses_after us a = if is 2 a then without_task us a.task else if is 12 a then without_object us a.object else us

-- the calls that may change an own priority, a holder or a wait on a mutex: delete, suspend, set priority, take and give. After any other call's effect the effective
-- priorities are the rule's already (each tick has worked them out after its wakes)
unfoldable pub may_lend : Asked → Bool
may_lend a = is 2 a || (is 3 a || (is 5 a || (is 15 a || is 16 a)))

-- what a call does, with the effective priorities "worked out afresh before choose"
unfoldable pub after : State → Asked → State
after k a = worked_out (effect k a)

-- "Every accepted call ends with choose."
unfoldable pub accepted : State → Asked → List ℕ → List ℕ → Stepped
accepted k a item s =
    record {
      kernel = with_uses (chosen (after k a)) (uses_after k.uses a);
      answer = answered k a (chosen (after k a));
      store = stored k a item s;
    }

-- "A refusal returns the number; the kernel and all lent bytes stay."
abbrev pub turned_away : State → ℕ → List ℕ → Stepped
turned_away k n s = record { kernel = k; answer = says refused n; store = s }

-- what a refusal number, 0 for none, makes of a call
abbrev pub stepped_by : ℕ → State → Asked → List ℕ → List ℕ → Stepped
stepped_by n k a item s = if eqb n 0 then accepted k a item s else turned_away k n s

-- `asked` is the door: what stands behind it speaks of slots alone
unfoldable pub step : State → Call → List ℕ → List ℕ → Stepped
step k c item s = let a = asked k.uses c in stepped_by (refusal k a (length item) (length s)) k a item s
