-- "up to 255 times in all": so many takes and as many gives by one holder and then by the next, what each is answered and who runs then; and the kernels on the way.
use Rattle.std.specs.Prelude.{ℕ, ◌-◌, List, [], ◌∷◌, ◌++◌, length, replicate}
use Rattle.numbers.specs.Numbers.{task, object, idle}
use Rattle.calls.specs.Named.{object_of}
use Rattle.order.specs.Order.{ordered}
use Rattle.slots.specs.Wants.{wait_on}
use Rattle.slots.specs.Values.{free_task, ready_at}
use Rattle.slots.specs.Kinds.{unused}
use Rattle.calls.specs.Door.{fresh_uses}
use Rattle.promises.specs.Types.{Call, Create, Take, Give, TaskSlot, OwnTurn, Place, Ready, Waiting, Never, Task, Nobody, By, Recursive, Kind, Unused, Mutex, State}
use Rattle.promises.specs.Cases.{for_ever, Case, from_fresh, ok, ok_new, wait, refuses}
use Rattle.promises.specs.RecursiveCases.{taken_times}

-- ── the round, piece by piece
-- taken once; 255 times in all; the 256th take is refused, with whatever wait, and then task 2 waits
abbrev pub once_taken : List Call
once_taken = taken_times 1

abbrev pub takes254 : List Call
takes254 = replicate 254 (Take (object_of 0) 0)

abbrev pub then_waits : List Call
then_waits = Take (object_of 0) 0 ∷ Take (object_of 0) 9 ∷ Create 5 ∷ Take (object_of 0) for_ever ∷ []

-- 255 gives: the last hands it on, at count 1
abbrev pub gives254 : List Call
gives254 = replicate 254 (Give (object_of 0))

abbrev pub hands_on : List Call
hands_on = Give (object_of 0) ∷ []

-- task 2 has it now, takes it 255 times in all, and the 256th time is refused; after as many gives it is free
abbrev pub full_again : List Call
full_again = Take (object_of 0) 0 ∷ []

abbrev pub frees : List Call
frees = Give (object_of 0) ∷ Give (object_of 0) ∷ []

unfoldable pub whole_round : Case
whole_round = from_fresh
    (once_taken ++ (takes254 ++ (then_waits ++ (gives254 ++ (hands_on ++ (takes254 ++ (full_again ++ (gives254 ++ frees))))))))
    ((ok_new 1 1 ∷ ok_new 0 1 ∷ ok 1 ∷ [])
    ++ (replicate 254 (ok 1)
    ++ ((refuses 18 1 ∷ refuses 18 1 ∷ ok_new 2 2 ∷ wait 1 ∷ [])
    ++ (replicate 254 (ok 1)
    ++ ((ok 2 ∷ [])
    ++ (replicate 254 (ok 2)
    ++ ((refuses 18 2 ∷ [])
    ++ (replicate 254 (ok 2)
    ++ (ok 2 ∷ refuses 11 2 ∷ [])))))))))

-- the kernels on the way: beside idle these tasks, in this order, and the mutex; this one runs
abbrev pub with_mutex : Kind → List Task → List TaskSlot → TaskSlot → State
with_mutex x ts l r =
    record {
      tasks = ready_at 0 ∷ (ts ++ replicate (15 - length ts) free_task);
      objects = record { kind = x } ∷ replicate 15 unused;
      order = ordered l;
      running = r;
      tick = 0;
      hold = 0;
      pended = 0;
      uses = fresh_uses;
    }

-- a task in this place, of these priorities, own and effective, with this outcome
abbrev pub task_in : Place → ℕ → ℕ → ℕ → Task
task_in p own eff out = record { place = p; own = own; effective = eff; outcome = out }

-- task 1 has it so often, alone; with task 2 there, and waiting, which lends it 5; task 2 has it
unfoldable pub alone : ℕ → State
alone c = with_mutex (Mutex (Recursive c) (By (task 1))) (task_in Ready 3 3 0 ∷ []) (idle ∷ task 1 ∷ []) (task 1)

unfoldable pub joined : ℕ → State
joined c = with_mutex (Mutex (Recursive c) (By (task 1))) (task_in Ready 3 3 0 ∷ task_in Ready 5 5 0 ∷ []) (idle ∷ task 1 ∷ task 2 ∷ []) (task 2)

unfoldable pub waited_for : ℕ → State
waited_for c = with_mutex (Mutex (Recursive c) (By (task 1))) (task_in Ready 3 5 0 ∷ task_in (Waiting (wait_on (object 0) OwnTurn) Never) 5 5 0 ∷ []) (idle ∷ task 2 ∷ task 1 ∷ []) (task 1)

unfoldable pub handed_on : ℕ → State
handed_on c = with_mutex (Mutex (Recursive c) (By (task 2))) (task_in Ready 3 3 0 ∷ task_in Ready 5 5 1 ∷ []) (task 1 ∷ idle ∷ task 2 ∷ []) (task 2)

-- nobody has it, before and in the end
unfoldable pub not_made : State
not_made = with_mutex Unused (task_in Ready 3 3 0 ∷ []) (idle ∷ task 1 ∷ []) (task 1)

unfoldable pub not_taken : State
not_taken = with_mutex (Mutex (Recursive 0) Nobody) (task_in Ready 3 3 0 ∷ []) (idle ∷ task 1 ∷ []) (task 1)

unfoldable pub given_up : State
given_up = with_mutex (Mutex (Recursive 0) Nobody) (task_in Ready 3 3 0 ∷ task_in Ready 5 5 1 ∷ []) (task 1 ∷ idle ∷ task 2 ∷ []) (task 2)
