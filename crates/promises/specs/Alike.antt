-- Alike kernels: two values that differ at most in what the one order tells beyond the lines, the lists and the order of the delayed and the waiting together.
use Rattle.std.specs.Prelude.{ℕ, ◌≡◌, List, [], ◌∷◌, replicate}
use Rattle.numbers.specs.declared.TaskSlot.{TaskSlot}
use Rattle.numbers.specs.declared.ObjSlot.{ObjSlot}
use Rattle.numbers.specs.Numbers.{task, idle}
use Rattle.calls.specs.Door.{fresh_uses}
use Rattle.order.specs.Order.{listed, ordered}
use Rattle.slots.specs.declared.Place.TheVariants.{Delayed}
use Rattle.slots.specs.Who.{waiters_of}
use Rattle.slots.specs.Values.{free_task, ready_at, placed}
use Rattle.slots.specs.Kinds.{unused}
use Rattle.rules.specs.State.{State}
use Rattle.rules.specs.Lines.{line, those, begun}
use Rattle.rules.specs.Sentences.{OneOrder}
use Rattle.rules.specs.Steps.{Stepped}

pub record Alike (k j : State) : Type 0 where
  -- the same tasks: places, priorities, outcomes
  pub tasks : k.tasks ≡ j.tasks
  -- the same objects: kinds, rings, holders, bits
  pub objects : k.objects ≡ j.objects
  -- the same task runs
  pub running : k.running ≡ j.running
  -- the same tick count
  pub tick : k.tick ≡ j.tick
  -- the same depth of hold
  pub hold : k.hold ≡ j.hold
  -- the same pended ticks
  pub pended : k.pended ≡ j.pended
  -- the same uses, so the same numbers
  pub uses : k.uses ≡ j.uses
  -- the same line for each priority
  pub lines : (p : ℕ) → line k.tasks p (listed k.order) ≡ line j.tasks p (listed j.order)
  -- the same waiters of each object, in the same order of arrival
  pub lists : (o : ObjSlot) → those k.tasks (waiters_of o) (listed k.order) ≡ those j.tasks (waiters_of o) (listed j.order)
  -- the same order of the delayed and the waiting together
  pub begun : begun k.tasks (listed k.order) ≡ begun j.tasks (listed j.order)

-- alike steps: the same answer, the same store afterwards, alike kernels
pub record AlikeSteps (r q : Stepped) : Type 0 where
  pub answer : r.answer ≡ q.answer
  pub store : r.store ≡ q.store
  pub kernel : Alike r.kernel q.kernel

-- what none of these shows of the one order: nobody suspended and no free slot stands in it, and it has 16 places with zeros behind those taken
abbrev pub Ordered : State → Type 0
Ordered k = OneOrder k.tasks k.order

-- idle, and a task of priority 3 that runs, in either order
abbrev pub two_in : List TaskSlot → State
two_in l = record { tasks = ready_at 0 ∷ ready_at 3 ∷ replicate 14 free_task; objects = replicate 16 unused; order = ordered l; running = task 1; tick = 0; hold = 0; pended = 0; uses = fresh_uses }

unfoldable pub idle_first : State
idle_first = two_in (idle ∷ task 1 ∷ [])

unfoldable pub idle_last : State
idle_last = two_in (task 1 ∷ idle ∷ [])

-- idle runs, and two tasks of priority 3 are delayed until tick 1, the one or the other of which began first
abbrev pub due_together : List TaskSlot → State
due_together l =
    let x = placed (ready_at 3) (Delayed 1) 0 in
    record { tasks = ready_at 0 ∷ x ∷ x ∷ replicate 13 free_task; objects = replicate 16 unused; order = ordered l; running = idle; tick = 0; hold = 0; pended = 0; uses = fresh_uses }

unfoldable pub first_began : State
first_began = due_together (idle ∷ task 1 ∷ task 2 ∷ [])

unfoldable pub second_began : State
second_began = due_together (idle ∷ task 2 ∷ task 1 ∷ [])
