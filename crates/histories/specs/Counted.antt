-- "A task may take its own mutex again": how often the holder of a recursive mutex has it, read from the calls that were made.
use Rattle.std.specs.Prelude.{ℕ, ◌+◌, ◌-◌, ◌≤◌, ◌≡◌, Bool, true, not, ◌&&◌, List, [], ◌∷◌, if◌then◌else◌}
use Rattle.lists.specs.Lists.{any}
use Rattle.numbers.specs.Numbers.{same_task, same_object}
use Rattle.calls.specs.declared.ObjNo.{ObjNo}
use Rattle.calls.specs.Door.{obj_slot}
use Rattle.calls.specs.Behind.{asked}
use Rattle.slots.specs.Kinds.{held_by, kind_at}
use Rattle.rows.specs.Asking.{is}
use Rattle.rules.specs.Steps.{Stepped}
use Rattle.rules.specs.Trace.{Moment, CallMade}
use Rattle.promises.specs.Recursive.{GivesBack}
use Rattle.histories.specs.Types.{TaskSlot, ObjSlot, By, Recursive, Mutex, State}
use Rattle.histories.specs.Moments.{moments, not_refused}
use Rattle.histories.specs.Uses.{times}

-- the task t made the call of this number, which names the object, and it was accepted
abbrev pub did_to : ℕ → TaskSlot → ObjSlot → Moment CallMade → Bool
did_to n t o m = let a = asked m.before.uses m.made.call in not_refused m && (same_task m.before.running t && (is n a && same_object a.object o))

-- an accepted take of it, an accepted give
abbrev pub takes_it : TaskSlot → ObjSlot → Moment CallMade → Bool
takes_it = did_to 15

abbrev pub gives_it : TaskSlot → ObjSlot → Moment CallMade → Bool
gives_it = did_to 16

-- it became the task's: it holds it after the moment, and did not before
abbrev pub becomes_his : TaskSlot → ObjSlot → Moment CallMade → Bool
becomes_his t o m = held_by t (kind_at m.gave.kernel.objects o) && not (held_by t (kind_at m.before.objects o))

-- the moments since then, the latest first
unfoldable pub since : TaskSlot → ObjSlot → List (Moment CallMade) → List (Moment CallMade)
since t o [] = []
since t o (m ∷ earlier) = if becomes_his t o m then [] else m ∷ since t o earlier

-- its accepted takes since then, and its gives
abbrev pub takes_since : List (Moment CallMade) → TaskSlot → ObjSlot → ℕ
takes_since past t o = times (takes_it t o) (since t o past)

abbrev pub gives_since : List (Moment CallMade) → TaskSlot → ObjSlot → ℕ
gives_since past t o = times (gives_it t o) (since t o past)

-- how often it has it by these: once by the take by which it became the task's, at once or at the end of a wait
abbrev pub times_had : List (Moment CallMade) → TaskSlot → ObjSlot → ℕ
times_had past t o = (1 + takes_since past t o) - gives_since past t o

-- "the number of accepted takes since it became the holder's less the accepted gives" is n; no more were given than taken again
pub record HasTimes (past : List (Moment CallMade)) (t : TaskSlot) (o : ObjSlot) (n : ℕ) : Type 0 where
  -- there is such a moment
  pub became : any (becomes_his t o) past ≡ true
  pub count : n ≡ times_had past t o
  pub fewer : gives_since past t o ≤ takes_since past t o

-- of every recursive mutex that is held in k, which these calls reach from the fresh kernel
abbrev pub CountsTakes : List CallMade → State → Type 0
CountsTakes ms k = (t : TaskSlot) (o : ObjSlot) (n : ℕ) → kind_at k.objects o ≡ Mutex (Recursive n) (By t) → HasTimes (moments ms) t o n

-- "give frees or hands on exactly if that is 1": the caller's give of the mutex n in that kernel, by that number; d is what the step gave
abbrev pub GivesByHistory : List CallMade → State → ObjNo → List ℕ → Stepped → Type 0
GivesByHistory ms k n s d = GivesBack k n (times_had (moments ms) k.running (obj_slot k.uses n)) s d
