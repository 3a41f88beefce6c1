-- "A number that was given up names nothing ever after", and no number is made twice: what a number names, and which number a call made.
use Rattle.std.specs.Prelude.{ℕ, Bool, true, false, not, ◌&&◌, List, [], ◌∷◌, map, eqb}
use Rattle.calls.specs.Named.{task_of, object_of}
use Rattle.calls.specs.Door.{task_slot, obj_slot}
use Rattle.calls.specs.Behind.{asked}
use Rattle.calls.specs.Said.{Word, done, made, waiting, refused}
use Rattle.slots.specs.Kinds.{is_unused, kind_at}
use Rattle.rows.specs.Asking.{is, makes_object}
use Rattle.rules.specs.Tables.{fresh}
use Rattle.rules.specs.Trace.{Moment, trace, moment_of, CallMade, step_made}
use Rattle.histories.specs.Types.{State, Call, Create, Delete, MakeMutex, Remove}
use Rattle.histories.specs.Moments.{unlent, exists}

-- the number names a task that exists, an object that was made and not removed
abbrev pub names_task : State → ℕ → Bool
names_task k n = exists k (task_slot k.uses (task_of n))

abbrev pub names_object : State → ℕ → Bool
names_object k n = not (is_unused (kind_at k.objects (obj_slot k.uses (object_of n))))

-- the moment of a call that is made from k; it brings its own store
abbrev pub moment_from : State → CallMade → Moment CallMade
moment_from k m = moment_of step_made k [] m

abbrev pub is_made : Word → Bool
is_made done = false
is_made made = true
is_made waiting = false
is_made refused = false

-- the call answered made n
abbrev pub answers_made : Moment CallMade → ℕ → Bool
answers_made m n = is_made m.gave.answer.word && eqb m.gave.answer.number n

-- a create, or a make of a queue, of a mutex of either sort or of an event group, that answered made n
abbrev pub made_task : Moment CallMade → ℕ → Bool
made_task m n = is 1 (asked m.before.uses m.made.call) && answers_made m n

abbrev pub made_object : Moment CallMade → ℕ → Bool
made_object m n = let a = asked m.before.uses m.made.call in makes_object a && answers_made m n

-- ── a history: a task and a mutex, each given up, and each slot used again
unfoldable pub used_again : List Call
used_again = Create 3 ∷ Delete (task_of 1) ∷ Create 5 ∷ MakeMutex ∷ Remove (object_of 0) ∷ MakeMutex ∷ []

-- what is asked of each of its moments
abbrev pub at_each : (Moment CallMade → Bool) → List Bool
at_each f = map f (trace step_made fresh [] (map unlent used_again))
