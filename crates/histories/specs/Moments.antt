-- The moments of a history, and what is asked of each: the call, the kernel before it and the kernel after it.
use Rattle.std.specs.Prelude.{Bool, true, false, not, List, [], ◌∷◌, replicate}
use Rattle.lists.specs.Lists.{foldl}
use Rattle.calls.specs.Said.{Word, done, made, waiting, refused}
use Rattle.slots.specs.Places.{is_free}
use Rattle.slots.specs.Values.{task_at}
use Rattle.rules.specs.Tables.{fresh}
use Rattle.rules.specs.Trace.{Moment, trace, CallMade, step_made}
use Rattle.histories.specs.Types.{TaskSlot, Call, State}

-- the latest first, ahead of those of the past
abbrev pub onto : List (Moment CallMade) → List (Moment CallMade) → List (Moment CallMade)
onto past ms = foldl (λ l m. m ∷ l) past ms

-- of calls "from the fresh kernel"
abbrev pub moments : List CallMade → List (Moment CallMade)
moments ms = onto [] (trace step_made fresh [] ms)

-- a call with an empty item and a store of zeros
abbrev pub unlent : Call → CallMade
unlent c = record { call = c; item = []; store = replicate 9216 0 }

-- ── what is asked of a kernel on the way
abbrev pub exists : State → TaskSlot → Bool
exists k t = not (is_free (task_at k.tasks t).place)

-- ── what is asked of a moment
abbrev pub is_refusal : Word → Bool
is_refusal done = false
is_refusal made = false
is_refusal waiting = false
is_refusal refused = true

abbrev pub not_refused : Moment CallMade → Bool
not_refused m = not (is_refusal m.gave.answer.word)
