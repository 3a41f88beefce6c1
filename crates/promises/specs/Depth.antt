-- "Hold depth 0 to 255", told by the calls alone: how many holds were accepted, less the accepted releases.
use Rattle.std.specs.Prelude.{ℕ, ◌+◌, ◌-◌, Bool, List, [], eqb, length, if◌then◌else◌}
use Rattle.lists.specs.Lists.{foldl}
use Rattle.calls.specs.Behind.{asked}
use Rattle.rows.specs.Asking.{is}
use Rattle.rules.specs.Refusals.{refusal}
use Rattle.rules.specs.Tables.{fresh}
use Rattle.rules.specs.Trace.{Moment, trace, CallMade, step_made}
use Rattle.promises.specs.Types.{Asked, State}

-- "hold, release: depth up, down"; no other call changes it
abbrev pub deeper : Asked → ℕ → ℕ
deeper a n = if is 8 a then n + 1 else if is 9 a then n - 1 else n

-- the call is accepted in k
abbrev pub is_accepted : State → CallMade → Bool
is_accepted k m = eqb (refusal k (asked k.uses m.call) (length m.item) (length m.store)) 0

-- the depth after a moment, where it was n: a refused call changes nothing
abbrev pub depth_at : ℕ → Moment CallMade → ℕ
depth_at n m = if is_accepted m.before m.made then deeper (asked m.before.uses m.made.call) n else n

-- the depth after some calls from the fresh kernel, which begins with none
abbrev pub depth : List CallMade → ℕ
depth ms = foldl depth_at 0 (trace step_made fresh [] ms)
