-- The tick: count and wakes, the turn of the line; the release that runs pended ticks, and the advance by several.
use Rattle.std.specs.Prelude.{ℕ, ◌+◌, ◌-◌, min, ◌≡◌, Bool, true, false, List, [], ◌∷◌, ◌++◌, eqb, ltb, if◌then◌else◌}
use Rattle.lists.specs.Lists.{foldl, up_to}
use Rattle.order.specs.Order.{listed}
use Rattle.slots.specs.Places.{wakes_at, outcome_due, away}
use Rattle.rules.specs.Types.{TaskSlot, Ready, Task, State}
use Rattle.slots.specs.Values.{task_at}
use Rattle.rules.specs.Tables.{with_tick, with_hold}
use Rattle.rules.specs.Lines.{has_begun, begun, level, chosen, to_tail}
use Rattle.rules.specs.Sound.{no_higher, sound}
use Rattle.rules.specs.Waits.{later, arrives}
use Rattle.rules.specs.Loans.{worked_out}

-- the task t, made ready if it is due
unfoldable pub woken_if_due : State → TaskSlot → State
woken_if_due k t =
    if wakes_at k.tick (task_at k.tasks t).place
    then arrives k t Ready (outcome_due (task_at k.tasks t).place)
    else k

-- of those that l lists the due are made ready, in its order
unfoldable pub wakes : State → List TaskSlot → State
wakes k l = foldl woken_if_due k l

-- t is made ready before u: on the way there is a state in which t is ready and u is not yet
pub record ReadyFirst (t u : TaskSlot) (k : State) (l : List TaskSlot) : Type 0 where
  pub so_far : List TaskSlot
  pub rest : List TaskSlot
  pub all : l ≡ so_far ++ rest
  pub ready : (task_at (wakes k so_far).tasks t).place ≡ Ready
  pub not_yet : has_begun (wakes k so_far).tasks u ≡ true

-- from k to j somebody who was delayed or waited is made ready
pub record SomeoneWakes (k j : State) : Type 0 where
  pub who : TaskSlot
  pub began : has_begun k.tasks who ≡ true
  pub ready : (task_at j.tasks who).place ≡ Ready

-- "the count goes up, then the due tasks are made ready"; "make ready first whoever began its delay or wait earlier"
unfoldable pub counted_on : State → State
counted_on k = wakes (with_tick k (later k.tick 1)) (begun k.tasks (listed k.order))

-- "It is worked out afresh .. after each tick's wakes": whoever is woken joins the line of the effective priority that it had, and moves with the others
unfoldable pub one_tick : State → State
one_tick k = worked_out (counted_on k)

-- how many ticks pass before the one on which a task is next due; 4,294,967,295 where none has a wake tick
unfoldable pub until_due : ℕ → List Task → ℕ
until_due now ts = foldl (λ n x. min n (away now x.place)) 4294967295 ts

-- "then, if no higher line is occupied, the running task goes to the tail of its line"
unfoldable pub turned : State → State
turned k = if no_higher k.tasks (level k.tasks k.running) (listed k.order) then to_tail k k.running else k

-- 17: "With a hold, pended goes up by one. Else the count goes up, .."
unfoldable pub ticked : State → State
ticked k = if ltb 0 k.hold then with_hold k k.hold (k.pended + 1) else turned (one_tick k)

-- what comes after a tick's wakes: the turn of the line, and the choose with which "Every accepted call ends"; or neither
abbrev pub turned_if : Bool → State → State
turned_if turns k = if turns then chosen (turned k) else k

-- n turns and no tick; or none
abbrev pub turnings : Bool → ℕ → State → State
turnings turns n k = up_to (λ x i. turned_if turns x) n k

-- n ticks one by one, with each one's turn and choose or without
unfoldable pub ticks : Bool → ℕ → State → State
ticks turns n k = up_to (λ x i. turned_if turns (one_tick x)) n k

-- 9: "Release to depth 0 runs each pended tick's count and wakes in turn, without the turn of the line, and chooses once"
unfoldable pub released : State → State
released k = if eqb k.hold 1 then ticks false k.pended (with_hold k 0 0) else with_hold k (k.hold - 1) k.pended

-- 18: "n ticks .. and the result must equal n single ticks one by one, turns of the line and wakes included"
unfoldable pub advanced : State → ℕ → State
advanced k n = ticks true n k

-- how many ticks from now the next one is on which somebody is due, where d come before it; none where nobody ever is
abbrev pub until_some : ℕ → List ℕ
until_some d = if ltb d 4294967295 then (d + 1) ∷ [] else []

-- for the board: how many ticks may be slept through before anybody is due. Nobody ever is in a kernel that is not sound, which refuses every call
unfoldable pub sleeps : State → List ℕ
sleeps k = if sound k then until_some (until_due k.tick k.tasks) else []

-- 8: "depth up"
unfoldable pub held : State → State
held k = with_hold k (k.hold + 1) k.pended
