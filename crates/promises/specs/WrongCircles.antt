-- Mistakes in refusal 17: each is the step with one mistake made, with a few calls that tell the two apart.
use Rattle.std.specs.Prelude.{ℕ, Bool, not, ◌&&◌, List, [], ◌∷◌, ◌++◌, eqb, ltb, if◌then◌else◌}
use Rattle.calls.specs.Named.{object_of}
use Rattle.calls.specs.Behind.{asked}
use Rattle.calls.specs.Said.{waiting, refused}
use Rattle.slots.specs.Kinds.{kind_at, holder_of}
use Rattle.rows.specs.Asking.{is, waits}
use Rattle.rows.specs.Applies.{first_row, table}
use Rattle.rules.specs.Types.{Seen}
use Rattle.rules.specs.Lines.{chosen}
use Rattle.rules.specs.Loans.{waits_for}
use Rattle.rules.specs.Circles.{closes_circle}
use Rattle.rules.specs.Sound.{sound}
use Rattle.rules.specs.Refusals.{seen, later_row}
use Rattle.rules.specs.Steps.{after, stored}
use Rattle.promises.specs.Types.{TaskSlot, Asked, Create, Hold, Take, State}
use Rattle.promises.specs.Cases.{view}
use Rattle.promises.specs.CircleCases.{each_holds, waits_down}
use Rattle.promises.specs.Wrong.{Stepping, step_of, uses_then, Wrong, fails, says_nothing}

-- a step with another table of refusals behind row 1
abbrev pub refuses_by : (State → Asked → ℕ → ℕ → ℕ) → Stepping
refuses_by row = step_of asked (λ k a item store. if sound k then row k a item store else 1) after chosen stored uses_then

-- the table with another test in row 17
abbrev pub seen_with : Bool → Seen → Seen
seen_with b s = record { place = s.place; kind = s.kind; new = s.new; used = s.used; circle = b; running = s.running; hold = s.hold; pended = s.pended }

abbrev pub circle_by : (State → Asked → Bool) → State → Asked → ℕ → ℕ → ℕ
circle_by circle k a item store = first_row (table (seen_with (circle k a) (seen k a)) a item store)

-- the holder of the mutex that is to be taken, and whom it waits for
abbrev pub holder_in : State → Asked → TaskSlot
holder_in k a = holder_of (kind_at k.objects a.object)

abbrev pub after_holder : State → Asked → TaskSlot
after_holder k a = waits_for k.tasks k.objects (holder_in k a)

-- "the chain .. leads back to the caller": only if the holder itself waits for the caller
abbrev pub only_direct : State → Asked → Bool
only_direct k a = is 15 a && eqb (after_holder k a).0 k.running.0

-- "a take, of any wait": only with a wait
abbrev pub only_with_wait : State → Asked → Bool
only_with_wait k a = waits a && closes_circle k a

-- "leads back to the caller": also where the chain goes on and ends at another task
abbrev pub any_chain : State → Asked → Bool
any_chain k a = is 15 a && ltb (after_holder k a).0 16

-- "leads back to the caller": wherever another holds the mutex
abbrev pub any_holder : State → Asked → Bool
any_holder k a = is 15 a && (ltb (holder_in k a).0 16 && not (eqb k.running.0 (holder_in k a).0))

-- "which stands directly before 14": the number m is told where n stands before it. (14 before 17 comes to the same as 17 only with a wait.)
abbrev pub instead_of : ℕ → ℕ → (State → Asked → Bool) → State → Asked → ℕ → ℕ → ℕ
instead_of n m applies k a item store = let r = later_row k a item store in if eqb r n && applies k a then m else r

unfoldable pub circle_mistakes : List Wrong
circle_mistakes =
    -- tasks 3, 2 and 1: the holder of mutex 2 waits for task 2, and that one for task 1
    fails (refuses_by (circle_by only_direct)) (each_holds 3 ++ waits_down 2 ++ (Take (object_of 2) 5 ∷ [])) says_nothing (view refused 17 1 []) (view waiting 0 0 [])
    -- task 1 asks with wait 0
    ∷ fails (refuses_by (circle_by only_with_wait)) (each_holds 2 ++ waits_down 1 ++ (Take (object_of 1) 0 ∷ [])) says_nothing (view refused 17 1 []) (view refused 14 1 [])
    -- task 2 waits for task 1, and task 3 may wait for task 2
    ∷ fails (refuses_by (circle_by any_chain)) (each_holds 2 ++ waits_down 1 ++ (Create 3 ∷ Take (object_of 1) 5 ∷ [])) says_nothing (view waiting 0 1 []) (view refused 17 3 [])
    -- a mutex that another holds is no circle
    ∷ fails (refuses_by (circle_by any_holder)) (each_holds 1 ++ (Create 2 ∷ Take (object_of 0) 5 ∷ [])) says_nothing (view waiting 0 1 []) (view refused 17 2 [])
    -- with wait 0 both 17 and 14 apply
    ∷ fails (refuses_by (instead_of 17 14 (λ k a. not (waits a)))) (each_holds 2 ++ waits_down 1 ++ (Take (object_of 1) 0 ∷ [])) says_nothing (view refused 17 1 []) (view refused 14 1 [])
    -- "8 and 12 stand before it": the caller's own mutex, and a wait with a hold
    ∷ fails (refuses_by (instead_of 12 17 closes_circle)) (each_holds 1 ++ (Take (object_of 0) 5 ∷ [])) says_nothing (view refused 12 1 []) (view refused 17 1 [])
    ∷ fails (refuses_by (instead_of 8 17 closes_circle)) (each_holds 2 ++ waits_down 1 ++ (Hold ∷ Take (object_of 1) 5 ∷ [])) says_nothing (view refused 8 1 []) (view refused 17 1 [])
    ∷ []
