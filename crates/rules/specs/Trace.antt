-- A run: one thing after the other, each from the state and the store that the last one left. Histories, cases and the answers to lines are read from it.
use Rattle.std.specs.Prelude.{ℕ, List, [], ◌∷◌}
use Rattle.lists.specs.Lists.{foldl}
use Rattle.rules.specs.Types.{Call, State}
use Rattle.rules.specs.Steps.{Stepped, step}

-- a moment of a run: the state and the store at hand before it, what was made (a call, a line), and what the step gave: the next state, in which
-- `running` runs, the answer and the store afterwards
pub record Moment (A : Type 0) : Type 0 where
  pub before : State
  pub store : List ℕ
  pub made : A
  pub gave : Stepped

-- f is what one step makes of the state and the store at hand
abbrev pub moment_of : {A : Type 0} → (State → List ℕ → A → Stepped) → State → List ℕ → A → Moment A
moment_of f k s x = record { before = k; store = s; made = x; gave = f k s x }

-- the moments of a run, the earliest first
unfoldable pub trace : {A : Type 0} → (State → List ℕ → A → Stepped) → State → List ℕ → List A → List (Moment A)
trace f k s [] = []
trace f k s (x ∷ xs) = let m = moment_of f k s x in m ∷ trace f m.gave.kernel m.gave.store xs

-- what is read of the step that came last, and b before the first
abbrev pub at_last : {A B : Type 0} → (Stepped → B) → B → List (Moment A) → B
at_last read b ms = foldl (λ x m. read m.gave) b ms

-- the state and the store that a run from k, or with s, leaves
abbrev pub state_after : {A : Type 0} → State → List (Moment A) → State
state_after k ms = at_last (λ d. d.kernel) k ms

abbrev pub store_after : {A : Type 0} → List ℕ → List (Moment A) → List ℕ
store_after s ms = at_last (λ d. d.store) s ms

-- a call as it is made: with an item and a lent store, of whatever length
pub record CallMade : Type 0 where
  pub call : Call
  pub item : List ℕ
  pub store : List ℕ

-- its step: the store is its own, whatever the last one left
abbrev pub step_made : State → List ℕ → CallMade → Stepped
step_made k s m = step k m.call m.item m.store

-- calls with this item, and with the store at hand; f is the step, or one with a mistake
abbrev pub lending : (State → Call → List ℕ → List ℕ → Stepped) → List ℕ → State → List ℕ → Call → Stepped
lending f item k s c = f k c item s
