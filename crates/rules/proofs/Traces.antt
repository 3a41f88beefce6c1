-- What holds of every run.
use Prim.Native.Nat.{ℕ}
use mathlib.Core.Path.{◌≡◌, refl}
use mathlib.Core.List.{List, [], ◌∷◌, ◌++◌}
use Rattle.lists.specs.Lists.{foldl}
use Rattle.rules.specs.Types.{State}
use Rattle.rules.specs.Steps.{Stepped}
use Rattle.rules.specs.Trace.{trace, state_after, CallMade, step_made}

-- what every step keeps, a run keeps
pub trace_keeps : {A : Type 0} (f : State → List ℕ → A → Stepped) (P : State → Type 0) → ((k : State) (s : List ℕ) (x : A) → P k → P (f k s x).kernel)
    → (k : State) (s : List ℕ) (xs : List A) → P k → P (state_after k (trace f k s xs))
unfolding foldl trace
trace_keeps f P keeps k s [] p = p
trace_keeps f P keeps k s (x ∷ xs) p = trace_keeps f P keeps (f k s x).kernel (f k s x).store xs (keeps k s x p)

-- calls that bring their own stores come to the same state whatever store is at hand
pub own_stores : (k : State) (s u : List ℕ) (ms : List CallMade) → state_after k (trace step_made k s ms) ≡ state_after k (trace step_made k u ms)
unfolding foldl trace
own_stores k s u [] = refl
own_stores k s u (m ∷ ms) = refl

-- and some calls, then some more, are all of them
pub more_calls : (k : State) (s u : List ℕ) (ms ns : List CallMade)
    → state_after k (trace step_made k s (ms ++ ns)) ≡ let j = state_after k (trace step_made k s ms) in state_after j (trace step_made j u ns)
unfolding foldl trace
more_calls k s u [] ns = own_stores k s u ns
more_calls k s u (m ∷ ms) ns = more_calls (step_made k s m).kernel (step_made k s m).store u ms ns
