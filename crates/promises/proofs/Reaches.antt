-- The program's kernel is one that calls reach, after every line of every input, however it is cut: so what holds after any calls holds of the program.
use Prim.Native.Nat.{ℕ}
use mathlib.Core.Path.{◌≡◌, refl, sym, ap, subst, ◌∙◌}
use mathlib.Core.List.{List, [], ◌∷◌, flatten}
use lib.ListN.{take, replicate}
use Rattle.lists.specs.Lists.{foldl}
use Rattle.journal.specs.Told.{Reading}
use Rattle.std.specs.Prelude.{Ok, Err}
use Rattle.rules.specs.State.{State}
use Rattle.rules.specs.Tables.{fresh}
use Rattle.rules.specs.Sessions.{step_told, read_line, step_of_line}
use Rattle.rules.specs.Trace.{trace, state_after, step_made}
use Rattle.rules.proofs.Traces.{more_calls}
use Rattle.promises.specs.History.{after, reached, Placed}
use Rattle.promises.specs.Program.{lines_of, answering}
use Rattle.promises.specs.Turns.{Turn, Pause, after_turns, at_start}
use Rattle.promises.specs.Reached.{said_call, call_of_line, calls_of, program_calls, SoFar}
use Rattle.promises.proofs.Histories.{after_any_calls}
use Rattle.promises.proofs.AnyBlocks.{turns_through}
use Rattle.promises.proofs.LineForLine.{fed_so_far}

-- a line: its call, or none
line_reaches : (k : State) (s l u : List ℕ) → (step_of_line k s l).kernel ≡ state_after k (trace step_made k u (call_of_line s l))
unfolding step_of_line foldl trace
line_reaches k s l u = read (read_line l).answer (take (read_line l).len (read_line l).item)
  where
    read : (x : Reading) (item : List ℕ) → (step_told k s x item).kernel ≡ state_after k (trace step_made k u (said_call s x item))
    read (Ok c) item = refl
    read (Err n) item = refl

lines_reach : (k : State) (s : List ℕ) (ls : List (List ℕ)) → (answering k s ls).kernel ≡ after k (calls_of k s ls)
unfolding answering calls_of foldl trace flatten
lines_reach k s [] = refl
lines_reach k s (l ∷ ls) =
    let d = step_of_line k s l in
    lines_reach d.kernel d.store ls
    ∙ ap (λ (j : State). after j (calls_of d.kernel d.store ls)) (line_reaches k s l [])
    ∙ sym (more_calls k [] [] (call_of_line s l) (calls_of d.kernel d.store ls))

-- after every line: whatever the lines so far, the program's kernel is reached by their calls
pub program_reached : (ls : List (List ℕ)) → (answering fresh (replicate 9216 0) ls).kernel ≡ reached (program_calls ls)
program_reached ls = lines_reach fresh (replicate 9216 0) ls

-- however the input is cut: at any time the session's kernel and store are the program's on what was taken
pub session_so_far : (ts : List Turn) → SoFar ts
session_so_far ts =
    let h = turns_through at_start ts in
    let f = fed_so_far fresh (replicate 9216 0) h.taken in
    record {
      taken = h.taken;
      nothing_lost = h.nothing_lost;
      kernel = ap (λ (p : Pause). p.kernel) h.as_in_one ∙ f.0;
      store = ap (λ (p : Pause). p.store) h.as_in_one ∙ f.1;
    }

-- so "each task in exactly one state and listed only where that state belongs; unless held, no ready task outranks the running one"
pub program_placed : (ls : List (List ℕ)) → Placed (answering fresh (replicate 9216 0) ls).kernel
program_placed ls = subst (λ (k : State). Placed k) (sym (program_reached ls)) (after_any_calls (program_calls ls))

pub session_placed : (ts : List Turn) → Placed (after_turns at_start ts).kernel
session_placed ts =
    let h = session_so_far ts in
    subst (λ (k : State). Placed k) (sym h.kernel) (program_placed (lines_of h.taken))
