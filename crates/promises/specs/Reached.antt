-- The calls that an input's lines make, and how far a session has come: demand 3 is then one of the program too.
use Rattle.std.specs.Prelude.{ℕ, ◌≡◌, take, replicate, Ok, Err}
use mathlib.Core.List.{List, [], ◌∷◌, ◌++◌, map, flatten}
use Rattle.journal.specs.Told.{Reading}
use Rattle.rules.specs.State.{State}
use Rattle.rules.specs.Tables.{fresh}
use Rattle.rules.specs.Sessions.{read_line, step_of_line}
use Rattle.rules.specs.Trace.{trace, CallMade}
use Rattle.promises.specs.Program.{program}
use Rattle.promises.specs.Turns.{Turn, after_turns, came_in, at_start}

-- the call that a line says, as it is made: with its item and the store s; none where the line is no call's line
abbrev pub said_call : List ℕ → Reading → List ℕ → List CallMade
said_call s (Ok c) item = record { call = c; item = item; store = s } ∷ []
said_call s (Err n) item = []

abbrev pub call_of_line : List ℕ → List ℕ → List CallMade
call_of_line s l = let r = read_line l in said_call s r.answer (take r.len r.item)

-- the calls of some lines, each with the store that the lines before it left
unfoldable pub calls_of : State → List ℕ → List (List ℕ) → List CallMade
calls_of k s ls = flatten (map (λ m. call_of_line m.store m.made) (trace step_of_line k s ls))

-- the calls of the program on some lines: "The program starts from the fresh kernel and a store of zeros."
abbrev pub program_calls : List (List ℕ) → List CallMade
program_calls ls = calls_of fresh (replicate 9216 0) ls

-- how far the program's session has come after some turns: what was taken, with what waits, is what came, and kernel and store are the program's on what was taken
pub record SoFar (ts : List Turn) : Type 0 where
  pub taken : List ℕ
  pub nothing_lost : taken ++ (after_turns at_start ts).waits ≡ came_in ts
  pub kernel : (after_turns at_start ts).kernel ≡ (program taken).kernel
  pub store : (after_turns at_start ts).store ≡ (program taken).store
