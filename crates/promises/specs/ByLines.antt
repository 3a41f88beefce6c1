-- What the lines of a journal are answered, in document 01's words alone: no word of how a line is read.
use Rattle.std.specs.Prelude.{ℕ, ◌≡◌, List, [], ◌∷◌, ◌++◌, replicate}
use Rattle.journal.specs.Line.{line_of, HasLine}
use Rattle.rules.specs.Tables.{fresh}
use Rattle.rules.specs.Steps.{Stepped, turned_away, step}
use Rattle.rules.specs.Sessions.{no_line, told}
use Rattle.promises.specs.Types.{Call, State}
use Rattle.promises.specs.Program.{lines_of, Answered}

-- the step d of the line l
pub data LineSteps (k : State) (s l : List ℕ) : Stepped → Type 0 where
  -- the line of a call with its item is the step of that call
  calls_line : (c : Call) (b : List ℕ) → HasLine c b → l ≡ line_of c b → LineSteps k s l (step k c b s)
  -- "3: the line is no call's line", where neither 1 nor 2 applies; "the kernel and all lent bytes stay"
  no_calls_line : ((c : Call) (b : List ℕ) → HasLine c b → l ≡ line_of c b → ⊥) → LineSteps k s l (turned_away k (no_line k s) s)

-- "one answer line for each": the lines one after the other, each from the kernel and the store that the last one left
pub data LinesAnswered : State → List ℕ → List (List ℕ) → Answered → Type 0 where
  no_lines : {k : State} {s : List ℕ} → LinesAnswered k s [] (record { kernel = k; store = s; answers = [] })
  one_line : {k : State} {s l : List ℕ} {ls : List (List ℕ)} {d : Stepped} {r : Answered} → LineSteps k s l d → LinesAnswered d.kernel d.store ls r
      → LinesAnswered k s (l ∷ ls) (record { kernel = r.kernel; store = r.store; answers = told d ++ r.answers })

-- "The program starts from the fresh kernel and a store of zeros."
abbrev pub ProgramAnswers : List ℕ → Answered → Type 0
ProgramAnswers input r = LinesAnswered fresh (replicate 9216 0) (lines_of input) r
