-- The program's definition says what document 01's words say of its lines, and nothing else fits them: so how a line is read need not be believed.
use Prim.Native.Nat.{ℕ}
use mathlib.Core.Path.{◌≡◌, refl, sym, ap, subst, ◌∙◌}
use mathlib.Core.Logic.{⊎_elim}
use mathlib.Core.List.{List, [], ◌∷◌, ◌++◌, flatten}
use lib.ListN.{replicate}
use Rattle.lists.specs.Lists.{foldl}
use Rattle.journal.specs.Promise.{IsLine, NoLine}
use Rattle.journal.specs.Reader.{read_of}
use Rattle.journal.proofs.Promised.{reads_as}
use Rattle.rules.specs.Tables.{fresh}
use Rattle.rules.specs.Steps.{Stepped}
use Rattle.rules.specs.Sessions.{told, step_of_line}
use Rattle.rules.specs.Trace.{trace}
use Rattle.promises.specs.Types.{State}
use Rattle.promises.specs.Program.{lines_of, Answered, answering, program}
use Rattle.promises.specs.ByLines.{LineSteps, calls_line, no_calls_line, LinesAnswered, no_lines, one_line, ProgramAnswers}
use Rattle.promises.proofs.LineSteps.{call_line, no_call_line}

module _ (k : State) (s l : List ℕ) where
  pub line_steps : LineSteps k s l (step_of_line k s l)
  line_steps =
      ⊎_elim
      (λ (f : IsLine l (read_of l)).
      let e : step_of_line k s l ≡ _ = ap (step_of_line k s) f.line ∙ call_line k s f.call f.item f.has in
      subst (λ (d : Stepped). LineSteps k s l d) (sym e) (calls_line f.call f.item f.has f.line))
      (λ (f : NoLine l (read_of l)). subst (λ (d : Stepped). LineSteps k s l d) (sym (no_call_line k s l f.none)) (no_calls_line f.none))
      (reads_as l)

  pub one_line_step : {d : Stepped} → LineSteps k s l d → d ≡ step_of_line k s l
  one_line_step (calls_line c b h e) = sym (ap (step_of_line k s) e ∙ call_line k s c b h)
  one_line_step (no_calls_line n) = sym (no_call_line k s l n)

pub lines_answered : (k : State) (s : List ℕ) (ls : List (List ℕ)) → LinesAnswered k s ls (answering k s ls)
unfolding answering foldl trace flatten
lines_answered k s [] = no_lines
lines_answered k s (l ∷ ls) = one_line (line_steps k s l) (lines_answered (step_of_line k s l).kernel (step_of_line k s l).store ls)

pub one_answering : {k : State} {s : List ℕ} {ls : List (List ℕ)} {r : Answered} → LinesAnswered k s ls r → r ≡ answering k s ls
unfolding answering foldl trace flatten
one_answering no_lines = refl
one_answering (one_line {k} {s} {l} {ls} {d} {r} f g) =
    ap (λ (x : Answered). record { kernel = x.kernel; store = x.store; answers = told d ++ x.answers }) (one_answering g)
    ∙ ap (λ (x : Stepped). let y = answering x.kernel x.store ls in record { kernel = y.kernel; store = y.store; answers = told x ++ y.answers }) (one_line_step k s l f)

-- the program's answers are the ones that document 01's words ask for, and the only ones
pub program_answers : (input : List ℕ) → ProgramAnswers input (program input)
program_answers input = lines_answered fresh (replicate 9216 0) (lines_of input)

pub no_other_answers : (input : List ℕ) (r : Answered) → ProgramAnswers input r → r ≡ program input
no_other_answers input r f = one_answering f
