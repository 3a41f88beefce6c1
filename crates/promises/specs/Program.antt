-- "a program that reads call lines from standard input and writes one answer line for each": what an input is answered, line by line.
use Rattle.std.specs.Prelude.{ℕ, suc, eqb, replicate, if◌then◌else◌}
use mathlib.Core.List.{List, [], ◌∷◌, map, flatten}
use Rattle.calls.specs.Door.{task_no}
use Rattle.calls.specs.Said.{says, refused}
use Rattle.journal.specs.Reply.{reply}
use Rattle.rules.specs.State.{State}
use Rattle.rules.specs.Tables.{fresh}
use Rattle.rules.specs.Sessions.{told, step_of_line}
use Rattle.rules.specs.Trace.{trace, state_after, store_after}

-- a byte in front of the first line; a line of its own where there is none
abbrev pub in_front : ℕ → List (List ℕ) → List (List ℕ)
in_front b [] = (b ∷ []) ∷ []
in_front b (l ∷ ls) = (b ∷ l) ∷ ls

-- the lines of an input: a newline, byte 10, is the last byte of its line; what stands after the last newline is "a last line without a newline"
unfoldable pub lines_of : List ℕ → List (List ℕ)
lines_of [] = []
lines_of (b ∷ input) = if eqb b 10 then (b ∷ []) ∷ lines_of input else in_front b (lines_of input)

-- what comes of some lines: the kernel and the store after them, and the bytes of all answers
pub record Answered : Type 0 where
  pub kernel : State
  pub store : List ℕ
  pub answers : List ℕ

-- "one answer line for each": the lines one after the other, each from the kernel and the store that the last one left
unfoldable pub answering : State → List ℕ → List (List ℕ) → Answered
answering k s ls =
    let ms = trace step_of_line k s ls in
    record { kernel = state_after k ms; store = store_after s ms; answers = flatten (map (λ m. told m.gave) ms) }

-- "The program starts from the fresh kernel and a store of zeros."
abbrev pub program : List ℕ → Answered
program input = answering fresh (replicate 9216 0) (lines_of input)

-- all that the program writes
abbrev pub answers_to : List ℕ → List ℕ
answers_to input = (program input).answers

-- how many newlines are among the bytes
unfoldable pub newlines : List ℕ → ℕ
newlines [] = 0
newlines (b ∷ l) = if eqb b 10 then suc (newlines l) else newlines l

-- m lines, each answered "no" with the refusal number n; "the kernel and all lent bytes stay"
abbrev pub all_refused : State → List ℕ → ℕ → ℕ → Answered
all_refused k s n m = record { kernel = k; store = s; answers = flatten (replicate m (reply (says refused n) (task_no k.uses k.running))) }
