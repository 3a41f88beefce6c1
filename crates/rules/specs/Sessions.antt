-- A session: bytes come in blocks, cut anywhere; each line that ends among them is answered with one line.
use Rattle.std.specs.Prelude.{ℕ, ◌+◌, Bool, ◌&&◌, List, [], ◌∷◌, ◌++◌, eqb, ltb, length, take, if◌then◌else◌, Ok, Err}
use Rattle.calls.specs.Door.{task_no}
use Rattle.cuts.specs.Keeping.{with_byte, ended, is_blank}
use Rattle.journal.specs.declared.Read.{Read}
use Rattle.journal.specs.Told.{Reading}
use Rattle.journal.specs.Reader.{read_of, no_call}
use Rattle.journal.specs.Reply.{reply}
use Rattle.rules.specs.Types.{State, Cut}
use Rattle.rules.specs.Sound.{sound}
use Rattle.rules.specs.Steps.{Stepped, turned_away, step}

-- "Of the numbers that apply, the one that stands first in this table is given": 1 and 2 stand before 3, "the line is no call's line"
abbrev pub no_line_of : Bool → ℕ → ℕ
no_line_of fine n = if fine then (if eqb n 9216 then 3 else 2) else 1

unfoldable pub no_line : State → List ℕ → ℕ
no_line k s = no_line_of (sound k) (length s)

-- what the reader made of a line: the step of its call, or a refusal
abbrev pub step_told : State → List ℕ → Reading → List ℕ → Stepped
step_told k s (Ok c) item = step k c item s
step_told k s (Err n) item = turned_away k (no_line k s) s

abbrev pub step_read : State → List ℕ → Read → Stepped
step_read k s r = step_told k s r.answer (take r.len r.item)

-- what a line says, whatever its length: "a longer line is one refusal 3". (`read_of` is the one reading that the reader's promise allows: `reads_as`,
-- `read_is` in journal/proofs. `no_call` is refusal 3.)
unfoldable pub read_line : List ℕ → Read
read_line l = if ltb 256 (length l) then no_call else read_of l

-- the step of a line: that of its call with its item, or a refusal
unfoldable pub step_of_line : State → List ℕ → List ℕ → Stepped
step_of_line k s l = step_read k s (read_line l)

-- the same of a line that has ended, of which at most 256 bytes are kept
unfoldable pub read_cut : Cut → Read
read_cut c = if ltb 256 c.len then no_call else read_of (take c.len c.bytes)

unfoldable pub line_step : State → List ℕ → Cut → Stepped
line_step k s c = step_read k s (read_cut c)

-- a session under way: how many bytes are taken, the kernel and the store, what there is of the next line, and all answers so far
pub record Run : Type 0 where
  pub taken : ℕ
  pub kernel : State
  pub store : List ℕ
  pub cut : Cut
  pub answers : List ℕ

-- the answer line: "the running task afterwards" is that of the next kernel
abbrev pub told : Stepped → List ℕ
told d = reply d.answer (task_no d.kernel.uses d.kernel.running)

-- a line is answered by d
abbrev pub answered_by : Run → Cut → Stepped → Run
answered_by r c d = record { taken = r.taken + 1; kernel = d.kernel; store = d.store; cut = ended c; answers = r.answers ++ told d }

-- a byte is taken; a newline ends the line
unfoldable pub fed : Run → ℕ → Run
fed r b =
    if eqb b 10 then answered_by r (with_byte r.cut b) (line_step r.kernel r.store (with_byte r.cut b))
    else record { taken = r.taken + 1; kernel = r.kernel; store = r.store; cut = with_byte r.cut b; answers = r.answers }

-- output that does not fit is asked for again: of n bytes lent, 256 are to be free before a newline is taken
unfoldable pub no_room : ℕ → Run → ℕ → Bool
no_room n r b = eqb b 10 && ltb n (length r.answers + 256)

-- the bytes of a block, as far as the answers fit into n bytes: no trace of lines (`answering` in promises/specs/Program), since bytes are counted and it
-- stops where there is no room; with room it comes to one (`session_answers_lines` in promises/proofs)
unfoldable pub run : ℕ → Run → List ℕ → Run
run n r [] = r
run n r (b ∷ l) = if no_room n r b then r else run n (fed r b) l

-- a block begins
abbrev pub begun : State → List ℕ → Cut → Run
begun k s c = record { taken = 0; kernel = k; store = s; cut = c; answers = [] }

-- the input has ended: "and so is a last line without a newline"; asked for again if fewer than 256 of the n bytes lent are there
unfoldable pub closed : ℕ → State → List ℕ → Cut → Run
closed n k s c =
    if is_blank c then begun k s c
    else if ltb n 256 then begun k s c
    else record { taken = 0; kernel = k; store = s; cut = ended c; answers = told (turned_away k (no_line k s) s) }
