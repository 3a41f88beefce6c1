-- A session served in turns: its input comes in blocks, cut anywhere, and for each turn some bytes are lent for the answers.
use Rattle.std.specs.Prelude.{ℕ, ◌≤◌, ◌≡◌, List, [], ◌∷◌, ◌++◌, drop, replicate}
use Rattle.lists.specs.Lists.{foldl}
use Rattle.rules.specs.State.{State}
use Rattle.cuts.specs.declared.Cut.{Cut}
use Rattle.cuts.specs.Keeping.{no_byte}
use Rattle.rules.specs.Tables.{fresh}
use Rattle.rules.specs.Sessions.{Run, begun, fed, run, closed}
use Rattle.promises.specs.Program.{Answered}

-- what a turn brings: the bytes that have come, and how many bytes are lent for the answers
pub record Turn : Type 0 where
  pub came : List ℕ
  pub lent : ℕ

-- how a session stands between two turns: what came and was not taken yet waits; the answers are all that were written so far
pub record Pause : Type 0 where
  pub kernel : State
  pub store : List ℕ
  pub cut : Cut
  pub waits : List ℕ
  pub answers : List ℕ

-- the session goes on from p
abbrev pub goes_on : Pause → Run
goes_on p = begun p.kernel p.store p.cut

-- it went on from p as r says, and `waits` was not taken
abbrev pub paused : Pause → Run → List ℕ → Pause
paused p r waits = record { kernel = r.kernel; store = r.store; cut = r.cut; waits = waits; answers = p.answers ++ r.answers }

-- a block is handed in, with n bytes for the answers
abbrev pub handed_in : Pause → ℕ → List ℕ → Pause
handed_in p n block = paused p (run n (goes_on p) block) (drop (run n (goes_on p) block).taken block)

-- a turn: what waits stands before what has come
unfoldable pub after_turn : Pause → Turn → Pause
after_turn p t = handed_in p t.lent (p.waits ++ t.came)

-- the turns one after the other
abbrev pub after_turns : Pause → List Turn → Pause
after_turns p ts = foldl after_turn p ts

-- all bytes that have come in the turns
unfoldable pub came_in : List Turn → List ℕ
came_in [] = []
came_in (t ∷ ts) = t.came ++ came_in ts

-- the input has ended; n bytes are lent for the last answer
unfoldable pub after_end : Pause → ℕ → Pause
after_end p n = paused p (closed n p.kernel p.store p.cut) p.waits

-- a session begins: no byte waits, and nothing was answered
abbrev pub opened : State → List ℕ → Cut → Pause
opened k s c = record { kernel = k; store = s; cut = c; waits = []; answers = [] }

-- "from the fresh kernel and a store of zeros", and no byte of a line
abbrev pub at_start : Pause
at_start = opened fresh (replicate 9216 0) no_byte

-- what has come of a session
abbrev pub outcome : Pause → Answered
outcome p = record { kernel = p.kernel; store = p.store; answers = p.answers }

-- all of `taken` is taken, byte by byte and with room for every answer
abbrev pub in_one : Pause → List ℕ → List ℕ → Pause
in_one p taken waits = paused p (foldl fed (goes_on p) taken) waits

-- the session went from p to q on an input: what was taken and what waits are the input, and q is as if all that was taken had come in one
pub record Through (p : Pause) (input : List ℕ) (q : Pause) : Type 0 where
  pub taken : List ℕ
  pub nothing_lost : taken ++ q.waits ≡ input
  pub as_in_one : q ≡ in_one p taken q.waits

-- asked again and again: nothing new comes, and each time at least 256 bytes are lent
abbrev pub Asking : List Turn → Type 0
Asking [] = Unit {0}
Asking (t ∷ ts) = ((t.came ≡ []) × (256 ≤ t.lent)) × Asking ts
