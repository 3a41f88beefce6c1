-- What the public functions promise, for every kernel value.
use Rattle.std.specs.Prelude.{◌≡◌, ℕ, List, [], ◌∷◌, ◌++◌, length, drop, Result, Ok, Err}
use Rattle.calls.specs.declared.Call.{Call}
use Rattle.calls.specs.declared.Asked.{Asked}
use Rattle.calls.specs.declared.Answer.{Answer}
use Rattle.calls.specs.declared.Answer.TheVariants.{Refused}
use Rattle.calls.specs.declared.refusals.Refusal.{Refusal}
use Rattle.calls.specs.Refusals.{number_of}
use Rattle.calls.specs.Said.{said}
use Rattle.cuts.specs.Keeping.{no_byte}
use Rattle.rules.specs.Tables.{fresh}
use Rattle.rules.specs.Refusals.{later_row}
use Rattle.rules.specs.Steps.{Stepped, stepped_by, step}
use Rattle.rules.specs.Sessions.{step_of_line, Run, run, begun, closed}
use Rattle.kernel.specs.Types.{Kernel, Sleep, Ticks, ForEver, Step, Session, Served}
use Rattle.kernel.specs.Stands.{kernel_of, shown, standing}

-- what was answered: a refusal by its number
abbrev pub told_of : Result Answer Refusal → Answer
told_of (Ok n) = n
told_of (Err r) = Refused (number_of r)

-- what comes of a call that is answered so in place, with the kernel afterwards
abbrev pub came : Kernel → Result Answer Refusal → Step
came k r = record { kernel = k; answer = told_of r }

-- the step r from the kernel value k, with the store s afterwards, is what the definition d says: refused as not sound, k comes back as it was
pub record Is (k : Kernel) (d : Stepped) (r : Step) (s : List ℕ) : Type 0 where
  pub kernel : r.kernel ≡ standing k d.kernel
  pub answer : said r.answer ≡ d.answer
  pub store : s ≡ d.store

-- the step of a sound kernel: rows 2 to 18 of the table decide
abbrev pub SoundSteps : Kernel → Asked → List ℕ → List ℕ → Step → List ℕ → Type 0
SoundSteps k a item s r after = Is k (stepped_by (later_row (shown k) a (length item) (length s)) (shown k) a item s) r after

-- the step of any kernel value
abbrev pub Steps : Kernel → Call → List ℕ → List ℕ → Step → List ℕ → Type 0
Steps k c item s r after = Is k (step (shown k) c item s) r after

-- the step of a line, whatever its bytes and their number
abbrev pub ReadsAndSteps : Kernel → List ℕ → List ℕ → Step → List ℕ → Type 0
ReadsAndSteps k line s r after = Is k (step_of_line (shown k) s line) r after

-- what was served, with the kernel value k, the store s and the lent output o afterwards, is the session's run: the answers stand first in the output,
-- and its other bytes stay
pub record Ran (k : Kernel) (d : Run) (lent : List ℕ) (r : Served) (s o : List ℕ) : Type 0 where
  pub kernel : r.session.kernel ≡ k
  pub cut : r.session.cut ≡ d.cut
  pub taken : r.taken ≡ d.taken
  pub written : r.written ≡ length d.answers
  pub store : s ≡ d.store
  pub output : o ≡ d.answers ++ drop (length d.answers) lent

-- the run of a block
abbrev pub ran_of : Session → List ℕ → List ℕ → List ℕ → Run
ran_of n block s lent = run (length lent) (begun (shown n.kernel) s n.cut) block

-- the promise of a block: every line that ends in it is answered, as far as the answers fit
abbrev pub Answers : Session → List ℕ → List ℕ → List ℕ → Served → List ℕ → List ℕ → Type 0
Answers n block s lent r after o = Ran (standing n.kernel (ran_of n block s lent).kernel) (ran_of n block s lent) lent r after o

-- the promise of the input's end, which changes no kernel and no store
abbrev pub Closes : Session → List ℕ → List ℕ → Served → List ℕ → Type 0
Closes n s lent r o = Ran n.kernel (closed (length lent) (shown n.kernel) s n.cut) lent r s o

-- so many ticks, or none: for ever
abbrev pub ticks_of : Sleep → List ℕ
ticks_of (Ticks n) = n ∷ []
ticks_of ForEver = []

-- "The program starts from the fresh kernel and a store of zeros."
unfoldable pub new_session : Session
new_session = record { kernel = kernel_of fresh; cut = no_byte }
