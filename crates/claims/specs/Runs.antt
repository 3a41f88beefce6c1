-- Runs of the code: calls one after the other, and a session served in turns. Each step is one that the code's promise allows.
use Rattle.std.specs.Prelude.{ℕ, ◌≡◌, List, [], ◌∷◌, ◌++◌, length, take, drop, replicate}
use Rattle.rules.specs.Trace.{CallMade}
use Rattle.kernel.specs.Stands.{kernel_of, shown}
use Rattle.kernel.specs.Promises.{Steps, Answers, new_session}
use Rattle.promises.specs.Program.{Answered, program}
use Rattle.promises.specs.Turns.{Turn, came_in}
use Rattle.claims.specs.Types.{Kernel, Step, Session, Served}

-- `Kernel::step`, from k on, of each call in turn: from the kernel value that the last one left, with any item and any store; the last one left j
pub data Called : Kernel → List CallMade → Kernel → Type 0 where
  none_called : {k : Kernel} → Called k [] k
  call : {k j : Kernel} {m : CallMade} {ms : List CallMade} {r : Step} {after : List ℕ}
      → Steps k m.call m.item m.store r after → Called r.kernel ms j → Called k (m ∷ ms) j

-- what a port has in hand between two turns: the session, the store, what came and was not taken yet, and all that was answered so far
pub record Port : Type 0 where
  pub session : Session
  pub store : List ℕ
  pub waits : List ℕ
  pub answers : List ℕ

-- r was served, and `waits` was not taken; the store and the lent output are s and o afterwards
abbrev pub served_to : Port → List ℕ → Served → List ℕ → List ℕ → Port
served_to p waits r s o = record { session = r.session; store = s; waits = waits; answers = p.answers ++ take r.written o }

-- `Session::answer`, from p on, for each turn: what waits stands before what has come, and the bytes lent for the answers may hold anything; the last one left q
pub data Turned : Port → List Turn → Port → Type 0 where
  no_turn : {p : Port} → Turned p [] p
  turn : {p q : Port} {t : Turn} {ts : List Turn} {lent : List ℕ} {r : Served} {after o : List ℕ}
      → length lent ≡ t.lent → Answers p.session (p.waits ++ t.came) p.store lent r after o
      → Turned (served_to p (drop r.taken (p.waits ++ t.came)) r after o) ts q → Turned p (t ∷ ts) q

-- "The program starts from the fresh kernel and a store of zeros."
abbrev pub fresh_port : Port
fresh_port = record { session = new_session; store = replicate 9216 0; waits = []; answers = [] }

-- what has come of a session, in the words of the rules
abbrev pub port_outcome : Port → Answered
port_outcome p = record { kernel = shown p.session.kernel; store = p.store; answers = p.answers }

-- how far the session has come after some turns: what was taken, with what waits, is what came, and kernel and store are the program's on what was taken
pub record CameTo (ts : List Turn) (p : Port) : Type 0 where
  pub taken : List ℕ
  pub nothing_lost : taken ++ p.waits ≡ came_in ts
  pub kernel : p.session.kernel ≡ kernel_of (program taken).kernel
  pub store : p.store ≡ (program taken).store
