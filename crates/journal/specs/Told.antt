-- What the answers of the reader and of the writers say.
use Rattle.std.specs.Prelude.{ℕ, Result, Ok, Err}
use Rattle.calls.specs.Table.{Entry, called}
use Rattle.calls.specs.Refusals.{number_of}
use Rattle.journal.specs.Types.{Call, Refusal}

pub data Told : Type 0 where
  -- "Call numbers 1 to 17, arguments in this order"
  tells_call : Entry → Told
  -- "A refusal returns the number"
  refused_with : ℕ → Told
  -- how many bytes were written
  wrote : ℕ → Told

-- what the reader answers: a call, or why there is none; and what a writer answers: how many bytes it wrote, or why none
abbrev pub Reading : Type 0
Reading = Result Call Refusal

abbrev pub Written : Type 0
Written = Result ℕ Refusal

-- what a reading says
abbrev pub reads : Reading → Told
reads (Ok c) = tells_call (called c)
reads (Err r) = refused_with (number_of r)

-- what a writer's answer says
abbrev pub writes : Written → Told
writes (Ok n) = wrote n
writes (Err r) = refused_with (number_of r)
