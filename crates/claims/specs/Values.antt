-- Of a kernel value as the code holds it, in columns of numbers: when it is sound, and that a sound one is its state and nothing more.
use Rattle.std.specs.Prelude.{◌≡◌, true}
use Rattle.tasks.proofs.Columns.{Full as FullTasks}
use Rattle.objects.proofs.Columns.{Full as FullObjects}
use Rattle.rules.specs.Sound.{sound}
use Rattle.rules.specs.Sentences.{Sound}
use Rattle.kernel.specs.Stands.{kernel_of, plain, as_rows, shown}
use Rattle.claims.specs.Types.{Kernel}

-- "A kernel value is sound when"
pub record SoundValue (k : Kernel) : Type 0 where
  -- "a number that a state does not use is 0"
  pub unused : plain k.core ≡ true
  -- and every other sentence holds of what its tables read as
  pub state : Sound (as_rows k.core k.uses)

-- what the code's types say: each column of the two tables has its sixteen numbers
pub record Full (k : Kernel) : Type 0 where
  pub tasks : FullTasks k.core.tasks
  pub objects : FullObjects k.core.objects

-- a sound value is that of the state that it shows. The code's `sound` promises it of every value that code holds
abbrev pub Stands : Kernel → Type 0
Stands k = sound (shown k) ≡ true → k ≡ kernel_of (shown k)
