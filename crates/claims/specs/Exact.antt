-- What a step of the code is, by the table of refusals (`whole_table` in promises/specs/TurnedAway).
use Rattle.std.specs.Prelude.{ℕ, ◌≡◌, List, length}
use Rattle.calls.specs.declared.Asked.{Asked}
use Rattle.calls.specs.Behind.{asked}
use Rattle.calls.specs.Said.{says, said, refused}
use Rattle.rules.specs.Tables.{with_uses}
use Rattle.rules.specs.Lines.{chosen}
use Rattle.rows.specs.Applies.{Row}
use Rattle.rules.specs.Steps.{Stepped, answered, stored, uses_after, after as after_call}
use Rattle.kernel.specs.Stands.{kernel_of, shown}
use Rattle.promises.specs.TurnedAway.{whole_table, First, None}
use Rattle.claims.specs.Types.{Call, Kernel, Step}

-- what a step shows: the state of its kernel value, what it answers, and the store
abbrev pub shown_step : Step → List ℕ → Stepped
shown_step r after = record { kernel = shown r.kernel; answer = said r.answer; store = after }

-- r and the store `after` are a refusal n: it carries its number, and the kernel value and all lent bytes stay
pub record ValueRefused (k : Kernel) (s : List ℕ) (n : ℕ) (r : Step) (after : List ℕ) : Type 0 where
  pub number : said r.answer ≡ says refused n
  pub kernel : r.kernel ≡ k
  pub store : after ≡ s

-- the call behind the door of a kernel value
abbrev pub behind : Kernel → Call → Asked
behind k c = asked (shown k).uses c

-- r and the store `after` are what the call tables say, and no refusal
pub record ValueAccepted (k : Kernel) (c : Call) (item s : List ℕ) (r : Step) (after : List ℕ) : Type 0 where
  pub kernel : r.kernel ≡ kernel_of (with_uses (chosen (after_call (shown k) (behind k c))) (uses_after (shown k).uses (behind k c)))
  pub answer : said r.answer ≡ answered (shown k) (behind k c) (chosen (after_call (shown k) (behind k c)))
  pub store : after ≡ stored (shown k) (behind k c) item s
  pub no_refusal : (n : ℕ) → said r.answer ≡ says refused n → ⊥

-- the table, of a kernel value and a call
abbrev pub table_for : Kernel → Call → List ℕ → List ℕ → List Row
table_for k c item s = whole_table (shown k) (behind k c) (length item) (length s)

-- refused n exactly if row n is the first that applies, and then nothing has changed; else accepted
pub record ValueExactly (k : Kernel) (c : Call) (item s : List ℕ) (r : Step) (after : List ℕ) : Type 0 where
  pub given : (n : ℕ) → First n (table_for k c item s) → ValueRefused k s n r after
  pub only : (n : ℕ) → said r.answer ≡ says refused n → First n (table_for k c item s)
  pub else : None (table_for k c item s) → ValueAccepted k c item s r after
