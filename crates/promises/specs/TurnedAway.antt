-- "A refusal carries its number, is given exactly where document 01 says, and leaves the kernel and every lent byte as they were."
use Rattle.std.specs.Prelude.{ℕ, ◌≡◌, true, false, not, ◌⊎◌, List, [], ◌∷◌, length}
use Rattle.calls.specs.Behind.{asked}
use Rattle.calls.specs.Said.{says, refused}
use Rattle.rules.specs.Tables.{with_uses}
use Rattle.rules.specs.Lines.{chosen}
use Rattle.rules.specs.Sound.{sound}
use Rattle.rows.specs.Applies.{Row, row, table}
use Rattle.rules.specs.Refusals.{seen}
use Rattle.rules.specs.Steps.{Stepped, answered, stored, uses_after, after}
use Rattle.promises.specs.Types.{Asked, Call, State}

-- the table of refusals, whole: 1 "the kernel value is not sound" stands first. (3 is the line reader's.)
abbrev pub whole_table : State → Asked → ℕ → ℕ → List Row
whole_table k a item store = row 1 (not (sound k)) ∷ table (seen k a) a item store

-- "Of the numbers that apply, the one that stands first": row n applies, and none before it
pub data First (n : ℕ) : List Row → Type 0 where
  this_row : {r : Row} {rs : List Row} → r.number ≡ n → r.applies ≡ true → First n (r ∷ rs)
  below : {r : Row} {rs : List Row} → r.applies ≡ false → First n rs → First n (r ∷ rs)

-- "and none otherwise": no row applies
pub data None : List Row → Type 0 where
  end : None []
  not_this_row : {r : Row} {rs : List Row} → r.applies ≡ false → None rs → None (r ∷ rs)

-- the step d is a refusal n: it carries its number, and the kernel and all lent bytes stay
pub record Refusal (k : State) (s : List ℕ) (n : ℕ) (d : Stepped) : Type 0 where
  pub number : d.answer ≡ says refused n
  pub kernel : d.kernel ≡ k
  pub store : d.store ≡ s

-- the step d is what the call tables say, and no refusal
pub record Accepted (k : State) (c : Call) (item s : List ℕ) (d : Stepped) : Type 0 where
  pub kernel : d.kernel ≡ with_uses (chosen (after k (asked k.uses c))) (uses_after k.uses (asked k.uses c))
  pub answer : d.answer ≡ answered k (asked k.uses c) (chosen (after k (asked k.uses c)))
  pub store : d.store ≡ stored k (asked k.uses c) item s
  pub no_refusal : (n : ℕ) → d.answer ≡ says refused n → ⊥

-- refused n exactly if row n is the first that applies, and then nothing has changed; else accepted
pub record Exactly (k : State) (c : Call) (item s : List ℕ) (d : Stepped) : Type 0 where
  pub given : (n : ℕ) → First n (whole_table k (asked k.uses c) (length item) (length s)) → Refusal k s n d
  pub only : (n : ℕ) → d.answer ≡ says refused n → First n (whole_table k (asked k.uses c) (length item) (length s))
  pub else : None (whole_table k (asked k.uses c) (length item) (length s)) → Accepted k c item s d

-- one of the two holds: some row is the first that applies, or none applies
pub record Some (rs : List Row) : Type 0 where
  pub number : ℕ
  pub first : First number rs

abbrev pub Decided : List Row → Type 0
Decided rs = Some rs ⊎ None rs
