-- The journal line of a call, from the table of calls.
use Rattle.std.specs.Prelude.{ℕ, ◌≤◌, ◌≡◌, Bool, false, List, [], ◌∷◌, ◌++◌, length, if◌then◌else◌}
use Rattle.lists.specs.Lists.{any}
use Rattle.calls.specs.Table.{called}
use Rattle.calls.specs.Words.{Field, a_number, bytes, fields_of, is_bytes}
use Rattle.fields.specs.Decimal.{dec}
use Rattle.fields.specs.Hex.{hex, Bytes}
use Rattle.journal.specs.Types.{Call}

-- "in decimal without needless zeros"; "an item is lower-case hex, two digits a byte"
abbrev pub text : List ℕ → Field → List ℕ
text b (a_number n) = dec n
text b bytes = hex b

-- "parted by one tab", which is byte 9; "then a newline", byte 10
abbrev pub fields_text : List ℕ → List Field → List ℕ
fields_text b [] = 10 ∷ []
fields_text b (x ∷ xs) = 9 ∷ (text b x ++ fields_text b xs)

-- "The call number and its arguments": the line of the call c with the item b
unfoldable pub line_of : Call → List ℕ → List ℕ
line_of c b = dec (called c).number ++ fields_text b (fields_of c)

-- whether the call has an item: "send: object, item, wait"
unfoldable pub carries : Call → Bool
carries c = any is_bytes (fields_of c)

-- the item of the call c where the bytes b are lent beside it: what is lent beside a call that has none is passed over
abbrev pub its_item : Call → List ℕ → List ℕ
its_item c b = if carries c then b else []

-- "each at most 4,294,967,295"; "0 to 64 bytes"
abbrev pub FieldFits : List ℕ → Field → Type 0
FieldFits b (a_number n) = n ≤ 4294967295
FieldFits b bytes = (length b ≤ 64) × Bytes b

-- all that stands in the line fits
abbrev pub AllFit : List ℕ → List Field → Type 0
AllFit b [] = Unit {0}
AllFit b (x ∷ xs) = FieldFits b x × AllFit b xs

-- the call c with the item b has a line: all in it fits, and a call that has no item comes with no bytes
pub record HasLine (c : Call) (b : List ℕ) : Type 0 where
  pub fits : AllFit b (fields_of c)
  pub none : carries c ≡ false → b ≡ []
