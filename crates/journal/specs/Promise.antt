-- What the reader and the writers promise.
use Rattle.std.specs.Prelude.{ℕ, ◌≤◌, ◌≡◌, ◌⊎◌, List, [], ◌++◌, length, drop, eqb, ltb, if◌then◌else◌}
use Rattle.calls.specs.Table.{called}
use Rattle.fields.specs.Item.{filled}
use Rattle.journal.specs.Types.{Call, Answer, TaskNo, Read}
use Rattle.journal.specs.Line.{line_of, HasLine}
use Rattle.journal.specs.Reply.{reply_of}
use Rattle.journal.specs.Told.{Told, tells_call, refused_with, wrote, Written, reads, writes}

-- what was read says t, with the bytes b
pub record Tells (r : Read) (t : Told) (b : List ℕ) : Type 0 where
  pub answer : reads r.answer ≡ t
  pub bytes : r.item ≡ filled b
  pub len : r.len ≡ length b

-- "A reader is lent one line": l is the line of a call with an item, and r tells both
pub record IsLine (l : List ℕ) (r : Read) : Type 0 where
  pub call : Call
  pub item : List ℕ
  pub has : HasLine call item
  pub line : l ≡ line_of call item
  pub tells : Tells r (tells_call (called call)) item

-- refusal 3: "the line is no call's line"
pub record NoLine (l : List ℕ) (r : Read) : Type 0 where
  pub none : (c : Call) (b : List ℕ) → HasLine c b → l ≡ line_of c b → ⊥
  pub tells : Tells r (refused_with 3) []

-- the reader's promise: a call's line is read as the call, and any other line is refused
abbrev pub ReadsAs : List ℕ → Read → Type 0
ReadsAs l r = IsLine l r ⊎ NoLine l r

-- a refusal that is not 0 is answered, and the lent line l stays; else the text stands in its first bytes, "A writer leaves the bytes
-- after the newline as they were", and the answer counts what was written. m is the lent line afterwards
pub record Writes (n : ℕ) (text l : List ℕ) (w : Written) (m : List ℕ) : Type 0 where
  pub answer : writes w ≡ if eqb n 0 then wrote (length text) else refused_with n
  pub line : m ≡ if eqb n 0 then text ++ drop (length text) l else l

-- 2: "for a line's writer, the lent line is not 256 bytes"; else n, for "the one that stands first in this table is given"
abbrev pub line_refusal : List ℕ → ℕ → ℕ
line_refusal l n = if eqb (length l) 256 then n else 2

-- 6: the item's length, "for a line's writer, it is above 64"
abbrev pub item_refusal : List ℕ → ℕ
item_refusal b = if ltb 64 (length b) then 6 else 0

-- the promise of a call's writer, of the call c with its item b: 2 and then 6, else the line of the call. And, whatever line is lent, "each
-- call whose item is at most 64 bytes has one journal line": the numbers of a call that code holds are u32, and the lent bytes u8
pub record WritesCall (c : Call) (b l : List ℕ) (w : Written) (m : List ℕ) : Type 0 where
  pub written : Writes (line_refusal l (item_refusal b)) (line_of c b) l w m
  pub has : length b ≤ 64 → HasLine c b

-- the promise of an answer's writer: 2, else the line of the answer
abbrev pub WritesAnswer : Answer → TaskNo → List ℕ → Written → List ℕ → Type 0
WritesAnswer a t l w m = Writes (line_refusal l 0) (reply_of a t) l w m
