-- The reader, step by step. A place past the line's end, or the end itself, is where nothing can be read. The reader's promise does not
-- speak of it, but the definitions of the session and of the program go through `read_of`. It need not be believed: `reads_as` (proofs/Promised)
-- and `read_is` (proofs/Theorems) say that it is the one reading that the reader's promise allows, and `call_line` and `no_call_line`
-- (promises/proofs/LineSteps) that a line's step is what document 01 says.
use Rattle.std.specs.Prelude.{ℕ, zero, suc, ◌+◌, ◌≤◌, ◌≡◌, Bool, true, false, ◌&&◌, List, [], ◌∷◌, length, drop, set, replicate, eqb, if◌then◌else◌, Option, Some, None, Ok, Err}
use Rattle.std.specs.Option.{unwrap_or}
use Rattle.lists.specs.Lists.{is_none}
use Rattle.calls.specs.Table.{call_of}
use Rattle.calls.specs.Words.{no_words, shape_of}
use Rattle.fields.specs.Number.{read_number}
use Rattle.fields.specs.Item.{item_from, read_item}
use Rattle.journal.specs.Types.{Call, Number, Item, NoCall, Read, Shape}

-- l is left at a place of a line of n bytes: the place after a tab
abbrev pub tab_in : ℕ → ℕ → List ℕ → ℕ
tab_in n at [] = n
tab_in n at (x ∷ l) = if eqb x 9 then at + 1 else n

abbrev pub after_tab : List ℕ → ℕ → ℕ
after_tab l at = tab_in (length l) at (drop at l)

-- where no number stands, 0 and the line's end
abbrev pub no_number : List ℕ → Number
no_number l = record { value = 0; next = length l }

abbrev pub number_at : List ℕ → ℕ → Number
number_at l at = unwrap_or (read_number at (drop at l)) (no_number l)

-- the numbers among a call's arguments, as far as they are read, and the place after them
pub record Numbers : Type 0 where
  pub values : List ℕ
  pub next : ℕ

abbrev pub numbers_to : List ℕ → ℕ → Numbers
numbers_to vs at = record { values = vs; next = at }

-- k numbers, each after a tab, into the values from i on
unfoldable pub nums : List ℕ → ℕ → ℕ → List ℕ → ℕ → Numbers
nums l zero i vs at = numbers_to vs at
nums l (suc k) i vs at = nums l k (i + 1) (set vs i (number_at l (after_tab l at)).value) (number_at l (after_tab l at)).next

-- the numbers n were read into the values vs; or there were none at a place, and n goes to the line's end
abbrev pub NumbersRead : List ℕ → Numbers → List ℕ → Option ℕ → Type 0
NumbersRead l n vs (Some next) = numbers_to vs next ≡ n
NumbersRead l n vs None = length l ≤ n.next

-- where no item can stand, none and the line's end
abbrev pub no_item : List ℕ → Item
no_item l = item_from (length l) []

abbrev pub sent_at : List ℕ → ℕ → Bool → Item
sent_at l at true = read_item (after_tab l at) (drop (after_tab l at) l)
sent_at l at false = record { bytes = replicate 64 0; len = 0; next = at }

-- a newline and no more
abbrev pub end_of : List ℕ → Bool
end_of [] = false
end_of (x ∷ l) = if eqb x 10 then is_none l else false

abbrev pub read_as : Call → List ℕ → ℕ → Read
read_as c bs m = record { answer = Ok c; item = bs; len = m }

unfoldable pub no_call : Read
no_call = record { answer = Err NoCall; item = replicate 64 0; len = 0 }

-- the number n, the shape s, the numbers f before the item, the item i and the numbers r after it were read
abbrev pub read_end : List ℕ → ℕ → Shape → Item → Numbers → Read
read_end l n s i r = if s.known && end_of (drop r.next l) then read_as (call_of n r.values) i.bytes i.len else no_call

abbrev pub read_last : List ℕ → ℕ → Shape → Numbers → Item → Read
read_last l n s f i = read_end l n s i (nums l s.after s.before f.values i.next)

abbrev pub read_sent : List ℕ → ℕ → Shape → Numbers → Read
read_sent l n s f = read_last l n s f (sent_at l f.next s.item)

abbrev pub read_first : List ℕ → Number → Shape → Read
read_first l p s = read_sent l p.value s (nums l s.before 0 no_words p.next)

unfoldable pub read_of : List ℕ → Read
read_of l = read_first l (number_at l 0) (shape_of (number_at l 0).value)

-- a line's call and its item, or none
abbrev pub read_or_none : Option (Call × Item) → Read
read_or_none (Some x) = read_as x.0 x.1.bytes x.1.len
read_or_none None = no_call
