-- What is read as an item at a place.
use Rattle.std.specs.Prelude.{ℕ, zero, suc, ◌+◌, ◌*◌, min, List, [], ◌∷◌, length, drop, replicate, ltb, if◌then◌else◌}
use Rattle.std.proofs.lemmas.List.Edits.{sets}
use Rattle.fields.specs.Digit.{nibble_of}
use Rattle.fields.specs.declared.Item.{Item}

-- the byte of two digits, and 256 where they are not both digits
unfoldable pub pair_of : ℕ → ℕ → ℕ
pair_of x y = min (nibble_of x * 16 + nibble_of y) 256

-- the byte whose digits are at the front, and 256 where there are none
abbrev pub byte_of : List ℕ → ℕ
byte_of [] = 256
byte_of (x ∷ []) = 256
byte_of (x ∷ y ∷ l) = pair_of x y

-- the bytes of the longest item at the front, up to k of them
unfoldable pub bytes_in : ℕ → List ℕ → List ℕ
bytes_in zero l = []
bytes_in (suc k) l = if ltb (byte_of l) 256 then byte_of l ∷ bytes_in k (drop 2 l) else []

-- the bytes b with zeros after them
abbrev pub filled : List ℕ → List ℕ
filled b = sets (replicate 64 0) 0 b

-- the bytes b, whose digits begin at the place i
abbrev pub item_from : ℕ → List ℕ → Item
item_from i b = record { bytes = filled b; len = length b; next = i + 2 * length b }

-- the longest item at the front of l, which begins at the place i
abbrev pub read_item : ℕ → List ℕ → Item
read_item i l = item_from i (bytes_in 64 l)
