-- Where the bytes of an item lie in the lent store.
use Rattle.std.specs.Prelude.{ℕ, ◌+◌, ◌*◌, ◌%◌}
use Rattle.rules.specs.Types.{TaskSlot, ObjSlot, Ring}

-- "Task t has a slip of 64 bytes from 8,192 + 64t."
abbrev pub slip_of : TaskSlot → ℕ
slip_of t = 8192 + 64 * t.0

-- "Object k has the 512 bytes from 512k."; "Item i from the oldest lies in place (first + i) mod capacity of the object's part; place p begins p times the item size into it."
unfoldable pub item_at : ObjSlot → Ring → ℕ → ℕ
item_at o q i = 512 * o.0 + (q.first + i) % q.capacity * q.size
