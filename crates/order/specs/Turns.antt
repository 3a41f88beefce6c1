-- The turn of a line in one go: the tasks that have had their turn go to the tail, in their order.
use Rattle.std.specs.Prelude.{ℕ, ◌+◌, ◌%◌, Bool, ◌&&◌, List, [], ◌∷◌, ◌++◌, ltb, length, get_or, take, if◌then◌else◌}
use Rattle.numbers.specs.declared.TaskSlot.{TaskSlot}
use Rattle.numbers.specs.Numbers.{idle, same_task}
use Rattle.order.specs.declared.Order.{Order}
use Rattle.order.specs.Order.{listed, ordered, appended_to}

-- `xs` without `ks`, which stand in it one after the other
unfoldable pub less_those : List TaskSlot → List TaskSlot → List TaskSlot
less_those [] ks = []
less_those (x ∷ xs) [] = x ∷ xs
less_those (x ∷ xs) (k ∷ ks) = if same_task x k then less_those xs ks else x ∷ less_those xs (k ∷ ks)

-- and with them at the tail
abbrev pub those_last : List TaskSlot → List TaskSlot → List TaskSlot
those_last xs ks = less_those xs ks ++ ks

abbrev pub turned_of : Order → List TaskSlot → Order
turned_of o ks = ordered (those_last (listed o) ks)

-- the head of the line `ks` goes to the tail, n times over. After a round of the line those of other lines stand first, and then the line as it was
abbrev pub times_turned : Order → List TaskSlot → ℕ → Order
times_turned o ks n = turned_of (if ltb n (length ks) then o else turned_of o ks) (take (n % length ks) ks)

-- and who then heads the line
abbrev pub head_after : List TaskSlot → ℕ → TaskSlot
head_after ks n = get_or ks (n % length ks) idle

-- the code's walk: what is left so far, and how many of `ks` it has met
pub record Walk : Type 0 where
  pub left : Order
  pub met : ℕ

abbrev pub walk : Order → ℕ → Walk
walk o j = record { left = o; met = j }

abbrev pub is_next : List TaskSlot → ℕ → TaskSlot → Bool
is_next ks j x = ltb j (length ks) && same_task x (get_or ks j idle)

abbrev pub past_next : List TaskSlot → Walk → TaskSlot → Walk
past_next ks w x = if is_next ks w.met x then walk w.left (w.met + 1) else walk (appended_to w.left x) w.met
