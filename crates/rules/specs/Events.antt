-- Event groups: "24 bits, at first 0"; set, clear and wait, what they do to the kernel, and what to the lent store.
use Rattle.std.specs.Prelude.{ℕ, zero, suc, List, [], ◌∷◌, eqb, if◌then◌else◌}
use Rattle.std.specs.Int.Bits.{bit_or}
use Rattle.lists.specs.Lists.{foldl}
use Rattle.lists.specs.FourBytes.{four_bytes}
use Rattle.numbers.specs.Numbers.{object}
use Rattle.items.specs.Bytes.{put_at}
use Rattle.slots.specs.Wants.{satisfied, cleared, clears, want_in}
use Rattle.slots.specs.Values.{task_at}
use Rattle.rules.specs.Types.{TaskSlot, ObjSlot, Want, Bits, Ready, Task, Kind, Unused, SpentObject, Queue, Mutex, Group, those_satisfied_on, Asked, State}
use Rattle.rules.specs.Tables.{free_object, with_object}
use Rattle.rules.specs.Lines.{first}
use Rattle.rules.specs.Waits.{arrives, wait_for}
use Rattle.rules.specs.Parts.{slip_of}

-- 20: "lowest free object"; "24 bits, at first 0"
unfoldable pub group_made : State → State
group_made k = with_object k (object (free_object k.objects)) (Group 0)

-- "gets the bits as they were judged, four bytes, low byte first"
unfoldable pub slip_bits : ℕ → TaskSlot → List ℕ → List ℕ
slip_bits b t s = put_at (slip_of t) (four_bytes b) s

-- ── 21: set. Below, b are the bits with those of the call joined in
-- nobody, or t, and then whoever comes after t
abbrev pub and_on : List TaskSlot → (TaskSlot → List TaskSlot) → List TaskSlot
and_on [] on = []
and_on (t ∷ l) on = t ∷ on t

-- "in first-waiter order, all judged on the same bits": the first waiter of those that b satisfies, then the first of those that are left; n of them at most
unfoldable pub woken_in : ℕ → State → ObjSlot → ℕ → List TaskSlot
woken_in zero k o b = []
woken_in (suc n) k o b = and_on (first k (those_satisfied_on o b)) (λ t. woken_in n (arrives k t Ready 1) o b)

-- "every waiter that the bits satisfy": 16 are enough, since there are sixteen tasks (`none_left`)
unfoldable pub woken_by : State → ObjSlot → ℕ → List TaskSlot
woken_by k o b = woken_in 16 k o b

-- "A set wakes .., outcome 1"
unfoldable pub all_woken : State → List TaskSlot → State
all_woken k l = foldl (λ j t. arrives j t Ready 1) k l

-- what those of l ask to have cleared
unfoldable pub clears_of : List Task → List TaskSlot → ℕ
clears_of ts l = foldl (λ m t. bit_or m (clears (want_in (task_at ts t).place))) 0 l

-- "and the clears happen together afterwards"
unfoldable pub bits_set : State → ObjSlot → ℕ → State
bits_set k o b = with_object (all_woken k (woken_by k o b)) o (Group (cleared b (clears_of k.tasks (woken_by k o b))))

-- "Each woken task's slip .. gets the bits"
unfoldable pub store_set : State → ObjSlot → ℕ → List ℕ → List ℕ
store_set k o b s = foldl (λ r t. slip_bits b t r) s (woken_by k o b)

-- ── 23: wait
-- "object, mask, all, clear": "The flags all and clear are 0 or 1"
abbrev pub want_by : Asked → Want
want_by a = Bits a.bits (eqb a.all 1) (eqb a.clear 1)

-- where b satisfies it, "kept or cleared"; else the caller waits
unfoldable pub awaited : State → ObjSlot → ℕ → Want → ℕ → State
awaited k o b x w = if satisfied b x then with_object k o (Group (cleared b (clears x))) else wait_for k o x w

-- "and that of a caller satisfied at once"
unfoldable pub store_awaited : State → ℕ → Want → List ℕ → List ℕ
store_awaited k b x s = if satisfied b x then slip_bits b k.running s else s

-- ── of an object of any kind: only an event group is set, cleared or waited for so
abbrev pub set_on : State → ObjSlot → Kind → ℕ → State
set_on k o Unused m = k
set_on k o SpentObject m = k
set_on k o (Queue q) m = k
set_on k o (Mutex s h) m = k
set_on k o (Group b) m = bits_set k o (bit_or b m)

abbrev pub store_set_on : State → ObjSlot → Kind → ℕ → List ℕ → List ℕ
store_set_on k o Unused m s = s
store_set_on k o SpentObject m s = s
store_set_on k o (Queue q) m s = s
store_set_on k o (Mutex n h) m s = s
store_set_on k o (Group b) m s = store_set k o (bit_or b m) s

-- 22: clear
abbrev pub cleared_on : State → ObjSlot → Kind → ℕ → State
cleared_on k o Unused m = k
cleared_on k o SpentObject m = k
cleared_on k o (Queue q) m = k
cleared_on k o (Mutex s h) m = k
cleared_on k o (Group b) m = with_object k o (Group (cleared b m))

abbrev pub awaited_on : State → ObjSlot → Kind → Want → ℕ → State
awaited_on k o Unused x w = k
awaited_on k o SpentObject x w = k
awaited_on k o (Queue q) x w = k
awaited_on k o (Mutex s h) x w = k
awaited_on k o (Group b) x w = awaited k o b x w

abbrev pub store_awaited_on : State → Kind → Want → List ℕ → List ℕ
store_awaited_on k Unused x s = s
store_awaited_on k SpentObject x s = s
store_awaited_on k (Queue q) x s = s
store_awaited_on k (Mutex n h) x s = s
store_awaited_on k (Group b) x s = store_awaited k b x s
