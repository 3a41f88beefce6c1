-- "Wait for several things at once": what the bits of an event group say, whom a set wakes, and what each of the four calls does, as a whole step.
use Rattle.std.specs.Prelude.{ℕ, ◌+◌, ◌/◌, ◌%◌, ◌^◌, ◌<◌, ◌≤◌, ◌≡◌, ◌⊎◌, Bool, true, false, ◌&&◌, List, ◌++◌, eqb, length, get_or}
use Rattle.std.specs.Int.Bits.{bit_or}
use Rattle.lists.specs.FourBytes.{four_bytes}
use Rattle.lists.specs.Lists.{foldl, kept}
use Rattle.numbers.specs.Numbers.{object}
use Rattle.order.specs.Order.{listed}
use Rattle.order.specs.Tidy.{count}
use Rattle.calls.specs.declared.ObjNo.{ObjNo}
use Rattle.calls.specs.Door.{obj_no, obj_slot}
use Rattle.calls.specs.Said.{says, made, waiting}
use Rattle.items.specs.Bytes.{bytes_at}
use Rattle.slots.specs.Kinds.{kind_at}
use Rattle.slots.specs.Values.{placed, task_at}
use Rattle.slots.specs.Wants.{all_bits, holds_of, cleared, satisfied_on, want_in}
use Rattle.rows.specs.Asking.{is}
use Rattle.rules.specs.Tables.{free_object, with_object}
use Rattle.rules.specs.Lines.{line, level, chosen}
use Rattle.rules.specs.Waits.{wait_for}
use Rattle.rules.specs.Parts.{slip_of}
use Rattle.rules.specs.Events.{slip_bits, woken_by, all_woken, clears_of, bits_set, store_set}
use Rattle.rules.specs.Steps.{Stepped, turned_away}
use Rattle.promises.specs.Types.{TaskSlot, ObjSlot, Bits, Ready, Group, Asked, State}
use Rattle.promises.specs.Advance.{done_with}

-- ── bit by bit
-- bit i of n is set
abbrev pub has_bit : ℕ → ℕ → Bool
has_bit i n = eqb (n / 2 ^ i % 2) 1

-- every bit of the mask m is a bit of b
abbrev pub EveryBit : ℕ → ℕ → Type 0
EveryBit b m = (i : ℕ) → has_bit i m ≡ true → has_bit i b ≡ true

-- some bit of the mask m is a bit of b
pub record SomeBit (b m : ℕ) : Type 0 where
  pub which : ℕ
  pub asked_for : has_bit which m ≡ true
  pub there : has_bit which b ≡ true

-- "any bit of the mask or all of them": exactly so
pub record SatisfiedSays (b m : ℕ) : Type 0 where
  pub all_there : holds_of b m true ≡ true → EveryBit b m
  pub all_hold : EveryBit b m → holds_of b m true ≡ true
  pub any_there : holds_of b m false ≡ true → SomeBit b m
  pub any_holds : SomeBit b m → holds_of b m false ≡ true

-- ── "gets the bits as they were judged, four bytes, low byte first": the slip of t, and every other byte is as it was
pub record SlipTold (t : TaskSlot) (b : ℕ) (s r : List ℕ) : Type 0 where
  pub told : bytes_at (slip_of t) 4 r ≡ four_bytes b
  pub as_it_was : (i : ℕ) → (i < slip_of t) ⊎ (slip_of t + 4 ≤ i) → get_or r i 0 ≡ get_or s i 0
  pub whole : length r ≡ length s

-- ── 21: set. Below, k is the kernel before it, and b are the bits with those of the call joined in
-- t waits on o, and b satisfies it
abbrev pub is_satisfied : State → ObjSlot → ℕ → TaskSlot → Bool
is_satisfied k o b t = satisfied_on o b (task_at k.tasks t).place

-- those who belong into the line of p, in order of arrival
abbrev pub woken_into : ℕ → State → ObjSlot → ℕ → List TaskSlot
woken_into p k o b = kept (λ t. is_satisfied k o b t && eqb (level k.tasks t) p) (listed k.order)

-- one of those asks to have bit i cleared
pub record AsksClear (k : State) (o : ObjSlot) (b i : ℕ) : Type 0 where
  pub who : TaskSlot
  pub is_met : is_satisfied k o b who ≡ true
  pub mask : ℕ
  pub all : Bool
  pub wants : want_in (task_at k.tasks who).place ≡ Bits mask all true
  pub in_mask : has_bit i mask ≡ true

-- j is the kernel after it
pub record SetWakes (k : State) (o : ObjSlot) (b : ℕ) (j : State) : Type 0 where
  -- "A set wakes every waiter that the bits satisfy, outcome 1": it is made ready, its priorities as they were
  pub woken : (t : TaskSlot) → is_satisfied k o b t ≡ true → task_at j.tasks t ≡ placed (task_at k.tasks t) Ready 1
  -- and no other task changes
  pub others : (t : TaskSlot) → is_satisfied k o b t ≡ false → task_at j.tasks t ≡ task_at k.tasks t
  -- "in first-waiter order": behind those who stand in a line come the woken who belong there, in order of arrival
  pub lines : (p : ℕ) → line j.tasks p (listed j.order) ≡ line k.tasks p (listed k.order) ++ woken_into p k o b
  -- "all judged on the same bits": b satisfies nobody who still waits
  pub none_left : (t : TaskSlot) → is_satisfied j o b t ≡ false
  -- "and the clears happen together afterwards": bit i is then set exactly if it was, and none of those woken asks to have it cleared
  pub now : ℕ
  pub kind : kind_at j.objects o ≡ Group now
  pub was_set : (i : ℕ) → has_bit i now ≡ true → has_bit i b ≡ true
  pub unasked : (i : ℕ) → has_bit i now ≡ true → AsksClear k o b i → ⊥
  pub stays_set : (i : ℕ) → has_bit i b ≡ true → (AsksClear k o b i → ⊥) → has_bit i now ≡ true
  -- "Waiters stand only where unsatisfied": these bits do not satisfy them either
  pub none_now : (t : TaskSlot) → is_satisfied j o now t ≡ false
  -- all else is as it was
  pub objects : (p : ObjSlot) → (p.0 ≡ o.0 → ⊥) → kind_at j.objects p ≡ kind_at k.objects p
  pub tick : j.tick ≡ k.tick
  pub hold : j.hold ≡ k.hold
  pub pended : j.pended ≡ k.pended
  pub running : j.running ≡ k.running
  pub uses : j.uses ≡ k.uses

-- r is the store after it, s the one before
pub record SetTells (k : State) (o : ObjSlot) (b : ℕ) (s r : List ℕ) : Type 0 where
  -- "Each woken task's slip .. gets the bits as they were judged, four bytes, low byte first"
  pub told : (t : TaskSlot) → is_satisfied k o b t ≡ true → bytes_at (slip_of t) 4 r ≡ four_bytes b
  -- and every other byte is as it was
  pub as_it_was : (i : ℕ) → ((t : TaskSlot) → is_satisfied k o b t ≡ true → (i < slip_of t) ⊎ (slip_of t + 4 ≤ i)) → get_or r i 0 ≡ get_or s i 0
  pub whole : length r ≡ length s

-- the call a is a set whose bits satisfy t
pub record SetMeets (k : State) (a : Asked) (t : TaskSlot) : Type 0 where
  pub a_set : is 21 a ≡ true
  pub bits : ℕ
  pub group : kind_at k.objects a.object ≡ Group bits
  pub met : is_satisfied k a.object (bit_or bits a.bits) t ≡ true

-- each of the 64 bytes of t's slip is as it was
abbrev pub SameSlip : TaskSlot → List ℕ → List ℕ → Type 0
SameSlip t s r = bytes_at (slip_of t) 64 r ≡ bytes_at (slip_of t) 64 s

-- "A timeout or a broken-off wait leaves the slip as it was": while t waits for bits no call changes a byte of its slip but the set that satisfies it
abbrev pub SlipKept : State → Asked → List ℕ → List ℕ → Type 0
SlipKept k a s r = (t : TaskSlot) (m : ℕ) (all clear : Bool) → want_in (task_at k.tasks t).place ≡ Bits m all clear → (SetMeets k a t → ⊥) → SameSlip t s r

-- q has the same tasks as l, each as often
abbrev pub SameTasks : List TaskSlot → List TaskSlot → Type 0
SameTasks q l = (n : ℕ) → count n q ≡ count n l

-- "all judged on the same bits": in whatever order q the waiters of o are judged, the same are woken, their rows are the same, and so are what is cleared and the slips
pub record AnyOrder (k : State) (o : ObjSlot) (b : ℕ) (q : List TaskSlot) : Type 0 where
  pub woken : SameTasks (kept (is_satisfied k o b) q) (woken_by k o b)
  pub tasks : (all_woken k (kept (is_satisfied k o b) q)).tasks ≡ (bits_set k o b).tasks
  pub clears : clears_of k.tasks (kept (is_satisfied k o b) q) ≡ clears_of k.tasks (woken_by k o b)
  pub store : (s : List ℕ) → foldl (λ r t. slip_bits b t r) s (kept (is_satisfied k o b) q) ≡ store_set k o b s

-- b satisfies nobody who waits on o: then only the bits change
pub record NobodyMet (k : State) (o : ObjSlot) (b : ℕ) : Type 0 where
  pub kernel : bits_set k o b ≡ with_object k o (Group b)
  pub store : (s : List ℕ) → store_set k o b s ≡ s

-- ── the calls, in a sound kernel, with a store of 9,216 bytes; d is what the step gave
-- n names an event group, with the bits b
abbrev pub HasBits : State → ObjNo → ℕ → Type 0
HasBits k n b = kind_at k.objects (obj_slot k.uses n) ≡ Group b

-- the same kernel, in which its bits are c
abbrev pub with_bits : State → ObjNo → ℕ → State
with_bits k n c = with_object k (obj_slot k.uses n) (Group c)

-- 20: "make": "24 bits, at first 0"
pub record MakesGroup (k : State) (s : List ℕ) (d : Stepped) : Type 0 where
  -- as for queues, the "lowest free object"; nothing else changes
  pub makes : let n = free_object k.objects in n < 16 → d ≡ record { kernel = with_object k (object n) (Group 0); answer = says made (obj_no k.uses (object n)).0; store = s }
  pub no_slot : free_object k.objects ≡ 16 → d ≡ turned_away k 9 s

-- 21: "set bits: object, bits"
pub record SetsBits (k : State) (n : ObjNo) (b m : ℕ) (s : List ℕ) (d : Stepped) : Type 0 where
  -- the wakes, and choose: no effective priority changes
  pub sets : m ≤ all_bits → let o = obj_slot k.uses n in d ≡ done_with (chosen (bits_set k o (bit_or b m))) (store_set k o (bit_or b m) s)
  -- where nobody is woken, the bits change and nothing else
  pub only_bits : m ≤ all_bits → ((t : TaskSlot) → is_satisfied k (obj_slot k.uses n) (bit_or b m) t ≡ false) → d ≡ done_with (with_bits k n (bit_or b m)) s
  -- "4 for bits above the 24"
  pub too_high : all_bits < m → d ≡ turned_away k 4 s

-- 22: "clear bits: object, bits"
pub record ClearsBits (k : State) (n : ObjNo) (b m : ℕ) (s : List ℕ) (d : Stepped) : Type 0 where
  -- nothing else changes
  pub clears : m ≤ all_bits → d ≡ done_with (with_bits k n (cleared b m)) s
  pub too_high : all_bits < m → d ≡ turned_away k 4 s

-- 23: "wait: object, mask, all, clear, wait", with "a mask and flags that the call accepts"
pub record Accepts (m all clear : ℕ) : Type 0 where
  pub some : 1 ≤ m
  pub few : m ≤ all_bits
  pub all_flag : all ≤ 1
  pub clear_flag : clear ≤ 1

-- "all others as for queues": any wait other than 0 is turned away with a hold, and of idle
abbrev pub MayAsk : State → ℕ → Type 0
MayAsk k w = (w ≡ 0) ⊎ ((k.hold ≡ 0) × (k.running.0 ≡ 0 → ⊥))

-- "bits above the 24, a flag above 1 or an empty wait mask"
abbrev pub OutOfRange : ℕ → ℕ → ℕ → Type 0
OutOfRange m all clear = (all_bits < m) ⊎ ((1 < all) ⊎ ((1 < clear) ⊎ (m ≡ 0)))

-- it waits for this
abbrev pub now_waiting : State → ObjNo → ℕ → ℕ → ℕ → ℕ → State
now_waiting k n m all clear w = chosen (wait_for k (obj_slot k.uses n) (Bits m (eqb all 1) (eqb clear 1)) w)

pub record AwaitsBits (k : State) (n : ObjNo) (b m all clear w : ℕ) (s : List ℕ) (d : Stepped) : Type 0 where
  -- "that of a caller satisfied at once, gets the bits as they were judged"; "kept or cleared when satisfied", and nothing else changes
  pub kept_at_once : Accepts m all clear → MayAsk k w → holds_of b m (eqb all 1) ≡ true → clear ≡ 0 → d ≡ done_with k (slip_bits b k.running s)
  pub cleared_at_once : Accepts m all clear → MayAsk k w → holds_of b m (eqb all 1) ≡ true → clear ≡ 1 → d ≡ done_with (with_bits k n (cleared b m)) (slip_bits b k.running s)
  -- "14 with wait 0 unsatisfied"
  pub unsatisfied : Accepts m all clear → holds_of b m (eqb all 1) ≡ false → w ≡ 0 → d ≡ turned_away k 14 s
  -- with any other wait it waits, with its mask and flags, and the store stays
  pub waits : Accepts m all clear → MayAsk k w → holds_of b m (eqb all 1) ≡ false → 0 < w → d ≡ record { kernel = now_waiting k n m all clear w; answer = says waiting 0; store = s }
  pub of_idle : Accepts m all clear → 0 < w → k.running.0 ≡ 0 → d ≡ turned_away k 7 s
  pub with_hold : Accepts m all clear → 0 < w → (k.running.0 ≡ 0 → ⊥) → 0 < k.hold → d ≡ turned_away k 8 s
  pub out_of_range : OutOfRange m all clear → d ≡ turned_away k 4 s
