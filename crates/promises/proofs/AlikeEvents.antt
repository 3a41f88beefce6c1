-- Event groups of twins: a set wakes the same tasks of both, one after the other, and writes the same bits into their slips.
use Prim.Native.Nat.{ℕ, zero, suc}
use mathlib.Core.Path.{◌≡◌, refl, ap}
use mathlib.Core.Bool.{Bool, true, false}
use mathlib.Core.List.{List, [], ◌∷◌}
use lib.Bits.{bit_or}
use Rattle.std.proofs.Common.{if◌then◌else◌}
use Rattle.lists.specs.Lists.{foldl}
use Rattle.numbers.specs.declared.TaskSlot.{TaskSlot}
use Rattle.numbers.specs.declared.ObjSlot.{ObjSlot}
use Rattle.numbers.specs.Numbers.{object}
use Rattle.order.specs.declared.Order.{Order}
use Rattle.slots.specs.declared.Place.TheVariants.{Ready}
use Rattle.slots.specs.declared.Want.{Want}
use Rattle.slots.specs.declared.Kind.{Kind}
use Rattle.slots.specs.declared.Kind.TheVariants.{Unused, Spent as SpentObject, Queue, Mutex, Group}
use Rattle.slots.specs.Who.{those_satisfied_on}
use Rattle.slots.specs.Wants.{satisfied, cleared, clears}
use Rattle.rules.specs.State.{State}
use Rattle.rules.specs.Tables.{free_object, with_object, with_order}
use Rattle.rules.specs.Lines.{first}
use Rattle.rules.specs.Waits.{arrives, wait_for}
use Rattle.rules.specs.Events.{group_made, and_on, woken_in, woken_by, all_woken, bits_set, store_set, awaited, set_on, store_set_on, cleared_on, awaited_on, store_awaited, store_awaited_on}
use Rattle.promises.proofs.AlikeTwins.{Twins, shared, twice}
use Rattle.promises.proofs.AlikeEffects.{first_same, first_low, arrives_too, wait_too, object_too}

pub group_made_too : {k j : State} → Twins k j → Twins (group_made k) (group_made j)
unfolding group_made
group_made_too {k} w = twice (λ z. group_made z) w (λ m v. object_too (object (free_object k.objects)) (Group 0) v)

-- ── the wakes of a set
-- those woken of k are those woken of j, and with them awake k and j are twins
record SameWoken (k j : State) (l m : List TaskSlot) : Type 0 where
  same : l ≡ m
  twins : Twins (all_woken k l) (all_woken j l)

module _ (o : ObjSlot) (b : ℕ) where
  woken_too : (n : ℕ) (k j : State) → Twins k j → SameWoken k j (woken_in n k o b) (woken_in n j o b)
  unfolding woken_in all_woken foldl
  woken_too zero k j w = record { same = refl; twins = w }
  woken_too (suc n) k j w =
      shared (λ z. SameWoken k z (woken_in (suc n) k o b) (woken_in (suc n) z o b)) k j w
      (λ m v. rw (← first_same k m v.alike (those_satisfied_on o b))
      (go m v (first k (those_satisfied_on o b)) (λ t r e. woken_too n _ _ (arrives_too t Ready 1 (first_low k (those_satisfied_on o b) t r v.slots e) v)) refl))
    where
      go : (m : Order) → Twins k (with_order k m) → (f : List TaskSlot)
          → ((t : TaskSlot) (r : List TaskSlot) → first k (those_satisfied_on o b) ≡ t ∷ r
          → let i = arrives k t Ready 1 in let h = arrives (with_order k m) t Ready 1 in SameWoken i h (woken_in n i o b) (woken_in n h o b))
          → first k (those_satisfied_on o b) ≡ f
          → SameWoken k (with_order k m) (and_on f (λ t. woken_in n (arrives k t Ready 1) o b)) (and_on f (λ t. woken_in n (arrives (with_order k m) t Ready 1) o b))
      go m v [] on e = record { same = refl; twins = v }
      go m v (t ∷ r) on e = let a = on t r e in record { same = ap (λ l. t ∷ l) a.same; twins = a.twins }

  woken_same : {k j : State} → Twins k j → woken_by k o b ≡ woken_by j o b
  unfolding woken_by
  woken_same {k} {j} w = (woken_too 16 k j w).same

  bits_too : {k j : State} → Twins k j → Twins (bits_set k o b) (bits_set j o b)
  unfolding bits_set woken_by
  bits_too {k} w = twice (λ z. bits_set z o b) w (λ m v. let a = woken_too 16 k (with_order k m) v in rw (← a.same) (object_too o (Group _) a.twins))

-- ── the calls
pub set_too : {k j : State} (o : ObjSlot) (x : Kind) (m : ℕ) → Twins k j → Twins (set_on k o x m) (set_on j o x m)
set_too o Unused m w = w
set_too o SpentObject m w = w
set_too o (Queue q) m w = w
set_too o (Mutex s h) m w = w
set_too o (Group b) m w = bits_too o (bit_or b m) w

pub clear_too : {k j : State} (o : ObjSlot) (x : Kind) (m : ℕ) → Twins k j → Twins (cleared_on k o x m) (cleared_on j o x m)
clear_too o Unused m w = w
clear_too o SpentObject m w = w
clear_too o (Queue q) m w = w
clear_too o (Mutex s h) m w = w
clear_too o (Group b) m w = object_too o (Group (cleared b m)) w

pub await_too : {k j : State} (o : ObjSlot) (x : Kind) (y : Want) (n : ℕ) → Twins k j → Twins (awaited_on k o x y n) (awaited_on j o x y n)
unfolding awaited
await_too o Unused y n w = w
await_too o SpentObject y n w = w
await_too o (Queue q) y n w = w
await_too o (Mutex s h) y n w = w
await_too {k} {j} o (Group b) y n w = go (satisfied b y)
  where
    go : (met : Bool)
        → Twins (if met then with_object k o (Group (cleared b (clears y))) else wait_for k o y n) (if met then with_object j o (Group (cleared b (clears y))) else wait_for j o y n)
    go true = object_too o (Group (cleared b (clears y))) w
    go false = wait_too o y n w

-- ── the stores
pub set_store_too : (k j : State) (o : ObjSlot) (x : Kind) (m : ℕ) (s : List ℕ) → Twins k j → store_set_on k o x m s ≡ store_set_on j o x m s
unfolding store_set
set_store_too k j o Unused m s w = refl
set_store_too k j o SpentObject m s w = refl
set_store_too k j o (Queue q) m s w = refl
set_store_too k j o (Mutex n h) m s w = refl
set_store_too k j o (Group b) m s w = rw (woken_same o (bit_or b m) w)

pub await_store_too : (k : State) (m : Order) (x : Kind) (y : Want) (s : List ℕ) → store_awaited_on k x y s ≡ store_awaited_on (with_order k m) x y s
unfolding store_awaited
await_store_too k m Unused y s = refl
await_store_too k m SpentObject y s = refl
await_store_too k m (Queue q) y s = refl
await_store_too k m (Mutex n h) y s = refl
await_store_too k m (Group b) y s = refl
