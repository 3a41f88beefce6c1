-- What a set writes: the slip of each woken task has the bits as they were judged, and no other byte changes.
use Prim.Native.Nat.{ℕ, ◌+◌, ◌<◌, ◌≤◌}
use mathlib.Core.Path.{◌≡◌, refl, sym, ap, ◌∙◌}
use mathlib.Core.Logic.{◌⊎◌, inl, inr}
use mathlib.Core.Bool.{Bool, true, false, false≢true}
use mathlib.Core.List.{List, [], ◌∷◌}
use native.Mathlib.Omega.{arith}
use lib.Dec.{eqb, ltb}
use lib.ListN.{length, get_or}
use borrow.Author.Tests.{eqb-true, eqb-false, eq-eqb, ltb-true, ltb-false}
use Rattle.lists.specs.FourBytes.{four_bytes}
use Rattle.lists.specs.Lists.{foldl}
use Rattle.order.specs.Tidy.{count}
use Rattle.order.proofs.Passing.{one_number}
use Rattle.items.specs.Bytes.{bytes_at}
use Rattle.slots.specs.Wants.{satisfied_on}
use Rattle.rules.specs.Parts.{slip_of}
use Rattle.rules.specs.Events.{slip_bits, woken_by, store_set}
use Rattle.rules.specs.Sentences.{Sound}
use Rattle.rules.proofs.TableSlots.{past_tasks}
use Rattle.promises.specs.Types.{TaskSlot, ObjSlot, Task, State}
use Rattle.promises.specs.EventGroups.{is_satisfied, SlipTold, SetTells}
use Rattle.promises.proofs.SlipBytes.{byte_aside, bytes_aside, bytes_put, slips_apart, slip_length}
use Rattle.promises.proofs.EventWakes.{count_woken, woken_met}

module _ (b : ℕ) where
  abbrev all_told : List ℕ → List TaskSlot → List ℕ
  all_told s l = foldl (λ r t. slip_bits b t r) s l

  tells_many : (l : List TaskSlot) (s : List ℕ) → length (all_told s l) ≡ length s
  unfolding foldl
  tells_many [] s = refl
  tells_many (t ∷ l) s = tells_many l (slip_bits b t s) ∙ slip_length b s t

  -- ── a slip that has the bits keeps them
  abbrev IsTold : TaskSlot → List ℕ → Type 0
  IsTold t r = bytes_at (slip_of t) 4 r ≡ four_bytes b

  gets : (t : TaskSlot) (s : List ℕ) → t.0 < 16 → length s ≡ 9216 → IsTold t (slip_bits b t s)
  unfolding slip_bits
  gets t s low whole = bytes_put (four_bytes b) s (slip_of t) (omega arith)

  keeps_one : (t u : TaskSlot) (s : List ℕ) → t.0 < 16 → length s ≡ 9216 → IsTold t s → IsTold t (slip_bits b u s)
  unfolding slip_bits
  keeps_one t u s low whole h = go (eqb u.0 t.0) refl
    where
      go : (y : Bool) → eqb u.0 t.0 ≡ y → IsTold t (slip_bits b u s)
      go true q = rw (one_number u t (eqb-true u.0 t.0 q)) (gets t s low whole)
      go false q = bytes_aside (four_bytes b) s (slip_of u) (slip_of t) 4 (slips_apart u t 4 4 (omega arith) (omega arith) (eqb-false u.0 t.0 q)) ∙ h

  keeps_all : (l : List TaskSlot) (t : TaskSlot) (s : List ℕ) → t.0 < 16 → length s ≡ 9216 → IsTold t s → IsTold t (all_told s l)
  unfolding foldl
  keeps_all [] t s low whole h = h
  keeps_all (u ∷ l) t s low whole h = keeps_all l t (slip_bits b u s) low (slip_length b s u ∙ whole) (keeps_one t u s low whole h)

  gets_all : (l : List TaskSlot) (t : TaskSlot) (s : List ℕ) → t.0 < 16 → length s ≡ 9216 → 1 ≤ count t.0 l → IsTold t (all_told s l)
  unfolding foldl count
  gets_all [] t s low whole c = absurd (omega arith)
  gets_all (u ∷ l) t s low whole c = go (eqb u.0 t.0) refl (gets_all l t (slip_bits b u s) low (slip_length b s u ∙ whole))
    where
      go : (y : Bool) → eqb u.0 t.0 ≡ y → (1 ≤ count t.0 l → IsTold t (all_told (slip_bits b u s) l)) → IsTold t (all_told (slip_bits b u s) l)
      go true q ih = keeps_all l t (slip_bits b u s) low (slip_length b s u ∙ whole) (rw (one_number u t (eqb-true u.0 t.0 q)) (gets t s low whole))
      go false q ih = let d = rw q at c in ih (omega (arith, d))

  -- ── a byte of no slip that is told
  abbrev Beside : ℕ → TaskSlot → Type 0
  Beside i t = (i < slip_of t) ⊎ (slip_of t + 4 ≤ i)

  beside : (i : ℕ) (t : TaskSlot) (s : List ℕ) → Beside i t → get_or (slip_bits b t s) i 0 ≡ get_or s i 0
  unfolding slip_bits
  beside i t s (inl h) = byte_aside (four_bytes b) s (slip_of t) i (inr (omega arith))
  beside i t s (inr h) = byte_aside (four_bytes b) s (slip_of t) i (inl h)

  beside_all : (l : List TaskSlot) (i : ℕ) (s : List ℕ) → ((t : TaskSlot) → 1 ≤ count t.0 l → Beside i t) → get_or (all_told s l) i 0 ≡ get_or s i 0
  unfolding foldl count
  beside_all [] i s f = refl
  beside_all (t ∷ l) i s f =
      beside_all l i (slip_bits b t s) (λ u c. f u (omega (arith, c)))
      ∙ beside i t s (f t (rw (eq-eqb t.0 t.0 refl) (omega arith)))

  pub slip_told_so : (t : TaskSlot) (s : List ℕ) → t.0 < 16 → length s ≡ 9216 → SlipTold t b s (slip_bits b t s)
  slip_told_so t s low whole = record { told = gets t s low whole; as_it_was = λ i p. beside i t s p; whole = slip_length b s t }

-- whoever is satisfied has a slot
met_low : (k : State) (S : Sound k) (o : ObjSlot) (b : ℕ) (t : TaskSlot) → is_satisfied k o b t ≡ true → t.0 < 16
met_low k S o b t m = go (ltb t.0 16) refl
  where
    go : (y : Bool) → ltb t.0 16 ≡ y → t.0 < 16
    go true q = ltb-true t.0 16 q
    go false q =
        let past : length k.tasks ≤ t.0 = omega (arith, ltb-false t.0 16 q, S.tables.task_slots) in
        absurd (false≢true (sym (ap (λ (x : Task). satisfied_on o b x.place) (past_tasks k.tasks t past)) ∙ m))

pub set_tells_so : (k : State) → Sound k → (o : ObjSlot) (b : ℕ) (s : List ℕ) → length s ≡ 9216 → SetTells k o b s (store_set k o b s)
unfolding store_set
set_tells_so k S o b s whole =
    record {
      told = λ t m. gets_all b (woken_by k o b) t s (met_low k S o b t m) whole (omega (arith, rw m at (count_woken o b k S t)));
      as_it_was = λ i f. beside_all b (woken_by k o b) i s (λ t c. f t (woken_met o b k S t c));
      whole = tells_many b (woken_by k o b) s;
    }
