-- What a set, a clear and a wait do, case by case; and the wakes of a set, one after the other.
use Prim.Native.Nat.{ℕ, zero, suc}
use mathlib.Core.Path.{◌≡◌, refl, ap}
use mathlib.Core.Bool.{Bool, true, false}
use mathlib.Core.List.{List, [], ◌∷◌}
use lib.Bits.{bit_or}
use Rattle.std.proofs.Common.{if◌then◌else◌}
use Rattle.lists.specs.Lists.{foldl}
use Rattle.slots.specs.Kinds.{is_group, kind_at}
use Rattle.slots.specs.Wants.{satisfied, cleared, clears}
use Rattle.rules.specs.Types.{TaskSlot, ObjSlot, Want, Ready, Group, those_satisfied_on, State}
use Rattle.rules.specs.Tables.{with_object}
use Rattle.rules.specs.Lines.{first}
use Rattle.rules.specs.Waits.{arrives, wait_for}
use Rattle.rules.specs.Events.{and_on, woken_in, woken_by, all_woken, bits_set, awaited, set_on, cleared_on, awaited_on}
use Rattle.rules.proofs.TableSlots.{by_kind}
use Rattle.rules.proofs.TableWithin.{first_single}

-- ── the wakes
pub none_woken : (k : State) → all_woken k [] ≡ k
unfolding all_woken foldl
none_woken k = refl

pub one_woken : (k : State) (t : TaskSlot) (l : List TaskSlot) → all_woken k (t ∷ l) ≡ all_woken (arrives k t Ready 1) l
unfolding all_woken foldl
one_woken k t l = refl

-- what each wake of a first satisfied waiter keeps, all of them keep
module _ (o : ObjSlot) (b : ℕ) (P : State → Type 0) (wake : (j : State) (t : TaskSlot) → P j → first j (those_satisfied_on o b) ≡ t ∷ [] → P (arrives j t Ready 1)) where
  pub by_woken : (n : ℕ) (k : State) → P k → P (all_woken k (woken_in n k o b))
  unfolding woken_in
  by_woken zero k p = rw (none_woken k) p
  by_woken (suc n) k p = go (first k (those_satisfied_on o b)) refl (λ t e. by_woken n (arrives k t Ready 1) (wake k t p e))
    where
      go : (l : List TaskSlot) → first k (those_satisfied_on o b) ≡ l
          → ((t : TaskSlot) → first k (those_satisfied_on o b) ≡ t ∷ [] → P (all_woken (arrives k t Ready 1) (woken_in n (arrives k t Ready 1) o b)))
          → P (all_woken k (and_on l (λ t. woken_in n (arrives k t Ready 1) o b)))
      go [] e on = rw (none_woken k) p
      go (t ∷ l) e on = rw (one_woken k t (woken_in n (arrives k t Ready 1) o b)) (on t (first_single k (those_satisfied_on o b) t l e))

  -- and then the bits change
  pub by_bits : ((j : State) (c : ℕ) → P j → P (with_object j o (Group c))) → (k : State) → P k → P (bits_set k o b)
  unfolding bits_set woken_by
  by_bits change k p = change (all_woken k (woken_in 16 k o b)) _ (by_woken 16 k p)

-- ── the calls
by_met : (k : State) (o : ObjSlot) (b : ℕ) (x : Want) (w : ℕ) (P : State → Type 0)
    → (satisfied b x ≡ true → P (with_object k o (Group (cleared b (clears x))))) → (satisfied b x ≡ false → P (wait_for k o x w)) → P (awaited k o b x w)
unfolding awaited
by_met k o b x w P met unmet = go (satisfied b x) refl
  where
    go : (y : Bool) → satisfied b x ≡ y → P (if y then with_object k o (Group (cleared b (clears x))) else wait_for k o x w)
    go true e = met e
    go false e = unmet e

module _ (k : State) (o : ObjSlot) (P : State → Type 0) (none : is_group (kind_at k.objects o) ≡ false → P k) where
  pub by_set : (m : ℕ) → ((b : ℕ) → kind_at k.objects o ≡ Group b → P (bits_set k o (bit_or b m))) → P (set_on k o (kind_at k.objects o) m)
  by_set m group =
      by_kind (kind_at k.objects o) (λ x. kind_at k.objects o ≡ x → P (set_on k o x m))
      (λ e. none (ap is_group e)) (λ e. none (ap is_group e)) (λ q f e. none (ap is_group e)) (λ s h f e. none (ap is_group e)) (λ b f e. group b e) refl

  pub by_clear : (m : ℕ) → ((b : ℕ) → kind_at k.objects o ≡ Group b → P (with_object k o (Group (cleared b m)))) → P (cleared_on k o (kind_at k.objects o) m)
  by_clear m group =
      by_kind (kind_at k.objects o) (λ x. kind_at k.objects o ≡ x → P (cleared_on k o x m))
      (λ e. none (ap is_group e)) (λ e. none (ap is_group e)) (λ q f e. none (ap is_group e)) (λ s h f e. none (ap is_group e)) (λ b f e. group b e) refl

  pub by_await : (x : Want) (w : ℕ)
      → ((b : ℕ) → kind_at k.objects o ≡ Group b → satisfied b x ≡ true → P (with_object k o (Group (cleared b (clears x)))))
      → ((b : ℕ) → kind_at k.objects o ≡ Group b → satisfied b x ≡ false → P (wait_for k o x w)) → P (awaited_on k o (kind_at k.objects o) x w)
  by_await x w met unmet =
      by_kind (kind_at k.objects o) (λ y. kind_at k.objects o ≡ y → P (awaited_on k o y x w))
      (λ e. none (ap is_group e)) (λ e. none (ap is_group e)) (λ q f e. none (ap is_group e)) (λ s h f e. none (ap is_group e)) (λ b f e. by_met k o b x w P (met b e) (unmet b e)) refl
