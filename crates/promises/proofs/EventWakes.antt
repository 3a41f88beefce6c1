-- Whom a set wakes: each of them once; what becomes of every task; and what those woken ask to have cleared.
use Prim.Native.Nat.{ℕ, zero, suc, ◌+◌, ◌≤◌}
use mathlib.Core.Path.{◌≡◌, refl, sym, ap, ◌∙◌}
use mathlib.Core.Logic.{◌⊎◌, inl, inr}
use mathlib.Core.Bool.{Bool, true, false, ◌&&◌, ◌||◌, false≢true, or-false, or_assoc}
use mathlib.Core.List.{List, [], ◌∷◌}
use native.Mathlib.Omega.{arith}
use lib.Bits.{bit_or}
use lib.Dec.{eqb}
use borrow.Author.Tests.{eqb-true, eqb-false, eq-eqb}
use Rattle.std.proofs.Common.{if◌then◌else◌}
use Rattle.lists.specs.Lists.{foldl, any}
use Rattle.lists.proofs.Bools.{or_left, or_right}
use Rattle.numbers.specs.Numbers.{same_object}
use Rattle.order.specs.Tidy.{count}
use Rattle.order.proofs.Passing.{one_number}
use Rattle.slots.specs.Values.{placed, task_at}
use Rattle.slots.specs.Wants.{satisfied, cleared, clears, satisfied_on, want_in}
use Rattle.slots.proofs.Masks.{fewer_satisfied}
use Rattle.rules.specs.Lines.{first, to_tail}
use Rattle.rules.specs.Waits.{arrives}
use Rattle.rules.specs.Events.{and_on, woken_in, woken_by, all_woken, clears_of}
use Rattle.rules.specs.Sentences.{Sound}
use Rattle.rules.proofs.EventCases.{none_woken, one_woken, by_woken}
use Rattle.rules.proofs.TableWithin.{first_meant, first_within, first_single}
use Rattle.rules.proofs.KeepSlot.{at_other}
use Rattle.rules.proofs.KeepBlocks.{arrives_at, Same}
use Rattle.rules.proofs.KeepChosen.{sound_nearly}
use Rattle.rules.proofs.KeepEvents.{NoneMet, Waking, wakes_all, all_woken_lem}
use Rattle.promises.specs.Types.{TaskSlot, ObjSlot, Want, OwnTurn, Bits, Place, Free, Ready, Delayed, Waiting, Suspended, Spent, Task, those_satisfied_on, State}
use Rattle.promises.specs.EventGroups.{has_bit, is_satisfied}
use Rattle.promises.proofs.BitByBit.{none_in_zero, joined_says}

-- one wake: the others stay
pub wake_other : (j : State) (t u : TaskSlot) → (u.0 ≡ t.0 → ⊥) → task_at (arrives j t Ready 1).tasks u ≡ task_at j.tasks u
unfolding arrives to_tail
wake_other j t u n = at_other j.tasks t (placed (task_at j.tasks t) Ready 1) u n

module _ (o : ObjSlot) (b : ℕ) where
  -- ── each of them once
  abbrev one : Bool → ℕ
  one y = if y then 1 else 0

  -- whoever is satisfied is woken, or is satisfied still
  woken_or_left : (n : ℕ) (k : State) (t : TaskSlot) → count t.0 (woken_in n k o b) + one (is_satisfied (all_woken k (woken_in n k o b)) o b t) ≡ one (is_satisfied k o b t)
  unfolding woken_in count
  woken_or_left zero k t = rw (none_woken k) (omega arith)
  woken_or_left (suc n) k t = go (first k (those_satisfied_on o b)) refl (λ u. woken_or_left n (arrives k u Ready 1) t)
    where
      less_one : (u : TaskSlot) → first k (those_satisfied_on o b) ≡ u ∷ [] → (y : Bool) → eqb u.0 t.0 ≡ y → one y + one (is_satisfied (arrives k u Ready 1) o b t) ≡ one (is_satisfied k o b t)
      less_one u e true q =
          let z = one_number u t (eqb-true u.0 t.0 q) in
          rw (sym z, arrives_at k u Ready 1 (first_within k (those_satisfied_on o b) u e), first_meant k (those_satisfied_on o b) u e)
      less_one u e false q = rw (wake_other k u t (λ z. eqb-false u.0 t.0 q (sym z))) (omega arith)

      go : (l : List TaskSlot) → first k (those_satisfied_on o b) ≡ l
          → ((u : TaskSlot) → let i = arrives k u Ready 1 in count t.0 (woken_in n i o b) + one (is_satisfied (all_woken i (woken_in n i o b)) o b t) ≡ one (is_satisfied i o b t))
          → let w = and_on l (λ u. woken_in n (arrives k u Ready 1) o b) in count t.0 w + one (is_satisfied (all_woken k w) o b t) ≡ one (is_satisfied k o b t)
      go [] e ih = rw (none_woken k) (omega arith)
      go (u ∷ l) e ih =
          rw (one_woken k u (woken_in n (arrives k u Ready 1) o b))
          (let a = ih u in let c = less_one u (first_single k (those_satisfied_on o b) u l e) (eqb u.0 t.0) refl in omega (arith, a, c))

  -- ── what becomes of each task: it stays, or is woken
  abbrev Becomes : State → State → TaskSlot → Type 0
  Becomes k j t = (task_at j.tasks t ≡ task_at k.tasks t) ⊎ ((is_satisfied k o b t ≡ true) × (task_at j.tasks t ≡ placed (task_at k.tasks t) Ready 1))

  -- one wake more
  wakes_more : (k j : State) (t : TaskSlot) → ((u : TaskSlot) → Becomes k j u) → first j (those_satisfied_on o b) ≡ t ∷ [] → (u : TaskSlot) → Becomes k (arrives j t Ready 1) u
  wakes_more k j t P e u = go (eqb u.0 t.0) refl (P u)
    where
      is_met : is_satisfied j o b t ≡ true
      is_met = first_meant j (those_satisfied_on o b) t e

      there : task_at (arrives j t Ready 1).tasks t ≡ placed (task_at j.tasks t) Ready 1
      there = arrives_at j t Ready 1 (first_within j (those_satisfied_on o b) t e)

      here : Becomes k j t → Becomes k (arrives j t Ready 1) t
      here (inl z) = inr (sym (ap (λ (x : Task). satisfied_on o b x.place) z) ∙ is_met, there ∙ ap (λ (x : Task). placed x Ready 1) z)
      here (inr (m, z)) = absurd (false≢true (sym (ap (λ (x : Task). satisfied_on o b x.place) z) ∙ is_met))

      go : (y : Bool) → eqb u.0 t.0 ≡ y → Becomes k j u → Becomes k (arrives j t Ready 1) u
      go true q r = rw (one_number u t (eqb-true u.0 t.0 q)) (here (P t))
      go false q (inl z) = inl (wake_other j t u (eqb-false u.0 t.0 q) ∙ z)
      go false q (inr (m, z)) = inr (m, wake_other j t u (eqb-false u.0 t.0 q) ∙ z)

  becomes : (k : State) (t : TaskSlot) → Becomes k (all_woken k (woken_by k o b)) t
  unfolding woken_by
  becomes k = by_woken o b (λ j. (t : TaskSlot) → Becomes k j t) (λ j t P e. wakes_more k j t P e) 16 k (λ t. inl refl)

  -- ── in a sound kernel
  module _ (k : State) (S : Sound k) where
    abbrev i : State
    i = all_woken k (woken_by k o b)

    pub starts_waking : Waking o b k k
    starts_waking = record { nearly = sound_nearly k S; runs = S.running.runs; same = record { tick = refl; hold = refl; pended = refl; running = refl; objects = refl; uses = refl } }

    pub then_none : NoneMet o b i
    then_none = all_woken_lem o b k starts_waking

    pub then_same : Same i k
    unfolding woken_by
    then_same = (wakes_all o b k 16 starts_waking).same

    -- "every waiter that the bits satisfy", and each once
    pub count_woken : (t : TaskSlot) → count t.0 (woken_by k o b) ≡ one (is_satisfied k o b t)
    unfolding woken_by
    count_woken t = let e = rw (then_none t) at (woken_or_left 16 k t) in omega (arith, e)

    pub woken_met : (t : TaskSlot) → 1 ≤ count t.0 (woken_by k o b) → is_satisfied k o b t ≡ true
    woken_met t c = go (is_satisfied k o b t) (count_woken t)
      where
        go : (y : Bool) → count t.0 (woken_by k o b) ≡ one y → y ≡ true
        go true e = refl
        go false e = absurd (omega (arith, e))

    pub is_woken : (t : TaskSlot) → is_satisfied k o b t ≡ true → task_at i.tasks t ≡ placed (task_at k.tasks t) Ready 1
    is_woken t m = go (becomes k t)
      where
        go : Becomes k i t → task_at i.tasks t ≡ placed (task_at k.tasks t) Ready 1
        go (inl z) = absurd (false≢true (sym (then_none t) ∙ ap (λ (x : Task). satisfied_on o b x.place) z ∙ m))
        go (inr (n, z)) = z

    pub is_left : (t : TaskSlot) → is_satisfied k o b t ≡ false → task_at i.tasks t ≡ task_at k.tasks t
    is_left t m = go (becomes k t)
      where
        go : Becomes k i t → task_at i.tasks t ≡ task_at k.tasks t
        go (inl z) = z
        go (inr (n, z)) = absurd (false≢true (sym m ∙ n))

-- ── of the tasks of a list
-- one that passes stands in it
pub record Passes (p : TaskSlot → Bool) (l : List TaskSlot) : Type 0 where
  pub who : TaskSlot
  pub stands : 1 ≤ count who.0 l
  pub passes : p who ≡ true

pub some_passes : (p : TaskSlot → Bool) (l : List TaskSlot) → any p l ≡ true → Passes p l
unfolding any count
some_passes p [] e = absurd (false≢true e)
some_passes p (t ∷ l) e = go (p t) refl (some_passes p l)
  where
    go : (y : Bool) → p t ≡ y → (any p l ≡ true → Passes p l) → Passes p (t ∷ l)
    go true q ih = record { who = t; stands = rw (eq-eqb t.0 t.0 refl) (omega arith); passes = q }
    go false q ih =
        let r = ih (rw q at e) in
        record { who = r.who; stands = omega (arith, r.stands); passes = r.passes }

pub passes_some : (p : TaskSlot → Bool) (l : List TaskSlot) (t : TaskSlot) → 1 ≤ count t.0 l → p t ≡ true → any p l ≡ true
unfolding any count
passes_some p [] t c e = absurd (omega arith)
passes_some p (u ∷ l) t c e = go (eqb u.0 t.0) refl (passes_some p l t)
  where
    go : (y : Bool) → eqb u.0 t.0 ≡ y → (1 ≤ count t.0 l → p t ≡ true → any p l ≡ true) → (p u || any p l) ≡ true
    go true q ih = or_left (p u) (any p l) (ap p (one_number u t (eqb-true u.0 t.0 q)) ∙ e)
    go false q ih = let d = rw q at c in or_right (p u) (any p l) (ih (omega (arith, d)) e)

-- ── "the clears happen together afterwards"
-- t asks to have bit i cleared
abbrev pub asks_it : List Task → ℕ → TaskSlot → Bool
asks_it ts i t = has_bit i (clears (want_in (task_at ts t).place))

clears_from : (ts : List Task) (i m : ℕ) (l : List TaskSlot) → has_bit i (foldl (λ m t. bit_or m (clears (want_in (task_at ts t).place))) m l) ≡ (has_bit i m || any (asks_it ts i) l)
unfolding foldl any
clears_from ts i m [] = rw or-false
clears_from ts i m (t ∷ l) =
    let c = clears (want_in (task_at ts t).place) in
    clears_from ts i (bit_or m c) l ∙ rw (joined_says i m c, or_assoc)

pub clears_say : (ts : List Task) (i : ℕ) (l : List TaskSlot) → has_bit i (clears_of ts l) ≡ any (asks_it ts i) l
unfolding clears_of
clears_say ts i l = clears_from ts i 0 l ∙ rw (none_in_zero i)

-- whoever asks wants bits, and has this one in its mask
pub record Wanted (x : Want) (i : ℕ) : Type 0 where
  pub mask : ℕ
  pub all : Bool
  pub wants : x ≡ Bits mask all true
  pub in_mask : has_bit i mask ≡ true

pub asks_wanted : (x : Want) (i : ℕ) → has_bit i (clears x) ≡ true → Wanted x i
asks_wanted OwnTurn i e = absurd (false≢true (sym (none_in_zero i) ∙ e))
asks_wanted (Bits m all true) i e = record { mask = m; all = all; wants = refl; in_mask = e }
asks_wanted (Bits m all false) i e = absurd (false≢true (sym (none_in_zero i) ∙ e))

-- ── fewer bits satisfy nobody more
pub fewer_met : (o : ObjSlot) (b c : ℕ) (p : Place) → satisfied_on o b p ≡ false → satisfied_on o (cleared b c) p ≡ false
fewer_met o b c Free e = refl
fewer_met o b c Ready e = refl
fewer_met o b c (Delayed w) e = refl
fewer_met o b c (Waiting x w) e = go (same_object x.object o) e
  where
    go : (y : Bool) → (y && satisfied b x.want) ≡ false → (y && satisfied (cleared b c) x.want) ≡ false
    go true f = fewer_satisfied b c x.want f
    go false f = refl
fewer_met o b c Suspended e = refl
fewer_met o b c Spent e = refl
