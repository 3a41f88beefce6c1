-- A set judges its waiters in whatever order: what is taken to a list of tasks one after the other comes to the same in any order, where two of them may change places.
use Prim.Native.Nat.{ℕ, zero, suc, ◌+◌, ◌<◌, ◌≤◌}
use mathlib.Core.Path.{◌≡◌, refl, sym, ap, ◌∙◌}
use mathlib.Core.Bool.{Bool, true, false, ◌||◌}
use mathlib.Core.List.{List, [], ◌∷◌}
use native.Mathlib.Nat.{zero-add}
use native.Mathlib.Omega.{arith}
use lib.Bits.{bit_or}
use lib.Dec.{eqb}
use lib.ListN.{length, length-set}
use lib.Seq.{ext_get_or}
use borrow.Author.Tests.{eqb-true, eqb-false, eq-eqb}
use Rattle.lists.specs.Lists.{foldl, kept}
use Rattle.numbers.specs.Numbers.{task}
use Rattle.order.specs.Order.{listed}
use Rattle.order.specs.Tidy.{count}
use Rattle.order.proofs.Passing.{one_number}
use Rattle.order.proofs.CountPassing.{count_kept}
use Rattle.slots.specs.Values.{free_task, placed, task_at}
use Rattle.slots.specs.Wants.{clears, want_in}
use Rattle.rules.specs.Lines.{those, to_tail}
use Rattle.rules.specs.Waits.{arrives}
use Rattle.rules.specs.Events.{slip_bits, woken_by, all_woken, clears_of, bits_set, store_set}
use Rattle.rules.specs.Sentences.{Sound}
use Rattle.rules.proofs.KeepBlocks.{arrives_at}
use Rattle.promises.specs.Types.{TaskSlot, ObjSlot, Ready, Task, waiters_of, State}
use Rattle.promises.specs.EventGroups.{has_bit, is_satisfied, SameTasks, AnyOrder}
use Rattle.promises.proofs.BitByBit.{joined_says, same_bits_lem}
use Rattle.promises.proofs.EventWakes.{wake_other, count_woken}
use Rattle.promises.proofs.SlipBytes.{slips_swap}
use Rattle.std.proofs.Common.{if◌then◌else◌}
use Rattle.rules.proofs.LoanStill.{met_waits}

arrives_many : (k : State) (t : TaskSlot) → length (arrives k t Ready 1).tasks ≡ length k.tasks
unfolding arrives to_tail
arrives_many k t = length-set k.tasks t.0 (placed (task_at k.tasks t) Ready 1)

-- ── two lists with the same tasks
-- t taken out once
unfoldable pub less_one : TaskSlot → List TaskSlot → List TaskSlot
less_one t [] = []
less_one t (u ∷ l) = if eqb u.0 t.0 then l else u ∷ less_one t l

less_counted : (t : TaskSlot) (l : List TaskSlot) → 1 ≤ count t.0 l → (n : ℕ) → (if eqb t.0 n then 1 else 0) + count n (less_one t l) ≡ count n l
unfolding less_one count
less_counted t [] c n = absurd (omega arith)
less_counted t (u ∷ l) c n = go (eqb u.0 t.0) refl (less_counted t l)
  where
    go : (y : Bool) → eqb u.0 t.0 ≡ y → (1 ≤ count t.0 l → (n : ℕ) → (if eqb t.0 n then 1 else 0) + count n (less_one t l) ≡ count n l)
        → (if eqb t.0 n then 1 else 0) + count n (if y then l else u ∷ less_one t l) ≡ (if eqb u.0 n then 1 else 0) + count n l
    go true q ih = rw (eqb-true u.0 t.0 q)
    go false q ih =
        let d = rw q at c in
        let z = ih (omega (arith, d)) n in
        omega (arith, z)

no_tasks : (l : List TaskSlot) → ((n : ℕ) → count n l ≡ 0) → l ≡ []
unfolding count
no_tasks [] e = refl
no_tasks (t ∷ l) e = absurd (let z = rw (eq-eqb t.0 t.0 refl) at (e t.0) in omega (arith, z))

module _ {B : Type 0} (f : B → TaskSlot → B) (swap : (x : B) (t u : TaskSlot) → f (f x t) u ≡ f (f x u) t) where
  fold_less : (x : B) (t : TaskSlot) (l : List TaskSlot) → 1 ≤ count t.0 l → foldl f x l ≡ foldl f (f x t) (less_one t l)
  unfolding foldl less_one count
  fold_less x t [] c = absurd (omega arith)
  fold_less x t (u ∷ l) c = go (eqb u.0 t.0) refl (fold_less (f x u) t l)
    where
      go : (y : Bool) → eqb u.0 t.0 ≡ y → (1 ≤ count t.0 l → foldl f (f x u) l ≡ foldl f (f (f x u) t) (less_one t l))
          → foldl f (f x u) l ≡ foldl f (f x t) (if y then l else u ∷ less_one t l)
      go true q ih = rw (one_number u t (eqb-true u.0 t.0 q))
      go false q ih = let d = rw q at c in ih (omega (arith, d)) ∙ rw (swap x u t)

  pub same_fold : (l q : List TaskSlot) (x : B) → SameTasks q l → foldl f x q ≡ foldl f x l
  unfolding foldl count
  same_fold [] q x e = rw (no_tasks q e)
  same_fold (t ∷ l) q x e =
      let here : 1 ≤ count t.0 q = rw (e t.0, eq-eqb t.0 t.0 refl) (omega arith) in
      fold_less x t q here ∙ same_fold l (less_one t q) (f x t) (λ n. let z = less_counted t q here n in omega (arith, z, e n))

-- ── what is cleared
joins_swap : (m c d : ℕ) → bit_or (bit_or m c) d ≡ bit_or (bit_or m d) c
joins_swap m c d = same_bits_lem (bit_or (bit_or m c) d) (bit_or (bit_or m d) c) (λ i.
    rw (joined_says i (bit_or m c) d, joined_says i m c, joined_says i (bit_or m d) c, joined_says i m d) (last_two (has_bit i m) (has_bit i c) (has_bit i d)))
  where
    last_two : (x y z : Bool) → ((x || y) || z) ≡ ((x || z) || y)
    last_two true y z = refl
    last_two false true true = refl
    last_two false true false = refl
    last_two false false true = refl
    last_two false false false = refl

pub same_clears : (ts : List Task) (l q : List TaskSlot) → SameTasks q l → clears_of ts q ≡ clears_of ts l
unfolding clears_of
same_clears ts l q e =
    same_fold (λ m t. bit_or m (clears (want_in (task_at ts t).place))) (λ m t u. joins_swap m (clears (want_in (task_at ts t).place)) (clears (want_in (task_at ts u).place))) l q 0 e

-- ── the rows: whoever stands in the list is woken, and nobody else
unfoldable pub woken_row : ℕ → Task → Task
woken_row zero x = x
woken_row (suc n) x = placed x Ready 1

woken_again : (n : ℕ) (x : Task) → woken_row n (placed x Ready 1) ≡ placed x Ready 1
unfolding woken_row
woken_again zero x = refl
woken_again (suc n) x = refl

row_woken : (l : List TaskSlot) (k : State) (t : TaskSlot) → t.0 < length k.tasks → task_at (all_woken k l).tasks t ≡ woken_row (count t.0 l) (task_at k.tasks t)
unfolding all_woken foldl count woken_row
row_woken [] k t h = refl
row_woken (u ∷ l) k t h = row_woken l (arrives k u Ready 1) t (rw (arrives_many k u) h) ∙ go (eqb u.0 t.0) refl
  where
    go : (y : Bool) → eqb u.0 t.0 ≡ y
        → woken_row (count t.0 l) (task_at (arrives k u Ready 1).tasks t) ≡ woken_row ((if y then 1 else 0) + count t.0 l) (task_at k.tasks t)
    go true q =
        let z : 1 + count t.0 l ≡ suc (count t.0 l) = omega arith in
        rw (one_number u t (eqb-true u.0 t.0 q), arrives_at k t Ready 1 h, z) (woken_again (count t.0 l) (task_at k.tasks t))
    go false q = rw (wake_other k u t (λ z. eqb-false u.0 t.0 q (sym z)), zero-add)

many_woken : (l : List TaskSlot) (k : State) → length (all_woken k l).tasks ≡ length k.tasks
unfolding all_woken foldl
many_woken [] k = refl
many_woken (t ∷ l) k = many_woken l (arrives k t Ready 1) ∙ arrives_many k t

pub same_rows : (k : State) (l q : List TaskSlot) → SameTasks q l → (all_woken k q).tasks ≡ (all_woken k l).tasks
unfolding task_at
same_rows k l q e =
    ext_get_or free_task (all_woken k q).tasks (all_woken k l).tasks (many_woken q k ∙ sym (many_woken l k)) (λ i h.
    let low : i < length k.tasks = rw (many_woken q k) at h in
    row_woken q k (task i) low ∙ ap (λ n. woken_row n (task_at k.tasks (task i))) (e i) ∙ sym (row_woken l k (task i) low))

-- ── who waits on o, and of those whom b satisfies
module _ (k : State) (S : Sound k) (o : ObjSlot) (b : ℕ) (q : List TaskSlot) (waiters : SameTasks q (those k.tasks (waiters_of o) (listed k.order))) where
  same_woken : SameTasks (kept (is_satisfied k o b) q) (woken_by k o b)
  same_woken n = count_kept (is_satisfied k o b) n q ∙ go (is_satisfied k o b (task n)) refl ∙ sym (count_woken o b k S (task n))
    where
      go : (y : Bool) → is_satisfied k o b (task n) ≡ y → (if y then count n q else 0) ≡ (if is_satisfied k o b (task n) then 1 else 0)
      go true e = waiters n ∙ S.listing.lists o (task n) ∙ rw (met_waits o b (task_at k.tasks (task n)).place e, e)
      go false e = rw e

  pub any_order : AnyOrder k o b q
  unfolding bits_set store_set
  any_order =
      record {
        woken = same_woken;
        tasks = same_rows k (woken_by k o b) (kept (is_satisfied k o b) q) same_woken;
        clears = same_clears k.tasks (woken_by k o b) (kept (is_satisfied k o b) q) same_woken;
        store = λ s. same_fold (λ r t. slip_bits b t r) (λ r t u. slips_swap b r t u) (woken_by k o b) (kept (is_satisfied k o b) q) s same_woken;
      }
