-- Alike kernels get the same refusal; and the numbers that an accepted call leans on are low.
use Prim.Native.Nat.{ℕ, zero, suc, ◌<◌, ◌≤◌}
use mathlib.Core.Path.{◌≡◌, refl, sym, subst}
use mathlib.Core.Bool.{Bool, true, false, false≢true}
use mathlib.Core.List.{List, [], ◌∷◌, map}
use native.Mathlib.Omega.{arith}
use lib.Dec.{eqb, ltb}
use lib.ListN.{length, get_or}
use borrow.Author.Tests.{eqb-false, ltb-true}
use Rattle.std.proofs.Common.{if◌then◌else◌}
use Rattle.lists.specs.Lists.{every, index}
use Rattle.lists.proofs.Bools.{and_left, and_right, on}
use Rattle.numbers.specs.declared.TaskSlot.{TaskSlot}
use Rattle.calls.specs.declared.Asked.{Asked}
use Rattle.calls.specs.Behind.{nothing, on_task}
use Rattle.order.specs.declared.Order.{Order}
use Rattle.slots.specs.declared.Task.{Task}
use Rattle.slots.specs.Places.{takes_task, is_suspended}
use Rattle.rules.specs.State.{State}
use Rattle.slots.specs.Values.{task_at}
use Rattle.rules.specs.Tables.{free_slot, with_order}
use Rattle.rules.specs.Sound.{sound}
use Rattle.rows.specs.Applies.{none_free, not_suspended, Row, row, first_row, table}
use Rattle.rules.specs.Circles.{closes_circle}
use Rattle.rules.specs.Refusals.{seen, held_or_waited, in_use, later_row, refusal}
use Rattle.promises.specs.Alike.{Alike}
use Rattle.promises.proofs.AlikeTwins.{one_kernel}
use Rattle.promises.proofs.AlikeEffects.{slot_low}

rows_same : (k : State) (o : Order) → Alike k (with_order k o) → (a : Asked) (item store : ℕ) → later_row k a item store ≡ later_row (with_order k o) a item store
unfolding later_row table none_free held_or_waited in_use closes_circle
rows_same k o e a item store = rw (e.lists a.object)

pub alike_refusal : (k j : State) (a : Asked) (item store : ℕ) → sound k ≡ sound j → Alike k j → refusal k a item store ≡ refusal j a item store
unfolding refusal
alike_refusal k j a item store e b =
    let p = one_kernel b in
    let q : later_row k a item store ≡ later_row j a item store =
    subst (λ z. later_row k a item store ≡ later_row z a item store) p (rows_same k j.order (subst (λ z. Alike k z) (sym p) b) a item store) in
    rw (e, q)

-- where the table gives 0, no row applies
clear : (rs : List Row) → every (map (λ (r : Row). ltb 0 r.number) rs) ≡ true → first_row rs ≡ 0 → (i : ℕ) → (get_or rs i (row 0 false)).applies ≡ false
unfolding every
clear [] p e i = refl
clear (r ∷ rs) p e i = go r.applies refl e (clear rs (and_right (ltb 0 r.number) _ p)) i
  where
    go : (b : Bool) → r.applies ≡ b → (if b then r.number else first_row rs) ≡ 0 → (first_row rs ≡ 0 → (i : ℕ) → (get_or rs i (row 0 false)).applies ≡ false)
        → (i : ℕ) → (get_or (r ∷ rs) i (row 0 false)).applies ≡ false
    go true f g ih i = absurd (omega (arith, ltb-true 0 r.number (and_left (ltb 0 r.number) _ p)))
    go false f g ih zero = f
    go false f g ih (suc i) = ih g i

-- a slot that create finds is one of the 16; so is that of a suspended task
index_within : (p : Task → Bool) (xs : List Task) → index p xs ≤ length xs
unfolding index
index_within p [] = omega arith
index_within p (x ∷ xs) = go (p x) (index_within p xs)
  where
    go : (b : Bool) → index p xs ≤ length xs → (if b then 0 else suc (index p xs)) ≤ suc (length xs)
    go true h = omega arith
    go false h = omega arith

pub create_low : (k : State) (p item store : ℕ) → length k.tasks ≤ 16 → later_row k (nothing 1 p 0 1 0) item store ≡ 0 → free_slot k.tasks < 16
unfolding later_row table none_free free_slot every
create_low k p item store h e = go (eqb (free_slot k.tasks) 16) refl (clear (table (seen k (nothing 1 p 0 1 0)) (nothing 1 p 0 1 0) item store) refl e 6)
  where
    go : (b : Bool) → eqb (free_slot k.tasks) 16 ≡ b → b ≡ false → free_slot k.tasks < 16
    go true f g = absurd (false≢true (sym g))
    go false f g = omega (arith, eqb-false (free_slot k.tasks) 16 f, index_within (λ (x : Task). takes_task x.place) k.tasks)

pub resume_low : (k : State) (t : TaskSlot) (last : Bool) (item store : ℕ) → length k.tasks ≤ 16 → later_row k (on_task 4 t last 0) item store ≡ 0 → t.0 < 16
unfolding later_row table not_suspended every
resume_low k t last item store h e = slot_low is_suspended refl k.tasks t h
    (on (is_suspended (task_at k.tasks t).place) (clear (table (seen k (on_task 4 t last 0)) (on_task 4 t last 0) item store) refl e 11))
