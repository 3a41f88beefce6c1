-- A list that fits into an order: each slot's number at most once, and no other number. Every move keeps it so.
use Prim.Native.Nat.{ℕ, ◌+◌, ◌<◌, ◌≤◌}
use mathlib.Core.Path.{◌≡◌, refl}
use mathlib.Core.Bool.{Bool, true, false}
use mathlib.Core.List.{List, [], ◌∷◌, ◌++◌}
use native.Mathlib.Omega.{arith}
use lib.Dec.{eqb}
use borrow.Author.Tests.{eqb-true, eqb-false}
use Rattle.std.proofs.Common.{if◌then◌else◌}
use Rattle.lists.specs.Lists.{kept}
use Rattle.numbers.specs.declared.TaskSlot.{TaskSlot}
use Rattle.numbers.specs.Numbers.{task}
use Rattle.order.specs.Order.{listed, ordered, without}
use Rattle.order.specs.Tidy.{count}
use Rattle.order.proofs.Counts.{count_append, count_one, count_other, count_gone, count_stays}
use Rattle.order.proofs.CountPassing.{count_kept}
use Rattle.order.proofs.Rooms.{exactly_room}
use Rattle.order.proofs.Orders.{listed-ordered}

pub record HasRoom (xs : List TaskSlot) : Type 0 where
  pub once : (n : ℕ) → count n xs ≤ 1
  pub low : (n : ℕ) → 16 ≤ n → count n xs ≡ 0

pub fits_listed : (xs : List TaskSlot) → HasRoom xs → listed (ordered xs) ≡ xs
fits_listed xs f = listed-ordered xs (exactly_room {e = λ n. count n xs} xs (record { counts = λ n. refl }) f.once f.low)

-- those of them that pass a test
pub fits_kept : (q : TaskSlot → Bool) (xs : List TaskSlot) → HasRoom xs → HasRoom (kept q xs)
fits_kept q xs f = record { once = λ n. omega (arith, fewer n, f.once n); low = λ n h. omega (arith, fewer n, f.low n h) }
  where
    cut : (b : Bool) (c : ℕ) → (if b then c else 0) ≤ c
    cut true c = omega arith
    cut false c = omega arith

    fewer : (n : ℕ) → count n (kept q xs) ≤ count n xs
    fewer n = rw (count_kept q n xs) (cut (q (task n)) (count n xs))

module _ (t : TaskSlot) (xs : List TaskSlot) (f : HasRoom xs) where
  -- without t, and then with it
  left : (n : ℕ) → (b : Bool) → eqb t.0 n ≡ b → count n (without t xs) ≤ count n xs
  left n true e = rw (← eqb-true t.0 n e, count_gone t xs) (omega arith)
  left n false e = omega (arith, count_stays t n (eqb-false t.0 n e) xs)

  back : (n : ℕ) → (b : Bool) → eqb t.0 n ≡ b → count n (without t xs) + count n (t ∷ []) ≤ 1
  back n true e = rw (← eqb-true t.0 n e, count_gone t xs, count_one t) (omega arith)
  back n false e = omega (arith, count_stays t n (eqb-false t.0 n e) xs, count_other n t (eqb-false t.0 n e), f.once n)

  pub fits_leaves : HasRoom (without t xs)
  fits_leaves =
      record {
        once = λ n. omega (arith, left n (eqb t.0 n) refl, f.once n);
        low = λ n h. omega (arith, left n (eqb t.0 n) refl, f.low n h);
      }

  module _ (slot : t.0 < 16) where
    back_low : (n : ℕ) → 16 ≤ n → count n (without t xs) + count n (t ∷ []) ≡ 0
    back_low n h = omega (arith, fits_leaves.low n h, count_other n t (λ q. omega arith))

    pub fits_tail : HasRoom (without t xs ++ (t ∷ []))
    fits_tail = record { once = λ n. rw count_append (back n (eqb t.0 n) refl); low = λ n h. rw count_append (back_low n h) }

    pub fits_head : HasRoom (t ∷ without t xs)
    fits_head =
        record {
          once = λ n. omega (arith, count_append n (t ∷ []) (without t xs), back n (eqb t.0 n) refl);
          low = λ n h. omega (arith, count_append n (t ∷ []) (without t xs), back_low n h);
        }
