-- Lines, lists and the order of those who wait, from the one order alone: who stands in it once stands once where its state belongs; and back.
use Prim.Native.Nat.{ℕ, ◌<◌, ◌≤◌}
use mathlib.Core.Path.{◌≡◌, refl, sym, ◌∙◌}
use mathlib.Core.Bool.{Bool, true, false, ◌&&◌, ◌||◌}
use mathlib.Core.List.{List}
use native.Mathlib.Omega.{arith}
use lib.Dec.{eqb}
use lib.ListN.{length, get_or}
use borrow.Author.Tests.{eq-eqb}
use Rattle.std.proofs.Common.{if◌then◌else◌}
use Rattle.lists.proofs.Bools.{and_left, or_right}
use Rattle.lists.proofs.Tests.{kept_within}
use Rattle.numbers.specs.Numbers.{task, idle}
use Rattle.order.specs.Order.{listed}
use Rattle.order.specs.Tidy.{count}
use Rattle.order.proofs.CountPassing.{count_kept}
use Rattle.order.proofs.Fits.{HasRoom}
use Rattle.slots.specs.Places.{is_ready, is_blocked, is_listed, waits_on}
use Rattle.slots.specs.Values.{in_line, task_at}
use Rattle.rules.specs.Types.{TaskSlot, ObjSlot, Order, Place, Task, waiters_of}
use Rattle.rules.specs.Lines.{line, those, begun, level}
use Rattle.rules.specs.Sentences.{Listing}
use Rattle.rules.proofs.TableSlots.{past_tasks, passes_blocked}

in_line_count : (b c : Bool) (n : ℕ) → (b ≡ true → c ≡ true) → n ≡ (if c then 1 else 0) → (if b then n else 0) ≡ (if b then 1 else 0)
in_line_count true c n f e = rw (f refl) at e
in_line_count false c n f e = refl

ready_listed : (p : Place) (b : Bool) → (is_ready p && b) ≡ true → is_listed p ≡ true
ready_listed p b e = rw (and_left (is_ready p) b e)

waits_blocked : (o : ObjSlot) (p : Place) → waits_on o p ≡ true → is_blocked p ≡ true
waits_blocked o p e = passes_blocked (waits_on o) p refl refl refl refl e

blocked_listed : (p : Place) → is_blocked p ≡ true → is_listed p ≡ true
blocked_listed p e = or_right (is_ready p) (is_blocked p) e

-- who waits on an object is one of those who began
pub begun_agrees : (ts : List Task) (l : List TaskSlot) (b : ObjSlot) → those ts (waiters_of b) (begun ts l) ≡ those ts (waiters_of b) l
unfolding those begun
begun_agrees ts l b = kept_within (λ t. is_blocked (task_at ts t).place) (λ t. waits_on b (task_at ts t).place) (λ t. waits_blocked b (task_at ts t).place) l

pub listing_of : (ts : List Task) (o : Order) → ((t : TaskSlot) → count t.0 (listed o) ≡ (if is_listed (task_at ts t).place then 1 else 0)) → length o.places ≡ 16
    → o.living ≤ 16 → ((i : ℕ) → o.living ≤ i → i < 16 → (get_or o.places i idle).0 ≡ 0) → Listing ts o
unfolding line those begun
listing_of ts o once places room zeros =
    record {
      lines = λ p t.
          count_kept (λ u. in_line p (task_at ts u)) t.0 (listed o)
          ∙ in_line_count (in_line p (task_at ts t)) (is_listed (task_at ts t).place) (count t.0 (listed o))
          (ready_listed (task_at ts t).place (eqb (level ts t) p)) (once t);
      lists = λ b t.
          count_kept (λ u. waits_on b (task_at ts u).place) t.0 (listed o)
          ∙ in_line_count (waits_on b (task_at ts t).place) (is_listed (task_at ts t).place) (count t.0 (listed o))
          (λ e. blocked_listed (task_at ts t).place (waits_blocked b (task_at ts t).place e)) (once t);
      remembered = λ t.
          count_kept (λ u. is_blocked (task_at ts u).place) t.0 (listed o)
          ∙ in_line_count (is_blocked (task_at ts t).place) (is_listed (task_at ts t).place) (count t.0 (listed o)) (blocked_listed (task_at ts t).place) (once t);
      agrees = begun_agrees ts (listed o);
      one_order = record { none_else = λ t e. rw e at (once t); places = places; room = room; zeros = zeros };
    }

-- how often each stands in the one order
module _ (ts : List Task) (o : Order) (L : Listing ts o) (t : TaskSlot) where
  in_its_line : is_ready (task_at ts t).place ≡ true → count t.0 (listed o) ≡ 1
  unfolding line
  in_its_line e =
      let r : in_line (level ts t) (task_at ts t) ≡ true = rw (e, eq-eqb (level ts t) (level ts t) refl) in
      rw r at (sym (count_kept (λ u. in_line (level ts t) (task_at ts u)) t.0 (listed o)) ∙ L.lines (level ts t) t)

  among_begun : is_blocked (task_at ts t).place ≡ true → count t.0 (listed o) ≡ 1
  unfolding begun
  among_begun e = rw e at (sym (count_kept (λ u. is_blocked (task_at ts u).place) t.0 (listed o)) ∙ L.remembered t)

  pub once_of : count t.0 (listed o) ≡ (if is_listed (task_at ts t).place then 1 else 0)
  once_of = go (is_ready (task_at ts t).place) refl (is_blocked (task_at ts t).place) refl (L.one_order.none_else t)
    where
      go : (a : Bool) → is_ready (task_at ts t).place ≡ a → (b : Bool) → is_blocked (task_at ts t).place ≡ b → ((a || b) ≡ false → count t.0 (listed o) ≡ 0)
          → count t.0 (listed o) ≡ (if a || b then 1 else 0)
      go true e b f g = in_its_line e
      go false e true f g = among_begun f
      go false e false f g = g refl

-- so it fits into an order
pub listing_room : (ts : List Task) (o : Order) → length ts ≡ 16 → Listing ts o → HasRoom (listed o)
listing_room ts o h L = record { once = λ n. few (is_listed (task_at ts (task n)).place) (once_of ts o L (task n)); low = low }
  where
    few : {n : ℕ} (b : Bool) → n ≡ (if b then 1 else 0) → n ≤ 1
    few true e = omega arith
    few false e = omega arith

    low : (n : ℕ) → 16 ≤ n → count n (listed o) ≡ 0
    low n l = let past : length ts ≤ n = omega arith in rw (past_tasks ts (task n) past) at (once_of ts o L (task n))
