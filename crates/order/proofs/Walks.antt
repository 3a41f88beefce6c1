-- The code's walk past the first of a line leaves what it should.
use Prim.Native.Nat.{ℕ, ◌+◌, ◌%◌, ◌<◌, ◌≤◌}
use mathlib.Core.Path.{◌≡◌, refl, sym, ap, ◌∙◌}
use mathlib.Core.Bool.{Bool, true, false, ◌&&◌}
use mathlib.Core.List.{List, [], ◌∷◌, ◌++◌, append_assoc, append-nil}
use native.Mathlib.Nat.{mod-lt, mod-eq_of_lt}
use native.Mathlib.Numerals.{add-one}
use native.Mathlib.Omega.{arith}
use lib.Dec.{ltb}
use lib.ListN.{length, get_or, take, drop, length-take, drop_of_length-le, get_or-eq_default}
use lib.Seq.{take-nil, take_all, get_or-take, drop-cons}
use borrow.Author.Tests.{ltb-true, ltb-false, lt-ltb, le-ltb}
use Rattle.std.proofs.Common.{if◌then◌else◌}
use Rattle.lists.specs.Lists.{foldl}
use Rattle.numbers.specs.declared.TaskSlot.{TaskSlot}
use Rattle.numbers.specs.Numbers.{idle, same_task}
use Rattle.order.specs.declared.Order.{Order}
use Rattle.order.specs.Order.{listed, ordered, appended_to, reach}
use Rattle.order.specs.Turns.{less_those, turned_of, times_turned, head_after, walk, past_next}
use Rattle.order.proofs.Halves.{reach-listed}
use Rattle.order.proofs.Orders.{snoc, listed-ordered}
use Rattle.order.proofs.Rolls.{less_none}

-- ── the whole of it
pub walked : (ks ys xs : List TaskSlot) (j : ℕ) → (foldl (past_next ks) (walk (ordered ys) j) xs).left ≡ ordered (ys ++ less_those xs (drop j ks))
unfolding foldl less_those
walked ks ys [] j = rw append-nil
walked ks ys (x ∷ xs) j = go (ltb j (length ks)) refl (same_task x (get_or ks j idle)) refl (walked ks ys xs (j + 1)) (walked ks (ys ++ (x ∷ [])) xs j)
  where
    go : (a : Bool) → ltb j (length ks) ≡ a → (b : Bool) → same_task x (get_or ks j idle) ≡ b
        → (foldl (past_next ks) (walk (ordered ys) (j + 1)) xs).left ≡ ordered (ys ++ less_those xs (drop (j + 1) ks))
        → (foldl (past_next ks) (walk (ordered (ys ++ (x ∷ []))) j) xs).left ≡ ordered ((ys ++ (x ∷ [])) ++ less_those xs (drop j ks))
        → (foldl (past_next ks) (if a && b then walk (ordered ys) (j + 1) else walk (appended_to (ordered ys) x) j) xs).left ≡ ordered (ys ++ less_those (x ∷ xs) (drop j ks))
    go true e true f ih jh = ih ∙ rw (add-one, drop-cons ks j idle (ltb-true j (length ks) e), f)
    go true e false f ih jh = rw (snoc ys x, jh, append_assoc, drop-cons ks j idle (ltb-true j (length ks) e), f)
    go false e b f ih jh = rw (snoc ys x, jh, append_assoc, drop_of_length-le ks {i = j} (ltb-false j (length ks) e), less_none xs)

pub appended_all : (ys ks : List TaskSlot) → foldl appended_to (ordered ys) ks ≡ ordered (ys ++ ks)
unfolding foldl
appended_all ys [] = rw append-nil
appended_all ys (k ∷ ks) = rw (snoc ys k, appended_all (ys ++ (k ∷ [])) ks, append_assoc)

-- ── rounds
nobody_turned : (o : Order) → turned_of o [] ≡ ordered (listed o)
nobody_turned o = ap ordered (append-nil (less_those (listed o) []) ∙ less_none (listed o))

module _ (o : Order) (l : length o.places ≡ 16) where
  pub listed_many : length (listed o) ≡ reach o
  listed_many = ap (length {A = TaskSlot}) (sym (reach-listed o l)) ∙ length-take (reach o) o.places ∙ omega arith

  none_turned : turned_of (turned_of o []) [] ≡ turned_of o []
  none_turned =
      let few : length (listed o) ≤ 16 = omega (arith, listed_many) in
      nobody_turned (turned_of o []) ∙ ap (λ (x : Order). ordered (listed x)) (nobody_turned o) ∙ ap ordered (listed-ordered (listed o) few) ∙ sym (nobody_turned o)

  -- a line in which nobody stands
  pub none_there : (ks : List TaskSlot) (n m : ℕ) → length ks ≡ 0 → turned_of o (take m ks) ≡ times_turned o ks n
  none_there [] n m e = rw (take-nil m, le-ltb n 0 (omega arith), take-nil (n % 0)) (sym none_turned)
  none_there (k ∷ ks) n m e = absurd (omega arith)

  -- who heads the line then
  pub heads_none : (m : ℕ) → reach o ≡ 0 → get_or (listed o) m idle ≡ idle
  heads_none m e = get_or-eq_default (listed o) idle {n = m} (omega (arith, listed_many))

  pub heads_then : (n : ℕ) → 0 < reach o → get_or o.places (n % reach o) idle ≡ head_after (listed o) n
  heads_then n h = rw listed_many (sym (get_or-take (reach o) o.places (n % reach o) idle (mod-lt n h)) ∙ rw (reach-listed o l))

-- less than a round, and more
pub less_than_round : (o : Order) (ks : List TaskSlot) (n : ℕ) → n < length ks → turned_of o (take n ks) ≡ times_turned o ks n
less_than_round o ks n h = rw (lt-ltb n (length ks) h, mod-eq_of_lt h)

pub more_rounds : (o : Order) (ks : List TaskSlot) (n m : ℕ) → m ≡ length ks → m ≤ n → turned_of (turned_of o (take m ks)) (take (n % m) ks) ≡ times_turned o ks n
more_rounds o ks n m e h = rw (e, le-ltb n (length ks) (omega arith), take_all (length ks) ks (omega arith))
