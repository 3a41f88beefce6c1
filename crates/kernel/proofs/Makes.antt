-- The calls that write an object and nothing else: the makes and the remove, which the step has in one place.
use Rattle.std.proofs.Common.{◌≡◌, ℕ, ◌+◌, ◌<◌, ◌≤◌, Bool, true, false, eqb, ◌⊎◌, List, refl, inl, inr, arith, ne_eqb, eqb-true, if◌then◌else◌}
use borrow.Author.Tests.{eqb-false}
use Rattle.numbers.specs.Numbers.{object}
use Rattle.calls.specs.declared.Asked.{Asked}
use Rattle.rows.specs.Asking.{is, makes_object}
use Rattle.rules.specs.State.{State}
use Rattle.rules.specs.Tables.{free_object, with_object}
use Rattle.rules.specs.Effects.{queue_made, mutex_made, removed, effect}
use Rattle.rules.specs.Events.{group_made}
use Rattle.rules.specs.Steps.{stored}
use Rattle.kernel.specs.Made.{new_object}

-- the numbers from 10 to 20 that are none of 13 to 18
pub record Writes (n : ℕ) : Type 0 where
  pub least : 10 ≤ n
  pub most : n ≤ 20
  pub not_13 : n ≡ 13 → ⊥
  pub not_14 : n ≡ 14 → ⊥
  pub not_15 : n ≡ 15 → ⊥
  pub not_16 : n ≡ 16 → ⊥
  pub not_17 : n ≡ 17 → ⊥
  pub not_18 : n ≡ 18 → ⊥

-- none of these three
past_three : (m n : ℕ) → m ≤ n → (n ≡ m → ⊥) → (n ≡ m + 1 → ⊥) → (n ≡ m + 2 → ⊥) → m + 3 ≤ n
past_three m n l a b c = omega arith

-- none of 1 to 9
pub from_ten : (n : ℕ) → 1 ≤ n → (n ≡ 1 → ⊥) → (n ≡ 2 → ⊥) → (n ≡ 3 → ⊥) → (n ≡ 4 → ⊥) → (n ≡ 5 → ⊥) → (n ≡ 6 → ⊥) → (n ≡ 7 → ⊥) → (n ≡ 8 → ⊥) → (n ≡ 9 → ⊥) → 10 ≤ n
from_ten n l a b c d e f g h i = past_three 7 n (past_three 4 n (past_three 1 n l a b c) d e f) g h i

pub at_most : (n : ℕ) → n < 21 → n ≤ 20
at_most n l = omega arith

by_writes : (n : ℕ) → Writes n → (P : Type 0) → (n ≡ 10 → P) → (n ≡ 11 → P) → (n ≡ 12 → P) → (n ≡ 19 → P) → (n ≡ 20 → P) → P
by_writes n W P a b c d e = go (eqb n 10) refl (eqb n 11) refl (eqb n 12) refl (eqb n 19) refl
  where
    go : (v : Bool) → eqb n 10 ≡ v → (w : Bool) → eqb n 11 ≡ w → (x : Bool) → eqb n 12 ≡ x → (y : Bool) → eqb n 19 ≡ y → P
    go true q w r x s y u = a (eqb-true n 10 q)
    go false q true r x s y u = b (eqb-true n 11 r)
    go false q false r true s y u = c (eqb-true n 12 s)
    go false q false r false s true u = d (eqb-true n 19 u)
    go false q false r false s false u =
        let l : 13 ≤ n = omega (arith, eqb-false n 10 q, eqb-false n 11 r, eqb-false n 12 s, W.least) in
        let m : 16 ≤ n = omega (arith, l, W.not_13, W.not_14, W.not_15) in
        let o : 19 ≤ n = omega (arith, m, W.not_16, W.not_17, W.not_18) in
        e (omega (arith, o, eqb-false n 19 u, W.most))

module _ (a : Asked) (W : Writes a.number) where
  pub writes_makes : is 12 a ≡ false → makes_object a ≡ true
  writes_makes f = by_writes a.number W (makes_object a ≡ true) (λ e. rw e) (λ e. rw e) (λ e. absurd (eqb-false a.number 12 f e)) (λ e. rw e) (λ e. rw e)

  pub writes_effect : (k : State) → effect k a ≡ (if is 12 a then removed k a.object a.last else with_object k (object (free_object k.objects)) (new_object a))
  unfolding effect queue_made mutex_made group_made new_object
  writes_effect k = by_writes a.number W _ (λ e. rw e) (λ e. rw e) (λ e. rw e) (λ e. rw e) (λ e. rw e)

-- no call has this number
module _ (a : Asked) (k : State) (item s : List ℕ) where
  pub none_called : (a.number ≡ 0) ⊎ (24 ≤ a.number) → (effect k a ≡ k) × (stored k a item s ≡ s)
  unfolding effect stored
  none_called (inl e) = (rw e, rw e)
  none_called (inr l) = (
    rw (ne_eqb a.number 1 (λ e. omega arith), ne_eqb a.number 2 (λ e. omega arith), ne_eqb a.number 3 (λ e. omega arith), ne_eqb a.number 4 (λ e. omega arith), ne_eqb a.number 5 (λ e. omega arith), ne_eqb a.number 6 (λ e. omega arith))
        (rw (ne_eqb a.number 7 (λ e. omega arith), ne_eqb a.number 8 (λ e. omega arith), ne_eqb a.number 9 (λ e. omega arith), ne_eqb a.number 10 (λ e. omega arith), ne_eqb a.number 11 (λ e. omega arith), ne_eqb a.number 12 (λ e. omega arith))
        (rw (ne_eqb a.number 13 (λ e. omega arith), ne_eqb a.number 14 (λ e. omega arith), ne_eqb a.number 15 (λ e. omega arith), ne_eqb a.number 16 (λ e. omega arith), ne_eqb a.number 17 (λ e. omega arith), ne_eqb a.number 18 (λ e. omega arith))
        (rw (ne_eqb a.number 19 (λ e. omega arith), ne_eqb a.number 20 (λ e. omega arith), ne_eqb a.number 21 (λ e. omega arith), ne_eqb a.number 22 (λ e. omega arith), ne_eqb a.number 23 (λ e. omega arith))))),
    rw (ne_eqb a.number 13 (λ e. omega arith), ne_eqb a.number 14 (λ e. omega arith), ne_eqb a.number 21 (λ e. omega arith), ne_eqb a.number 23 (λ e. omega arith)),
  )

-- a make and a remove leave the store
pub writes_store : (a : Asked) → Writes a.number → (k : State) (item s : List ℕ) → stored k a item s ≡ s
unfolding stored
writes_store a W k item s = by_writes a.number W (stored k a item s ≡ s) (λ e. rw e) (λ e. rw e) (λ e. rw e) (λ e. rw e) (λ e. rw e)
