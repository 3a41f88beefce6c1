-- The lines alone tell who is first of the ready, and whether a higher line is occupied.
use Prim.Native.Nat.{ℕ, ◌<◌, ◌≤◌}
use mathlib.Core.Path.{◌≡◌, refl, sym, ap, ◌∙◌}
use mathlib.Core.Bool.{Bool, true, false, false≢true}
use mathlib.Core.List.{List, [], ◌∷◌}
use native.Mathlib.Omega.{arith}
use lib.Dec.{eqb, ltb}
use borrow.Author.Tests.{ltb-true, ltb-false, ne_eqb}
use Rattle.std.proofs.Common.{if◌then◌else◌}
use Rattle.lists.specs.Lists.{kept, head, is_none}
use Rattle.lists.proofs.Tests.{kept-kept}
use Rattle.numbers.specs.declared.TaskSlot.{TaskSlot}
use Rattle.slots.specs.declared.Task.{Task}
use Rattle.slots.specs.Who.{all_ready}
use Rattle.rules.specs.Lines.{line, those, level, highest, leader}
use Rattle.rules.specs.Sound.{no_higher}
use Rattle.rules.proofs.LineLeads.{leader_none, no_higher_by}

module _ (ts : List Task) where
  none_level : (l : List TaskSlot) → is_none l ≡ true → highest ts l ≤ 0
  unfolding highest
  none_level [] e = omega arith
  none_level (t ∷ l) e = absurd (false≢true e)

  -- no one stands above the highest
  level_none : (p : ℕ) (l : List TaskSlot) → highest ts l < p → kept (λ t. eqb (level ts t) p) l ≡ []
  unfolding kept highest
  level_none p [] h = refl
  level_none p (t ∷ l) h = go (ltb (level ts t) (highest ts l)) refl h (level_none p l)
    where
      go : (b : Bool) → ltb (level ts t) (highest ts l) ≡ b → (if b then highest ts l else level ts t) < p → (highest ts l < p → kept (λ u. eqb (level ts u) p) l ≡ [])
          → (if eqb (level ts t) p then t ∷ kept (λ u. eqb (level ts u) p) l else kept (λ u. eqb (level ts u) p) l) ≡ []
      go true e g ih = rw (ne_eqb (level ts t) p (λ q. omega (arith, ltb-true (level ts t) (highest ts l) e))) (ih g)
      go false e g ih = rw (ne_eqb (level ts t) p (λ q. omega arith)) (ih (omega (arith, ltb-false (level ts t) (highest ts l) e)))

  -- a line is a level of the ready
  line_ready : (p : ℕ) (l : List TaskSlot) → line ts p l ≡ kept (λ t. eqb (level ts t) p) (those ts all_ready l)
  unfolding line those
  line_ready p l = sym (kept-kept _ _ l)

  leader_ready : (l : List TaskSlot) → leader ts (those ts all_ready l) ≡ head (line ts (highest ts (those ts all_ready l)) l)
  unfolding leader
  leader_ready l = ap head (sym (line_ready (highest ts (those ts all_ready l)) l))

  -- the highest line of m is occupied in l too
  no_higher_line : (l m : List TaskSlot) → ((p : ℕ) → line ts p l ≡ line ts p m) → highest ts (those ts all_ready m) ≤ highest ts (those ts all_ready l)
  no_higher_line l m same = go (ltb hl hm) refl
    where
      hl : ℕ
      hl = highest ts (those ts all_ready l)

      hm : ℕ
      hm = highest ts (those ts all_ready m)

      go : (b : Bool) → ltb hl hm ≡ b → hm ≤ hl
      go false e = ltb-false hl hm e
      go true e =
          let empty : line ts hm m ≡ [] = sym (same hm) ∙ line_ready hm l ∙ level_none hm (those ts all_ready l) (ltb-true hl hm e) in
          let no_one : is_none (those ts all_ready m) ≡ true = sym (leader_none ts (those ts all_ready m)) ∙ ap is_none (leader_ready m ∙ ap head empty) in
          omega (arith, ltb-true hl hm e, none_level (those ts all_ready m) no_one)

  module _ (l m : List TaskSlot) (same : (p : ℕ) → line ts p l ≡ line ts p m) where
    same_highest : highest ts (those ts all_ready l) ≡ highest ts (those ts all_ready m)
    same_highest = omega (arith, no_higher_line l m same, no_higher_line m l (λ p. sym (same p)))

    pub same_leader : leader ts (those ts all_ready l) ≡ leader ts (those ts all_ready m)
    same_leader = leader_ready l ∙ rw (same_highest, same (highest ts (those ts all_ready m))) (sym (leader_ready m))

    pub same_higher : (p : ℕ) → no_higher ts p l ≡ no_higher ts p m
    same_higher p = no_higher_by ts p l ∙ rw same_highest (sym (no_higher_by ts p m))
