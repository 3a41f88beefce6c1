-- Whom the one pass finds is the first of the highest effective priority; of the ready, the head of the highest occupied line.
use Prim.Native.Nat.{ℕ, ◌≤◌}
use mathlib.Core.Path.{◌≡◌, refl, sym, ap, ◌∙◌}
use mathlib.Core.Bool.{Bool, true, false}
use mathlib.Core.List.{List, [], ◌∷◌}
use native.Mathlib.Omega.{arith}
use lib.Dec.{eqb, ltb, leb}
use borrow.Author.Tests.{ltb-true, ltb-false, lt-ltb, le-ltb, lt-leb, le-leb, eq-eqb, ne_eqb}
use Rattle.std.proofs.Common.{if◌then◌else◌}
use Rattle.std.specs.Prelude.{Option, None}
use Rattle.lists.specs.Lists.{foldl, kept, head, is_none}
use Rattle.lists.proofs.Tests.{kept-kept}
use Rattle.order.specs.Order.{listed}
use Rattle.slots.specs.Leads.{is_who, best, better, leads}
use Rattle.rules.specs.Types.{TaskSlot, Task, Who, all_ready, Lead, State}
use Rattle.slots.specs.Values.{task_at}
use Rattle.rules.specs.Lines.{line, those, level, highest, leader, first}
use Rattle.rules.specs.Sound.{no_higher}

module _ (ts : List Task) where
  none_highest : highest ts [] ≤ 0
  unfolding highest
  none_highest = omega arith

  -- who stands in front leads, unless one behind has a higher priority
  pub leader_cons : (t : TaskSlot) (l : List TaskSlot) → leader ts (t ∷ l) ≡ (if ltb (level ts t) (highest ts l) then leader ts l else t ∷ [])
  unfolding leader highest kept
  leader_cons t l = go (ltb (level ts t) (highest ts l)) refl
    where
      go : (b : Bool) → ltb (level ts t) (highest ts l) ≡ b
          → head (kept (λ u. eqb (level ts u) (if b then highest ts l else level ts t)) (t ∷ l)) ≡ (if b then leader ts l else t ∷ [])
      go true e = rw (ne_eqb (level ts t) (highest ts l) (λ q. omega (arith, ltb-true (level ts t) (highest ts l) e)))
      go false e = rw (eq-eqb (level ts t) (level ts t) refl)

  -- someone leads, unless there is none
  pub leader_none : (l : List TaskSlot) → is_none (leader ts l) ≡ is_none l
  unfolding leader kept
  leader_none [] = refl
  leader_none (t ∷ l) = rw (leader_cons t l) (go l (ltb (level ts t) (highest ts l)) refl (leader_none l))
    where
      go : (m : List TaskSlot) (b : Bool) → ltb (level ts t) (highest ts m) ≡ b → is_none (leader ts m) ≡ is_none m → is_none (if b then leader ts m else t ∷ []) ≡ false
      go m false e ih = refl
      go [] true e ih = absurd (omega (arith, ltb-true (level ts t) (highest ts []) e, none_highest))
      go (u ∷ m) true e ih = ih

  module _ (w : Who) where
    abbrev step : Option Lead → TaskSlot → Option Lead
    step b t = better w b t (task_at ts t)

    -- the best so far stays so, unless one of the rest has a higher priority
    from_best : (b : TaskSlot) (q : ℕ) (l : List TaskSlot)
        → leads (foldl step (best b q) l) ≡ (if ltb q (highest ts (those ts w l)) then leader ts (those ts w l) else b ∷ [])
    unfolding foldl those kept highest better
    from_best b q [] = rw (le-ltb q 0 (omega arith))
    from_best b q (t ∷ l) = go (is_who w (task_at ts t).place) (ltb q (level ts t)) refl (ltb (level ts t) h) refl (ltb q h) refl (from_best b q l) (from_best t (level ts t) l)
      where
        rest : List TaskSlot
        rest = those ts w l

        h : ℕ
        h = highest ts rest

        go : (c : Bool) (d : Bool) → ltb q (level ts t) ≡ d → (e : Bool) → ltb (level ts t) h ≡ e → (f : Bool) → ltb q h ≡ f
            → leads (foldl step (best b q) l) ≡ (if ltb q h then leader ts rest else b ∷ [])
            → leads (foldl step (best t (level ts t)) l) ≡ (if ltb (level ts t) h then leader ts rest else t ∷ [])
            → leads (foldl step (if c then (if d then best t (level ts t) else best b q) else best b q) l)
            ≡ (if ltb q (highest ts (if c then t ∷ rest else rest)) then leader ts (if c then t ∷ rest else rest) else b ∷ [])
        go false d p e r f s i j = i
        go true true p true r f s i j =
            j ∙ rw (r, leader_cons t rest, r, lt-ltb q h (omega (arith, ltb-true q (level ts t) p, ltb-true (level ts t) h r)))
        go true true p false r f s i j = j ∙ rw (r, leader_cons t rest, r, p)
        go true false p true r f s i j = i ∙ rw (r, leader_cons t rest, r)
        go true false p false r f s i j =
            i ∙ rw (le-ltb q h (omega (arith, ltb-false q (level ts t) p, ltb-false (level ts t) h r)), r, p)

    pub finds : (l : List TaskSlot) → leads (foldl step None l) ≡ leader ts (those ts w l)
    unfolding foldl those kept better leader
    finds [] = refl
    finds (t ∷ l) = go (is_who w (task_at ts t).place) (finds l) (from_best t (level ts t) l)
      where
        go : (c : Bool) → leads (foldl step None l) ≡ leader ts (those ts w l)
            → leads (foldl step (best t (level ts t)) l) ≡ (if ltb (level ts t) (highest ts (those ts w l)) then leader ts (those ts w l) else t ∷ [])
            → leads (foldl step (if c then best t (level ts t) else None) l) ≡ leader ts (if c then t ∷ those ts w l else those ts w l)
        go true i j = j ∙ sym (leader_cons t (those ts w l))
        go false i j = i

-- "the head of the highest occupied line"
pub first_heads_highest : (k : State) → first k all_ready ≡ head (line k.tasks (highest k.tasks (those k.tasks all_ready (listed k.order))) (listed k.order))
unfolding first leader those line
first_heads_highest k = ap head (kept-kept _ _ (listed k.order))

-- "no higher line is occupied": the highest one is no higher
module _ (ts : List Task) where
  none_above : (p : ℕ) (l : List TaskSlot) → is_none (kept (λ t. ltb p (level ts t)) l) ≡ leb (highest ts l) p
  unfolding kept highest
  none_above p [] = sym (le-leb 0 p (omega arith))
  none_above p (t ∷ l) = go (ltb p (level ts t)) refl (ltb (level ts t) (highest ts l)) refl (none_above p l)
    where
      go : (b : Bool) → ltb p (level ts t) ≡ b → (c : Bool) → ltb (level ts t) (highest ts l) ≡ c → is_none (kept (λ u. ltb p (level ts u)) l) ≡ leb (highest ts l) p
          → is_none (if b then t ∷ kept (λ u. ltb p (level ts u)) l else kept (λ u. ltb p (level ts u)) l) ≡ leb (if c then highest ts l else level ts t) p
      go true e true f ih = sym (lt-leb (highest ts l) p (omega (arith, ltb-true p (level ts t) e, ltb-true (level ts t) (highest ts l) f)))
      go true e false f ih = sym (lt-leb (level ts t) p (ltb-true p (level ts t) e))
      go false e true f ih = ih
      go false e false f ih =
          let low = ltb-false p (level ts t) e in
          ih ∙ le-leb (highest ts l) p (omega (arith, low, ltb-false (level ts t) (highest ts l) f)) ∙ sym (le-leb (level ts t) p low)

  pub no_higher_by : (p : ℕ) (l : List TaskSlot) → no_higher ts p l ≡ leb (highest ts (those ts all_ready l)) p
  unfolding no_higher those
  no_higher_by p l = ap is_none (sym (kept-kept _ _ l)) ∙ none_above p (those ts all_ready l)
