-- A set may end several waits at once. Of two of one effective priority that it wakes, who stands ahead is woken first, and stands ahead where both join their line.
use Prim.Native.Nat.{ℕ, ◌<◌}
use mathlib.Core.Path.{◌≡◌, refl, sym, ap, ◌∙◌, subst}
use mathlib.Core.Bool.{Bool, true, false, ◌&&◌, false≢true}
use mathlib.Core.List.{List, [], ◌∷◌, ◌++◌}
use native.Mathlib.Omega.{arith}
use lib.Dec.{eqb}
use borrow.Author.Tests.{eqb-true, eqb-false, eq-eqb}
use Rattle.lists.specs.Lists.{kept, head}
use Rattle.lists.proofs.Bools.{and_right, and_intro, or_right, untrue}
use Rattle.lists.proofs.Tests.{kept-kept, kept-head}
use Rattle.numbers.specs.Numbers.{same_task}
use Rattle.order.specs.Order.{listed, without}
use Rattle.order.proofs.Passing.{one_number}
use Rattle.order.proofs.Fits.{fits_listed, fits_tail}
use Rattle.slots.specs.Wants.{satisfied_on}
use Rattle.slots.specs.Values.{task_at}
use Rattle.rules.specs.Types.{TaskSlot, ObjSlot, Ready, Task, those_satisfied_on, State}
use Rattle.rules.specs.Lines.{is_one_of, level, highest, those, leader, first, to_tail}
use Rattle.rules.specs.Waits.{arrives}
use Rattle.rules.specs.Events.{woken_in, all_woken}
use Rattle.rules.proofs.TableWithin.{first_meant, first_within}
use Rattle.rules.proofs.EventCases.{by_woken}
use Rattle.rules.proofs.KeepSlot.{at_same, at_other}
use Rattle.rules.proofs.Begun.{RoomyIn, arrives_fades}
use Rattle.rules.proofs.BegunPairs.{other_to_tail, first_to_tail, second_to_tail, ahead_among}

-- one wake
module _ (j : State) (R : RoomyIn j) (x : TaskSlot) (low : x.0 < 16) where
  last : listed (arrives j x Ready 1).order ≡ without x (listed j.order) ++ (x ∷ [])
  unfolding arrives to_tail
  last = fits_listed (without x (listed j.order) ++ (x ∷ [])) (fits_tail x (listed j.order) R.room low)

  ready : (task_at (arrives j x Ready 1).tasks x).place ≡ Ready
  unfolding arrives to_tail
  ready = ap (λ (y : Task). y.place) (at_same j.tasks x _ (omega (arith, R.many, low)))

  others : (v : TaskSlot) → (v.0 ≡ x.0 → ⊥) → task_at (arrives j x Ready 1).tasks v ≡ task_at j.tasks v
  unfolding arrives to_tail
  others v n = at_other j.tasks x _ v n

module _ (t u : TaskSlot) (differ : t.0 ≡ u.0 → ⊥) (o : ObjSlot) (b : ℕ) where
  -- the two tasks among those listed
  abbrev pair : List TaskSlot → List TaskSlot
  pair l = kept (is_one_of t u) l

  abbrev met : State → TaskSlot → Bool
  met j x = satisfied_on o b (task_at j.tasks x).place

  not_headed : (l : List TaskSlot) → head l ≡ u ∷ [] → pair l ≡ t ∷ u ∷ [] → ⊥
  unfolding kept
  not_headed [] f g = let z : ◌≡◌ {A = ℕ} 0 1 = cc in omega arith
  not_headed (x ∷ l) f g =
      let q : x ≡ u = cc in
      let p : is_one_of t u x ≡ true = ap (is_one_of t u) q ∙ or_right (same_task u t) (same_task u u) (eq-eqb u.0 u.0 refl) in
      let r : x ∷ pair l ≡ t ∷ u ∷ [] = rw p at g in
      let z : x ≡ t = cc in
      differ (ap (λ (v : TaskSlot). v.0) (sym z ∙ q))

  -- u is not the first while t, of the same effective priority, stands ahead of it and is satisfied too
  not_first : (j : State) → first j (those_satisfied_on o b) ≡ u ∷ [] → met j t ≡ true → level j.tasks t ≡ level j.tasks u → pair (listed j.order) ≡ t ∷ u ∷ [] → ⊥
  unfolding first leader those
  not_first j e m same h = not_headed (kept best (listed j.order)) heads (ahead_among t u differ best passes_t passes_u (listed j.order) ∙ h)
    where
      top : ℕ
      top = highest j.tasks (kept (met j) (listed j.order))

      best : TaskSlot → Bool
      best x = met j x && eqb (level j.tasks x) top

      heads : head (kept best (listed j.order)) ≡ u ∷ []
      heads = sym (ap head (kept-kept (met j) (λ x. eqb (level j.tasks x) top) (listed j.order))) ∙ e

      passes_u : best u ≡ true
      passes_u = kept-head best (listed j.order) u heads

      passes_t : best t ≡ true
      passes_t = and_intro (met j t) _ m (ap (λ (n : ℕ). eqb n top) same ∙ and_right (met j u) _ passes_u)

  -- how the two stand on the way: neither woken; t woken; both; or u alone, and t never will be
  pub data Stand (k j : State) : Type 0 where
    neither : task_at j.tasks t ≡ task_at k.tasks t → task_at j.tasks u ≡ task_at k.tasks u → pair (listed j.order) ≡ t ∷ u ∷ [] → Stand k j
    the_first : (task_at j.tasks t).place ≡ Ready → task_at j.tasks u ≡ task_at k.tasks u → pair (listed j.order) ≡ u ∷ t ∷ [] → Stand k j
    both : (task_at j.tasks t).place ≡ Ready → (task_at j.tasks u).place ≡ Ready → pair (listed j.order) ≡ t ∷ u ∷ [] → Stand k j
    the_second : (task_at j.tasks u).place ≡ Ready → task_at j.tasks t ≡ task_at k.tasks t → met j t ≡ false → Stand k j

  module _ (k : State) (level_same : level k.tasks t ≡ level k.tasks u) where
    record Going (j : State) : Type 0 where
      roomy : RoomyIn j
      stand : Stand k j

    -- who is ready is not woken
    awake : (j : State) (v : TaskSlot) → (task_at j.tasks v).place ≡ Ready → met j v ≡ true → ⊥
    awake j v e m = false≢true (sym (ap (satisfied_on o b) e) ∙ m)

    module _ (j : State) (x : TaskSlot) (G : Going j) (e : first j (those_satisfied_on o b) ≡ x ∷ []) where
      low : x.0 < 16
      low = omega (arith, first_within j (those_satisfied_on o b) x e, G.roomy.many)

      abbrev i : State
      i = arrives j x Ready 1

      met_x : met j x ≡ true
      met_x = first_meant j (those_satisfied_on o b) x e

      of : (v : TaskSlot) → (x.0 ≡ v.0 → ⊥) → task_at i.tasks v ≡ task_at j.tasks v
      of v n = others j G.roomy x low v (λ q. n (sym q))

      -- neither of the two is woken
      module _ (a : x.0 ≡ t.0 → ⊥) (c : x.0 ≡ u.0 → ⊥) where
        pair_stays : pair (listed i.order) ≡ pair (listed j.order)
        pair_stays = rw (last j G.roomy x low) (other_to_tail t u differ x a c (listed j.order))

        another : Stand k j → Stand k i
        another (neither p q h) = neither (of t a ∙ p) (of u c ∙ q) (pair_stays ∙ h)
        another (the_first p q h) = the_first (ap (λ (y : Task). y.place) (of t a) ∙ p) (of u c ∙ q) (pair_stays ∙ h)
        another (both p q h) = both (ap (λ (y : Task). y.place) (of t a) ∙ p) (ap (λ (y : Task). y.place) (of u c) ∙ q) (pair_stays ∙ h)
        another (the_second p q m) = the_second (ap (λ (y : Task). y.place) (of u c) ∙ p) (of t a ∙ q) (ap (λ (y : Task). satisfied_on o b y.place) (of t a) ∙ m)

      -- t is
      module _ (q : x ≡ t) where
        first_then : Stand k j → Stand k i
        first_then (neither p r h) =
            the_first (subst (λ v. (task_at i.tasks v).place ≡ Ready) q (ready j G.roomy x low)) (of u (λ z. differ (sym (ap (λ (v : TaskSlot). v.0) q) ∙ z)) ∙ r)
            (rw (last j G.roomy x low, q) (first_to_tail t u differ (listed j.order) h))
        first_then (the_first p r h) = absurd (awake j t p (subst (λ v. met j v ≡ true) q met_x))
        first_then (both p r h) = absurd (awake j t p (subst (λ v. met j v ≡ true) q met_x))
        first_then (the_second p r m) = absurd (false≢true (sym m ∙ subst (λ v. met j v ≡ true) q met_x))

      -- u is
      module _ (q : x ≡ u) where
        t_stays : task_at i.tasks t ≡ task_at j.tasks t
        t_stays = of t (λ z. differ (sym z ∙ ap (λ (v : TaskSlot). v.0) q))

        now_ready : (task_at i.tasks u).place ≡ Ready
        now_ready = subst (λ v. (task_at i.tasks v).place ≡ Ready) q (ready j G.roomy x low)

        second_then : Stand k j → Stand k i
        second_then (neither p r h) = the_second now_ready (t_stays ∙ p) (ap (λ (y : Task). satisfied_on o b y.place) t_stays ∙ untrue (met j t)
            (λ m. not_first j (e ∙ ap (λ (v : TaskSlot). v ∷ []) q) m (ap (λ (y : Task). y.effective) p ∙ level_same ∙ sym (ap (λ (y : Task). y.effective) r)) h))
        second_then (the_first p r h) = both (ap (λ (y : Task). y.place) t_stays ∙ p) now_ready (rw (last j G.roomy x low, q) (second_to_tail t u differ (listed j.order) h))
        second_then (both p r h) = absurd (awake j u r (subst (λ v. met j v ≡ true) q met_x))
        second_then (the_second p r m) = absurd (awake j u p (subst (λ v. met j v ≡ true) q met_x))

      wakes_one : Going i
      wakes_one = record { roomy = (arrives_fades j G.roomy x Ready 1 refl low).roomy; stand = go (eqb x.0 t.0) refl (eqb x.0 u.0) refl }
        where
          go : (y : Bool) → eqb x.0 t.0 ≡ y → (z : Bool) → eqb x.0 u.0 ≡ z → Stand k i
          go true f z g = first_then (one_number x t (eqb-true x.0 t.0 f)) G.stand
          go false f true g = second_then (one_number x u (eqb-true x.0 u.0 g)) G.stand
          go false f false g = another (eqb-false x.0 t.0 f) (eqb-false x.0 u.0 g) G.stand

    pub set_stand : (n : ℕ) → RoomyIn k → pair (listed k.order) ≡ t ∷ u ∷ [] → Stand k (all_woken k (woken_in n k o b))
    set_stand n R h = (by_woken o b Going (λ j x G e. wakes_one j x G e) n k (record { roomy = R; stand = neither refl refl h })).stand
