-- "in first-waiter order": behind those who stand in a line come the woken who belong there, in order of arrival.
use Prim.Native.Nat.{ℕ, ◌<◌}
use mathlib.Core.Path.{◌≡◌, refl, sym, ap, ◌∙◌}
use mathlib.Core.Bool.{Bool, true, false, ◌&&◌}
use mathlib.Core.List.{List, [], ◌∷◌, ◌++◌, append-nil, append_assoc}
use native.Mathlib.Omega.{arith}
use lib.Dec.{eqb}
use borrow.Author.Tests.{eqb-true, eq-eqb}
use Rattle.std.proofs.Common.{if◌then◌else◌}
use Rattle.lists.specs.Lists.{kept, head}
use Rattle.lists.proofs.Bools.{and_right}
use Rattle.lists.proofs.Tests.{kept-kept, kept-head}
use Rattle.order.specs.Order.{listed, without}
use Rattle.order.specs.Tidy.{count}
use Rattle.order.proofs.Counts.{without_none}
use Rattle.order.proofs.Fits.{HasRoom, fits_listed, fits_kept, fits_tail}
use Rattle.order.proofs.Passing.{kept_tail, kept_not}
use Rattle.slots.specs.Places.{is_ready}
use Rattle.slots.specs.Values.{placed, in_line, task_at}
use Rattle.slots.specs.Wants.{satisfied_on}
use Rattle.rules.specs.Lines.{line, those, level, highest, leader, first, to_tail}
use Rattle.rules.specs.Waits.{arrives}
use Rattle.rules.specs.Events.{woken_by, all_woken, bits_set}
use Rattle.rules.specs.Sentences.{Sound}
use Rattle.rules.proofs.EventCases.{by_woken}
use Rattle.rules.proofs.TableWithin.{first_meant, first_within}
use Rattle.rules.proofs.SoundLists.{listing_room}
use Rattle.rules.proofs.KeepBlocks.{arrives_at}
use Rattle.rules.proofs.Begun.{RoomyIn, arrives_fades}
use Rattle.promises.specs.Types.{TaskSlot, ObjSlot, Place, Free, Ready, Delayed, Waiting, Suspended, Spent, Task, those_satisfied_on, State}
use Rattle.promises.specs.EventGroups.{is_satisfied, woken_into}
use Rattle.promises.proofs.EventWakes.{wake_other, then_none}

-- whoever is satisfied waits, and so is not ready
not_ready : (o : ObjSlot) (b : ℕ) (p : Place) → satisfied_on o b p ≡ true → is_ready p ≡ false
not_ready o b Free e = refl
not_ready o b Ready e = sym e
not_ready o b (Delayed w) e = refl
not_ready o b (Waiting x w) e = refl
not_ready o b Suspended e = refl
not_ready o b Spent e = refl

-- the list that a head stands before
headed : (l : List TaskSlot) (t : TaskSlot) → head l ≡ t ∷ [] → HasRoom l → (t ∷ []) ++ without t l ≡ l
unfolding without count
headed [] t e R = absurd (let z : ◌≡◌ {A = ℕ} 0 1 = cc in omega arith)
headed (x ∷ l) t e R =
    let q : x ≡ t = cc in
    let c = rw (q, eq-eqb t.0 t.0 refl) at (R.once t.0) in
    let z : count t.0 l ≡ 0 = omega (arith, c) in
    rw (q, eq-eqb t.0 t.0 refl, without_none t l z)

none_kept : (p : TaskSlot → Bool) → ((t : TaskSlot) → p t ≡ false) → (l : List TaskSlot) → kept p l ≡ []
unfolding kept
none_kept p f [] = refl
none_kept p f (x ∷ l) = rw (f x) (none_kept p f l)

module _ (o : ObjSlot) (b : ℕ) (p : ℕ) where
  -- those of them who belong into the line of p, in order of arrival
  abbrev mine : State → TaskSlot → Bool
  mine j u = is_satisfied j o b u && eqb (level j.tasks u) p

  abbrev in_its : State → TaskSlot → Bool
  in_its j u = in_line p (task_at j.tasks u)

  abbrev behind : State → List TaskSlot
  behind j = kept (in_its j) (listed j.order) ++ kept (mine j) (listed j.order)

  -- one wake: who goes from the one list to the tail of the other stood first in it
  module _ (j : State) (R : RoomyIn j) (t : TaskSlot) (e : first j (those_satisfied_on o b) ≡ t ∷ []) where
    abbrev i : State
    i = arrives j t Ready 1

    abbrev l : List TaskSlot
    l = listed j.order

    low : t.0 < 16
    low = omega (arith, first_within j (those_satisfied_on o b) t e, R.many)

    is_met : is_satisfied j o b t ≡ true
    is_met = first_meant j (those_satisfied_on o b) t e

    last : listed i.order ≡ without t l ++ (t ∷ [])
    unfolding arrives to_tail
    last = fits_listed (without t l ++ (t ∷ [])) (fits_tail t l R.room low)

    here : task_at i.tasks t ≡ placed (task_at j.tasks t) Ready 1
    here = arrives_at j t Ready 1 (first_within j (those_satisfied_on o b) t e)

    line_then : kept (in_its i) (listed i.order) ≡ kept (in_its j) l ++ (if eqb (level j.tasks t) p then t ∷ [] else [])
    line_then =
        ap (kept (in_its i)) last
        ∙ kept_tail t (in_its j) (in_its i) (λ u n. ap (in_line p) (wake_other j t u n)) l
        ∙ rw (kept_not t (in_its j) (rw (not_ready o b (task_at j.tasks t).place is_met)) l, here)

    mine_then : kept (mine i) (listed i.order) ≡ without t (kept (mine j) l)
    mine_then =
        ap (kept (mine i)) last
        ∙ kept_tail t (mine j) (mine i) (λ u n. ap (λ (x : Task). satisfied_on o b x.place && eqb x.effective p) (wake_other j t u n)) l
        ∙ rw here (append-nil (without t (kept (mine j) l)))

    -- where it belongs there, it is the first of them
    first_mine : level j.tasks t ≡ p → head (kept (mine j) l) ≡ t ∷ []
    unfolding first leader those
    first_mine q = ap (λ n. head (kept (best n) l)) (sym (sym (eqb-true (level j.tasks t) top (and_right (is_satisfied j o b t) _ (kept-head (best top) l t heads))) ∙ q)) ∙ heads
      where
        top : ℕ
        top = highest j.tasks (kept (is_satisfied j o b) l)

        best : ℕ → TaskSlot → Bool
        best n u = is_satisfied j o b u && eqb (level j.tasks u) n

        heads : head (kept (best top) l) ≡ t ∷ []
        heads = sym (ap head (kept-kept (is_satisfied j o b) (λ u. eqb (level j.tasks u) top) l)) ∙ e

    one_wake : behind i ≡ behind j
    one_wake = rw (line_then, mine_then) (go (eqb (level j.tasks t) p) refl)
      where
        go : (y : Bool) → eqb (level j.tasks t) p ≡ y → (kept (in_its j) l ++ (if y then t ∷ [] else [])) ++ without t (kept (mine j) l) ≡ behind j
        go true q = rw append_assoc (ap (λ r. kept (in_its j) l ++ r) (headed (kept (mine j) l) t (first_mine (eqb-true (level j.tasks t) p q)) (fits_kept (mine j) l R.room)))
        go false q = rw (append-nil, kept_not t (mine j) (rw (is_met, q)) l)

  record Along (k j : State) : Type 0 where
    roomy : RoomyIn j
    same : behind j ≡ behind k

  pub lines_then : (k : State) → Sound k → line (bits_set k o b).tasks p (listed (bits_set k o b).order) ≡ line k.tasks p (listed k.order) ++ woken_into p k o b
  unfolding bits_set woken_by line
  lines_then k S =
      let i = all_woken k (woken_by k o b) in
      let A = by_woken o b (Along k)
      (λ j t A e. record { roomy = (arrives_fades j A.roomy t Ready 1 refl (low j A.roomy t e)).roomy; same = one_wake j A.roomy t e ∙ A.same }) 16 k
      (record { roomy = record { many = S.tables.task_slots; room = listing_room k.tasks k.order S.tables.task_slots S.listing }; same = refl }) in
      sym (append-nil (kept (in_its i) (listed i.order)))
      ∙ ap (λ r. kept (in_its i) (listed i.order) ++ r) (sym (none_kept (mine i) (λ t. rw (then_none o b k S t)) (listed i.order)))
      ∙ A.same
