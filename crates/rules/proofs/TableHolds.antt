-- Who holds: the test and the proposition.
use Prim.Native.Nat.{ℕ}
use mathlib.Core.Path.{◌≡◌, refl, sym, ap, ◌∙◌}
use mathlib.Core.Bool.{Bool, true, false, not, ◌&&◌, and-false, false≢true}
use mathlib.Core.List.{List}
use native.Mathlib.Omega.{arith}
use lib.ListN.{get_or}
use borrow.Author.Tests.{eqb-true, eq-eqb}
use Rattle.lists.proofs.Tests.{any_at, any_none}
use Rattle.lists.proofs.Bools.{on, untrue}
use Rattle.numbers.specs.Numbers.{object}
use Rattle.order.proofs.Passing.{one_number}
use Rattle.slots.specs.Kinds.{unused, sort_of, is_recursive, is_by, hands, held_by, recursive_by, kind_at}
use Rattle.rules.specs.Types.{TaskSlot, ObjSlot, Holder, Nobody, By, Sort, Kind, Unused, SpentObject, Queue, Mutex, Object, Group}
use Rattle.rules.specs.Tables.{holds}
use Rattle.rules.specs.Sentences.{Holds, HoldsNothing}

pub held_one : (t : TaskSlot) (h : Holder) → is_by t h ≡ true → h ≡ By t
held_one t Nobody e = absurd (false≢true e)
held_one t (By u) e = ap By (one_number u t (eqb-true u.0 t.0 e))

-- what somebody holds is a mutex
pub held_mutex : (x : Kind) (t : TaskSlot) → hands x ≡ By t → (s : Sort) × (x ≡ Mutex s (By t))
held_mutex Unused t e = absurd (let z : ◌≡◌ {A = ℕ} 0 1 = cc in omega arith)
held_mutex SpentObject t e = absurd (let z : ◌≡◌ {A = ℕ} 0 1 = cc in omega arith)
held_mutex (Queue q) t e = absurd (let z : ◌≡◌ {A = ℕ} 0 1 = cc in omega arith)
held_mutex (Mutex s h) t e = (s, ap (Mutex s) e)
held_mutex (Group b) t e = absurd (let z : ◌≡◌ {A = ℕ} 0 1 = cc in omega arith)

pub some_holds : (os : List Object) (t : TaskSlot) (o : ObjSlot) → Holds os t o → holds os t ≡ true
unfolding holds kind_at
some_holds os t o h = any_at (λ (x : Object). held_by t x.kind) os o.0 unused refl (rw h (eq-eqb t.0 t.0 refl))

pub none_holds : (os : List Object) (t : TaskSlot) → HoldsNothing os t → holds os t ≡ false
unfolding holds kind_at
none_holds os t h =
    any_none (λ (x : Object). held_by t x.kind) os unused (λ i. untrue _ (λ e. h (object i) (held_one t (hands (get_or os i unused).kind) e)))

pub not_held : (os : List Object) (t : TaskSlot) → holds os t ≡ false → HoldsNothing os t
not_held os t e o h = false≢true (sym e ∙ some_holds os t o h)

-- what t does not hold is no recursive mutex that t holds; so where a take closes no circle, no chain leads back
pub not_again : (t : TaskSlot) (x : Kind) → held_by t x ≡ false → recursive_by t x ≡ false
not_again t x e = ap (λ (b : Bool). is_recursive (sort_of x) && b) e ∙ and-false (is_recursive (sort_of x))

pub no_circle_leads : (t : TaskSlot) (x : Kind) (b : Bool) → held_by t x ≡ false → (not (recursive_by t x) && b) ≡ false → b ≡ false
no_circle_leads t x b e f = ap (λ (c : Bool). not c && b) (sym (not_again t x e)) ∙ f

-- what row 12 does not turn away is not the caller's, or is recursive
pub again_if_his : (t : TaskSlot) (x : Kind) → (held_by t x && not (recursive_by t x)) ≡ false → held_by t x ≡ true → recursive_by t x ≡ true
again_if_his t x e f = on (recursive_by t x) (ap (λ (b : Bool). b && not (recursive_by t x)) (sym f) ∙ e)
