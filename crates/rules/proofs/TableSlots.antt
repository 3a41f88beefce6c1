-- A number past a table names a free slot, so what holds of each slot holds of each number.
use Prim.Native.Nat.{ℕ, ◌≤◌}
use mathlib.Core.Path.{◌≡◌, refl, sym, ap, ◌∙◌}
use mathlib.Core.Bool.{Bool, true, false, false≢true}
use mathlib.Core.List.{List}
use native.Mathlib.Omega.{arith}
use lib.Dec.{ltb}
use lib.ListN.{length, get_or-eq_default}
use borrow.Author.Tests.{ltb-true, ltb-false}
use Rattle.lists.specs.Lists.{all_below}
use Rattle.lists.proofs.Bools.{all_below_lem}
use Rattle.numbers.specs.Numbers.{task, object}
use Rattle.slots.specs.Places.{is_free, takes_task, is_ready, is_blocked}
use Rattle.slots.specs.Values.{free_task, task_at}
use Rattle.slots.specs.Kinds.{unused, kind_at}
use Rattle.rules.specs.Types.{TaskSlot, ObjSlot, Place, Free, Ready, Delayed, Waiting, Suspended, Spent, Task, Ring, Holder, Sort, Kind, Object, Unused, SpentObject, Queue, Mutex, Group}

pub past_tasks : (ts : List Task) (t : TaskSlot) → length ts ≤ t.0 → task_at ts t ≡ free_task
unfolding task_at
past_tasks ts t h = get_or-eq_default ts free_task h

pub past_objects : (os : List Object) (o : ObjSlot) → length os ≤ o.0 → kind_at os o ≡ Unused
unfolding kind_at
past_objects os o h = ap (λ (x : Object). x.kind) (get_or-eq_default os unused h)

pub any_task : (ts : List Task) (q : TaskSlot → Task → Bool) → length ts ≡ 16 → all_below 16 (λ n. q (task n) (task_at ts (task n))) ≡ true
    → ((t : TaskSlot) → 16 ≤ t.0 → q t free_task ≡ true) → (t : TaskSlot) → q t (task_at ts t) ≡ true
any_task ts q l e f t = go (ltb t.0 16) refl
  where
    go : (b : Bool) → ltb t.0 16 ≡ b → q t (task_at ts t) ≡ true
    go true h = all_below_lem 16 (λ n. q (task n) (task_at ts (task n))) e t.0 (ltb-true t.0 16 h)
    go false h = let g : length ts ≤ t.0 = omega (arith, ltb-false t.0 16 h) in rw (past_tasks ts t g) (f t (ltb-false t.0 16 h))

pub any_kind : (os : List Object) (q : Kind → Bool) → length os ≡ 16 → all_below 16 (λ n. q (kind_at os (object n))) ≡ true
    → q Unused ≡ true → (o : ObjSlot) → q (kind_at os o) ≡ true
any_kind os q l e f o = go (ltb o.0 16) refl
  where
    go : (b : Bool) → ltb o.0 16 ≡ b → q (kind_at os o) ≡ true
    go true h = all_below_lem 16 (λ n. q (kind_at os (object n))) e o.0 (ltb-true o.0 16 h)
    go false h = let g : length os ≤ o.0 = omega (arith, ltb-false o.0 16 h) in rw (past_objects os o g) f

-- the test of a ready task
pub is_ready_lem : (p : Place) → is_ready p ≡ true → p ≡ Ready
is_ready_lem Free e = absurd (false≢true e)
is_ready_lem Ready e = refl
is_ready_lem (Delayed w) e = absurd (false≢true e)
is_ready_lem (Waiting o w) e = absurd (false≢true e)
is_ready_lem Suspended e = absurd (false≢true e)
is_ready_lem Spent e = absurd (false≢true e)

-- a task that passes a test which no free and no spent slot passes is there
pub passes_there : (f : Place → Bool) (p : Place) → f Free ≡ false → f Spent ≡ false → f p ≡ true → is_free p ≡ false
passes_there f Free z y e = absurd (false≢true (sym z ∙ e))
passes_there f Ready z y e = refl
passes_there f (Delayed w) z y e = refl
passes_there f (Waiting o w) z y e = refl
passes_there f Suspended z y e = refl
passes_there f Spent z y e = absurd (false≢true (sym y ∙ e))

-- who passes a test that only the delayed and the waiting can pass
pub passes_blocked : (f : Place → Bool) (p : Place) → f Free ≡ false → f Ready ≡ false → f Suspended ≡ false → f Spent ≡ false → f p ≡ true → is_blocked p ≡ true
passes_blocked f Free a b c d e = sym a ∙ e
passes_blocked f Ready a b c d e = sym b ∙ e
passes_blocked f (Delayed w) a b c d e = refl
passes_blocked f (Waiting o w) a b c d e = refl
passes_blocked f Suspended a b c d e = sym c ∙ e
passes_blocked f Spent a b c d e = sym d ∙ e

-- a slot that a create may take is free
pub takes_free : (p : Place) → takes_task p ≡ true → is_free p ≡ true
takes_free Free e = refl
takes_free Ready e = absurd (false≢true e)
takes_free (Delayed w) e = absurd (false≢true e)
takes_free (Waiting o w) e = absurd (false≢true e)
takes_free Suspended e = absurd (false≢true e)
takes_free Spent e = refl

-- by the kind of an object
pub by_kind : (x : Kind) (P : Kind → Type 0) → P Unused → P SpentObject → ((q : Ring) → x ≡ Queue q → P (Queue q)) → ((s : Sort) (h : Holder) → x ≡ Mutex s h → P (Mutex s h))
    → ((b : ℕ) → x ≡ Group b → P (Group b)) → P x
by_kind Unused P none spent queue mutex group = none
by_kind SpentObject P none spent queue mutex group = spent
by_kind (Queue q) P none spent queue mutex group = queue q refl
by_kind (Mutex s h) P none spent queue mutex group = mutex s h refl
by_kind (Group b) P none spent queue mutex group = group b refl
