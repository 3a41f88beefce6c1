-- Where items lie: within the store. Who is found, and what is a queue, has a number within its table.
use Prim.Native.Nat.{ℕ, ◌+◌, ◌*◌, ◌<◌, ◌≤◌}
use mathlib.Core.Path.{◌≡◌, refl, sym, ap, ◌∙◌}
use mathlib.Core.Bool.{Bool, true, false, false≢true}
use mathlib.Core.List.{List, [], ◌∷◌}
use native.Mathlib.Nat.{mul-le-mul_right, mod-lt}
use native.Mathlib.Omega.{arith}
use lib.Dec.{eqb, ltb, leb}
use lib.ListN.{length}
use borrow.Author.Tests.{leb-true, leb-false}
use Rattle.std.proofs.Common.{if◌then◌else◌}
use Rattle.lists.specs.Lists.{kept, head}
use Rattle.lists.proofs.Bools.{and_left}
use Rattle.lists.proofs.Tests.{kept-kept, kept-head}
use Rattle.order.specs.Order.{listed}
use Rattle.slots.specs.Leads.{is_who}
use Rattle.rules.specs.Types.{TaskSlot, ObjSlot, Task, Ring, Unused, Queue, Object, Who, all_ready, waiters_of, those_satisfied_on, Outlet, to_waiter, to_queue, to_caller, State}
use Rattle.slots.specs.Values.{task_at}
use Rattle.slots.specs.Kinds.{kind_at}
use Rattle.rules.specs.Lines.{those, level, highest, leader, first}
use Rattle.rules.specs.Rings.{one_less, room_or}
use Rattle.rules.specs.Queues.{outlet_for, outlet}
use Rattle.rules.specs.Sentences.{RingFits}
use Rattle.rules.proofs.TableSlots.{past_tasks, past_objects}

-- an item of a queue lies within the object's part
pub place_within : (p c s : ℕ) → p < c → c * s ≤ 512 → p * s + s ≤ 512
place_within p c s h w =
    let a : (p + 1) * s ≤ c * s = mul-le-mul_right s (omega arith) in
    let b : (p + 1) * s ≡ p * s + s = omega arith in
    omega arith

-- who is first is one of those meant
pub first_meant : (k : State) (w : Who) (t : TaskSlot) → first k w ≡ t ∷ [] → is_who w (task_at k.tasks t).place ≡ true
unfolding first leader those
first_meant k w t e =
    and_left (is_who w (task_at k.tasks t).place) _
    (kept-head _ (listed k.order) t
    (sym (ap head
    (kept-kept (λ u. is_who w (task_at k.tasks u).place) (λ u. eqb (level k.tasks u) (highest k.tasks (those k.tasks w (listed k.order))))
    (listed k.order))) ∙ e))

no_free : (w : Who) (ts : List Task) (t : TaskSlot) → length ts ≤ t.0 → is_who w (task_at ts t).place ≡ true → ⊥
no_free all_ready ts t h e = false≢true (rw (past_tasks ts t h) at e)
no_free (waiters_of o) ts t h e = false≢true (rw (past_tasks ts t h) at e)
no_free (those_satisfied_on o b) ts t h e = false≢true (rw (past_tasks ts t h) at e)

pub first_within : (k : State) (w : Who) (t : TaskSlot) → first k w ≡ t ∷ [] → t.0 < length k.tasks
first_within k w t e = go (leb (length k.tasks) t.0) refl
  where
    go : (b : Bool) → leb (length k.tasks) t.0 ≡ b → t.0 < length k.tasks
    go true h = absurd (no_free w k.tasks t (leb-true (length k.tasks) t.0 h) (first_meant k w t e))
    go false h = leb-false (length k.tasks) t.0 h

pub queue_within : (os : List Object) (o : ObjSlot) (q : Ring) → kind_at os o ≡ Queue q → o.0 < length os
queue_within os o q e = go (leb (length os) o.0) refl
  where
    go : (c : Bool) → leb (length os) o.0 ≡ c → o.0 < length os
    go true h =
        let u : kind_at os o ≡ Unused = past_objects os o (leb-true (length os) o.0 h) in
        let z : ◌≡◌ {A = ℕ} 0 1 = cc in
        omega arith
    go false h = leb-false (length os) o.0 h

-- a list of at most one
pub first_one : (l : List TaskSlot) (t : TaskSlot) (r : List TaskSlot) → head l ≡ t ∷ r → head l ≡ t ∷ []
first_one [] t r e = absurd (let z : ◌≡◌ {A = ℕ} 0 1 = cc in omega arith)
first_one (x ∷ l) t r e = let z : x ≡ t = cc in rw z

-- who is first is the only one
pub first_single : (k : State) (w : Who) (t : TaskSlot) (r : List TaskSlot) → first k w ≡ t ∷ r → first k w ≡ t ∷ []
unfolding first leader
first_single k w t r e = first_one (kept (λ v. eqb (level k.tasks v) (highest k.tasks (those k.tasks w (listed k.order)))) (those k.tasks w (listed k.order))) t r e

-- where a sent item goes, by cases: to the first waiter, into the queue, or to the caller's slip
pub by_outlet : (k : State) (o : ObjSlot) (q : Ring) (P : Outlet → Type 0)
    → ((t : TaskSlot) → first k (waiters_of o) ≡ t ∷ [] → P (to_waiter t)) → P to_queue → P to_caller → P (outlet k o q)
unfolding outlet
by_outlet k o q P waiter queue caller = go (first k (waiters_of o)) refl
  where
    room : (b : Bool) → P (if b then to_queue else to_caller)
    room true = queue
    room false = caller

    told : (t : TaskSlot) → first k (waiters_of o) ≡ t ∷ [] → (b : Bool) → P (if b then to_waiter t else room_or q)
    told t e true = waiter t e
    told t e false = room (ltb q.count q.capacity)

    go : (f : List TaskSlot) → first k (waiters_of o) ≡ f → P (outlet_for q f)
    go [] e = room (ltb q.count q.capacity)
    go (t ∷ r) e = told t (first_single k (waiters_of o) t r e) (eqb q.count 0)

pub waiter_within : (k : State) (o : ObjSlot) (q : Ring) (t : TaskSlot) → outlet k o q ≡ to_waiter t → t.0 < length k.tasks
waiter_within k o q t =
    by_outlet k o q (λ x. x ≡ to_waiter t → t.0 < length k.tasks)
    (λ u f e. let z : u ≡ t = cc in rw z at (first_within k (waiters_of o) u f))
    (λ e. let z : ◌≡◌ {A = ℕ} 0 1 = cc in omega arith)
    (λ e. let z : ◌≡◌ {A = ℕ} 0 1 = cc in omega arith)

pub less_fits : (q : Ring) → RingFits q → RingFits (one_less q)
less_fits q f =
    record {
      some = f.some;
      few = f.few;
      small = f.small;
      whole = f.whole;
      starts = mod-lt (q.first + 1) f.some;
      counts = omega arith;
    }
