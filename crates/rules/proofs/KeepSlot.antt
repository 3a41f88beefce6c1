-- A task's slot changed, and its place in the order with it: a nearly sound kernel stays so, if what is asked of the task holds of its new value.
use Prim.Native.Nat.{ℕ, ◌<◌, ◌≤◌}
use mathlib.Core.Path.{◌≡◌, refl, sym, ap, ◌∙◌}
use mathlib.Core.Bool.{Bool, true, false}
use mathlib.Core.List.{List, [], ◌∷◌, ◌++◌}
use native.Mathlib.Omega.{arith}
use lib.Dec.{eqb, ltb}
use lib.ListN.{length, set, length-set}
use lib.Seq.{get_or-set_same, get_or-set_other, set-get_or, set_out}
use borrow.Author.Tests.{eqb-true, eqb-false, ltb-true, ltb-false}
use Rattle.std.proofs.Common.{if◌then◌else◌}
use Rattle.numbers.specs.Numbers.{task, idle, same_task}
use Rattle.order.specs.Order.{listed, ordered, without}
use Rattle.order.specs.Tidy.{count}
use Rattle.order.proofs.Passing.{one_number}
use Rattle.order.proofs.Counts.{count_append, count_one, count_other, count_gone, count_stays}
use Rattle.slots.specs.Places.{is_free, is_listed}
use Rattle.slots.specs.Values.{free_task, task_at}
use Rattle.rules.specs.Types.{TaskSlot, ObjSlot, Order, Task, State}
use Rattle.rules.specs.Tables.{with_task, with_order}
use Rattle.rules.specs.Lines.{to_tail, to_head, leaves}
use Rattle.rules.specs.Sentences.{Holds, AsIdle, TaskFits, Tables, Listing}
use Rattle.rules.proofs.SoundLists.{listing_of, once_of}
use Rattle.rules.proofs.KeepNearly.{Open, TaskFine, Nearly, ones, relisted}

-- what a slot holds after one is set
module _ (ts : List Task) (t : TaskSlot) (x : Task) where
  pub at_same : t.0 < length ts → task_at (set ts t.0 x) t ≡ x
  unfolding task_at
  at_same h = get_or-set_same ts t.0 x free_task h

  pub at_other : (u : TaskSlot) → (u.0 ≡ t.0 → ⊥) → task_at (set ts t.0 x) u ≡ task_at ts u
  unfolding task_at
  at_other u n = get_or-set_other ts t.0 u.0 x free_task n

-- what is asked alike of the new task and of the one that it replaces is asked alike of every task
pub like_before : (ts : List Task) (t : TaskSlot) (x : Task) {A : Type 0} (f : Task → A) → f x ≡ f (task_at ts t) → (u : TaskSlot) → f (task_at (set ts t.0 x) u) ≡ f (task_at ts u)
like_before ts t x f e u = go (same_task u t) refl (ltb t.0 (length ts)) refl
  where
    go : (b : Bool) → same_task u t ≡ b → (c : Bool) → ltb t.0 (length ts) ≡ c → f (task_at (set ts t.0 x) u) ≡ f (task_at ts u)
    go true q true l = rw (one_number u t (eqb-true u.0 t.0 q)) (ap f (at_same ts t x (ltb-true t.0 (length ts) l)) ∙ e)
    go true q false l = ap (λ us. f (task_at us u)) (set_out ts t.0 x (ltb-false t.0 (length ts) l))
    go false q c l = ap f (at_other ts t x u (eqb-false u.0 t.0 q))

-- a slot set to what it holds
pub set_same : (k : State) (t : TaskSlot) → with_task k t (task_at k.tasks t) ≡ k
unfolding task_at
set_same k t = rw (set-get_or k.tasks t.0 free_task)

module _ {w : Open} (k : State) (N : Nearly w k) (t : TaskSlot) (x : Task) (low : t.0 < 16)
    (F : TaskFine w k.objects t x)
    (E : (o : ObjSlot) → Holds k.objects t o → is_free x.place ≡ false)
    (I : t.0 ≡ 0 → AsIdle x) where
  abbrev us : List Task
  us = set k.tasks t.0 x

  abbrev l : List TaskSlot
  l = listed k.order

  same : task_at us t ≡ x
  same = at_same k.tasks t x (omega (arith, N.tables.task_slots))

  -- the changed task, and every other
  each : (P : TaskSlot → Task → Type 0) → P t x → ((u : TaskSlot) → (u.0 ≡ t.0 → ⊥) → P u (task_at k.tasks u))
      → (u : TaskSlot) → P u (task_at us u)
  each P h o u = go (same_task u t) refl
    where
      go : (b : Bool) → same_task u t ≡ b → P u (task_at us u)
      go true e = rw (one_number u t (eqb-true u.0 t.0 e), same) h
      go false e = rw (at_other k.tasks t x u (eqb-false u.0 t.0 e)) (o u (eqb-false u.0 t.0 e))

  wide : length us ≡ 16
  wide = length-set k.tasks t.0 x ∙ N.tables.task_slots

  tables_now : Tables us k.objects
  tables_now =
      record {
        task_slots = wide;
        object_slots = N.tables.object_slots;
        as_idle = each (λ u y. u.0 ≡ 0 → AsIdle y) I (λ u n e. rw (one_number u idle e) N.tables.as_idle) idle refl;
        tasks = each (λ u y. TaskFits k.objects u y) F.fits (λ u n. N.tables.tasks u);
        idle_holds = N.tables.idle_holds;
        holders = λ u p h. each (λ v y. Holds k.objects v p → is_free y.place ≡ false) (E p) (λ v n q. N.tables.holders v p q) u h;
        ranges = N.tables.ranges;
      }

  -- the order, whatever it is, has each once
  listed_so : (o : Order) → Listing us o → Nearly w (with_order (with_task k t x) o)
  listed_so o l =
      record {
        tables = tables_now;
        range = each (λ u y. y.own ≤ 31) F.range (λ u n. N.range u);
        listing = l;
        due = each (λ u y. w u y.place ≡ true) F.due (λ u n. N.due u);
        counts = N.counts;
      }

  changed : (o : List TaskSlot) → ((n : ℕ) → count n o ≡ ones us n) → Nearly w (with_order (with_task k t x) (ordered o))
  changed o c = listed_so (ordered o) (relisted us o wide c).listing

  -- how often each stands in the list without t
  ones_now : ones us t.0 ≡ (if is_listed x.place then 1 else 0)
  ones_now = ap (λ (y : Task). if is_listed y.place then 1 else 0) same

  ones_other : (n : ℕ) → (t.0 ≡ n → ⊥) → count n (without t l) ≡ ones us n
  ones_other n d =
      count_stays t n d l ∙ once_of k.tasks k.order N.listing (task n)
      ∙ sym (ap (λ (y : Task). if is_listed y.place then 1 else 0) (at_other k.tasks t x (task n) (λ e. d (sym e))))

  -- by cases whether a number is that of t
  here_or : {P : ℕ → Type 0} → P t.0 → ((n : ℕ) → (t.0 ≡ n → ⊥) → P n) → (n : ℕ) → P n
  here_or {P} h o n = go (eqb t.0 n) refl
    where
      go : (b : Bool) → eqb t.0 n ≡ b → P n
      go true e = rw (eqb-true t.0 n e) at h
      go false e = o n (eqb-false t.0 n e)

  -- what the order then lists
  tail_ones : is_listed x.place ≡ true → (n : ℕ) → count n (without t l ++ (t ∷ [])) ≡ ones us n
  tail_ones e = here_or {P = λ n. count n (without t l ++ (t ∷ [])) ≡ ones us n}
      (rw (count_append, count_gone t l, count_one t, ones_now, e))
      (λ n d. rw (count_append, count_other n t d, ones_other n d) (omega arith))

  head_ones : is_listed x.place ≡ true → (n : ℕ) → count n (t ∷ without t l) ≡ ones us n
  head_ones e = here_or {P = λ n. count n ((t ∷ []) ++ without t l) ≡ ones us n}
      (rw (count_append, count_gone t l, count_one t, ones_now, e))
      (λ n d. rw (count_append, count_other n t d, ones_other n d) (omega arith))

  leave_ones : is_listed x.place ≡ false → (n : ℕ) → count n (without t l) ≡ ones us n
  leave_ones e = here_or {P = λ n. count n (without t l) ≡ ones us n} (rw (count_gone t l, ones_now, e)) ones_other

  pub tail_listed : is_listed x.place ≡ true → listed (to_tail (with_task k t x) t).order ≡ without t l ++ (t ∷ [])
  unfolding to_tail
  tail_listed e = (relisted us (without t l ++ (t ∷ [])) wide (tail_ones e)).same

  pub head_listed : is_listed x.place ≡ true → listed (to_head (with_task k t x) t).order ≡ t ∷ without t l
  unfolding to_head
  head_listed e = (relisted us (t ∷ without t l) wide (head_ones e)).same

  pub leave_listed : is_listed x.place ≡ false → listed (leaves (with_task k t x) t).order ≡ without t l
  unfolding leaves
  leave_listed e = (relisted us (without t l) wide (leave_ones e)).same

  -- to the tail, to the head, out of the order
  pub tail_nearly : is_listed x.place ≡ true → Nearly w (to_tail (with_task k t x) t)
  unfolding to_tail
  tail_nearly e = changed (without t l ++ (t ∷ [])) (tail_ones e)

  pub head_nearly : is_listed x.place ≡ true → Nearly w (to_head (with_task k t x) t)
  unfolding to_head
  head_nearly e = changed (t ∷ without t l) (head_ones e)

  pub leave_nearly : is_listed x.place ≡ false → Nearly w (leaves (with_task k t x) t)
  unfolding leaves
  leave_nearly e = changed (without t l) (leave_ones e)

  -- where the order has it as before
  pub stay_nearly : is_listed x.place ≡ is_listed (task_at k.tasks t).place → Nearly w (with_task k t x)
  stay_nearly e =
      listed_so k.order (listing_of us k.order
      (each (λ u y. count u.0 l ≡ (if is_listed y.place then 1 else 0)) (once t ∙ ap (λ (b : Bool). if b then 1 else 0) (sym e)) (λ u n. once u))
      N.listing.one_order.places N.listing.one_order.room N.listing.one_order.zeros)
    where
      once : (u : TaskSlot) → count u.0 l ≡ (if is_listed (task_at k.tasks u).place then 1 else 0)
      once = once_of k.tasks k.order N.listing

-- an existing task moved to the tail of its line or list, unchanged
pub moved_nearly : {w : Open} (k : State) → Nearly w k → (t : TaskSlot) → t.0 < 16 → is_listed (task_at k.tasks t).place ≡ true → Nearly w (to_tail k t)
moved_nearly {w} k N t low e =
    rw (set_same k t) at
    (tail_nearly k N t (task_at k.tasks t) low (record { fits = N.tables.tasks t; range = N.range t; due = N.due t })
    (λ o h q. N.tables.holders t o h q) (λ z. rw (one_number t idle z) N.tables.as_idle) e)
