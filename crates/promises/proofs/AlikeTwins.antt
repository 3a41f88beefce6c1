-- Alike kernels with room in their orders, and what takes them to such kernels: a move, a change of a table, of a count.
use Prim.Native.Nat.{ℕ, ◌<◌, ◌≤◌}
use mathlib.Core.Path.{◌≡◌, refl, sym, ap, subst, ◌∙◌}
use mathlib.Core.Bool.{Bool, true, false}
use mathlib.Core.List.{List, [], ◌∷◌, ◌++◌}
use lib.Dec.{eqb, ltb}
use lib.ListN.{length, set, length-set}
use lib.Seq.{set_out, get_or-set_same, get_or-set_other}
use borrow.Author.Tests.{eqb-true, eqb-false, ltb-true, ltb-false}
use Rattle.lists.specs.Lists.{kept}
use Rattle.numbers.specs.declared.TaskSlot.{TaskSlot}
use Rattle.numbers.specs.declared.ObjSlot.{ObjSlot}
use Rattle.order.specs.declared.Order.{Order}
use Rattle.order.specs.Order.{listed, ordered, without}
use Rattle.order.proofs.Passing.{one_number}
use Rattle.order.proofs.Fits.{HasRoom, fits_listed, fits_tail, fits_head, fits_leaves}
use Rattle.slots.specs.declared.Task.{Task}
use Rattle.slots.specs.declared.Object.{Object}
use Rattle.slots.specs.Who.{waiters_of}
use Rattle.slots.specs.Places.{is_blocked, waits_on}
use Rattle.slots.specs.Values.{free_task, in_line, task_at}
use Rattle.rules.specs.State.{State}
use Rattle.rules.specs.Tables.{with_order}
use Rattle.rules.specs.Lines.{line, those, begun}
use Rattle.rules.proofs.LineMoves.{passing, passing_tail, passing_head, passing_leaves}
use Rattle.promises.specs.Alike.{Alike}

-- alike; the task slots, the running task and both orders obey the ranges
pub record Twins (k j : State) : Type 0 where
  pub alike : Alike k j
  pub slots : length k.tasks ≤ 16
  pub runs : k.running.0 < 16
  pub here : HasRoom (listed k.order)
  pub there : HasRoom (listed j.order)

-- ── alike kernels are one kernel with two orders
pub one_kernel : {k j : State} → Alike k j → with_order k j.order ≡ j
one_kernel {k} {j} a = λ i. record { tasks = a.tasks i; objects = a.objects i; order = j.order; running = a.running i; tick = a.tick i; hold = a.hold i; pended = a.pended i; uses = a.uses i }

pub two_orders : (k : State) (o : Order) → ((p : ℕ) → line k.tasks p (listed k.order) ≡ line k.tasks p (listed o))
    → ((b : ObjSlot) → those k.tasks (waiters_of b) (listed k.order) ≡ those k.tasks (waiters_of b) (listed o))
    → begun k.tasks (listed k.order) ≡ begun k.tasks (listed o) → Alike k (with_order k o)
two_orders k o lines lists began =
    record { tasks = refl; objects = refl; running = refl; tick = refl; hold = refl; pended = refl; uses = refl; lines = lines; lists = lists; begun = began }

-- to show a thing of the other, show it of the one with the other's order
pub shared : (P : State → Type 0) (k j : State) → Twins k j → ((o : Order) → Twins k (with_order k o) → P (with_order k o)) → P j
shared P k j w f = subst P (one_kernel w.alike) (f j.order (subst (λ z. Twins k z) (sym (one_kernel w.alike)) w))

-- what is done to one is done to the other
pub twice : (f : State → State) {k j : State} → Twins k j → ((o : Order) → Twins k (with_order k o) → Twins (f k) (f (with_order k o))) → Twins (f k) (f j)
twice f {k} {j} w g = shared (λ z. Twins (f k) (f z)) k j w g

-- ── moves: what a move of the task t makes of a line is told by the line
abbrev pub Others : TaskSlot → List Task → List Task → Type 0
Others t ts us = (u : TaskSlot) → (u.0 ≡ t.0 → ⊥) → task_at us u ≡ task_at ts u

pub record Moving (t : TaskSlot) (move : List TaskSlot → List TaskSlot) : Type 0 where
  pub fits : (xs : List TaskSlot) → HasRoom xs → HasRoom (move xs)
  pub told : (q : Task → Bool) (ts us : List Task) → Others t ts us → (l m : List TaskSlot) → passing q ts l ≡ passing q ts m → passing q us (move l) ≡ passing q us (move m)

pub to_tail_lem : (t : TaskSlot) → t.0 < 16 → Moving t (λ l. without t l ++ (t ∷ []))
to_tail_lem t h =
    record {
      fits = λ xs f. fits_tail t xs f h;
      told = λ q ts us o l m e. passing_tail q ts us t o l ∙ rw e (sym (passing_tail q ts us t o m));
    }

pub to_head_lem : (t : TaskSlot) → t.0 < 16 → Moving t (λ l. t ∷ without t l)
to_head_lem t h =
    record {
      fits = λ xs f. fits_head t xs f h;
      told = λ q ts us o l m e. passing_head q ts us t o l ∙ rw e (sym (passing_head q ts us t o m));
    }

pub out : (t : TaskSlot) → Moving t (λ l. without t l)
out t =
    record {
      fits = λ xs f. fits_leaves t xs f;
      told = λ q ts us o l m e. passing_leaves q ts us t o l ∙ rw e (sym (passing_leaves q ts us t o m));
    }

-- the tables after a store
pub set_others : (ts : List Task) (t : TaskSlot) (x : Task) → Others t ts (set ts t.0 x)
unfolding task_at
set_others ts t x u n = get_or-set_other ts t.0 u.0 x free_task n

-- a test that the stored task answers like the one before
pub set_test : (q : Task → Bool) (ts : List Task) (t : TaskSlot) (x : Task) → q x ≡ q (task_at ts t) → (u : TaskSlot) → q (task_at (set ts t.0 x) u) ≡ q (task_at ts u)
unfolding task_at
set_test q ts t x e u = go (eqb u.0 t.0) refl (ltb t.0 (length ts)) refl
  where
    go : (b : Bool) → eqb u.0 t.0 ≡ b → (c : Bool) → ltb t.0 (length ts) ≡ c → q (task_at (set ts t.0 x) u) ≡ q (task_at ts u)
    go false f c g = ap q (set_others ts t x u (eqb-false u.0 t.0 f))
    go true f false g = rw (set_out ts t.0 x (ltb-false t.0 (length ts) g))
    go true f true g = rw (one_number u t (eqb-true u.0 t.0 f)) (ap q (get_or-set_same ts t.0 x free_task (ltb-true t.0 (length ts) g)) ∙ e)

-- ── one kernel, two orders
abbrev pub remade : State → List Task → Order → State
remade k us o = record { tasks = us; objects = k.objects; order = o; running = k.running; tick = k.tick; hold = k.hold; pended = k.pended; uses = k.uses }

abbrev pub with_counts : State → List Object → Order → ℕ → ℕ → ℕ → State
with_counts k os o tick hold pended = record { tasks = k.tasks; objects = os; order = o; running = k.running; tick = tick; hold = hold; pended = pended; uses = k.uses }

module _ (k : State) (o : Order) (w : Twins k (with_order k o)) where
  abbrev l : List TaskSlot
  l = listed k.order

  abbrev m : List TaskSlot
  m = listed o

  same_line : (p : ℕ) → passing (in_line p) k.tasks l ≡ passing (in_line p) k.tasks m
  unfolding line
  same_line p = w.alike.lines p

  same_list_lem : (b : ObjSlot) → passing (λ x. waits_on b x.place) k.tasks l ≡ passing (λ x. waits_on b x.place) k.tasks m
  unfolding those
  same_list_lem b = w.alike.lists b

  same_begun : passing (λ x. is_blocked x.place) k.tasks l ≡ passing (λ x. is_blocked x.place) k.tasks m
  unfolding begun
  same_begun = w.alike.begun

  -- a move of t, and a change of the tasks that concerns t alone
  pub moving : {t : TaskSlot} {move : List TaskSlot → List TaskSlot} → Moving t move → (us : List Task) → length us ≤ 16 → Others t k.tasks us
      → Twins (remade k us (ordered (move l))) (remade k us (ordered (move m)))
  unfolding line those begun
  moving {t} {move} v us h others =
      record {
        alike = two_orders (remade k us (ordered (move l))) (ordered (move m))
            (λ p. rw (at_l, at_m) (v.told (in_line p) k.tasks us others l m (same_line p)))
            (λ b. rw (at_l, at_m) (v.told (λ x. waits_on b x.place) k.tasks us others l m (same_list_lem b)))
            (rw (at_l, at_m) (v.told (λ x. is_blocked x.place) k.tasks us others l m same_begun));
        slots = h;
        runs = w.runs;
        here = rw at_l fits_l;
        there = rw at_m fits_m;
      }
    where
      fits_l : HasRoom (move l)
      fits_l = v.fits l w.here

      fits_m : HasRoom (move m)
      fits_m = v.fits m w.there

      at_l : listed (ordered (move l)) ≡ move l
      at_l = fits_listed (move l) fits_l

      at_m : listed (ordered (move m)) ≡ move m
      at_m = fits_listed (move m) fits_m

  -- the same, where the task t becomes x
  pub changed : {t : TaskSlot} {move : List TaskSlot → List TaskSlot} → Moving t move → (x : Task)
      → Twins (remade k (set k.tasks t.0 x) (ordered (move l))) (remade k (set k.tasks t.0 x) (ordered (move m)))
  changed {t} v x = moving v (set k.tasks t.0 x) (simp length-set w.slots) (set_others k.tasks t x)

  -- a change of the task t that no line and no list sees, and that is neither the beginning nor the end of a delay or wait
  pub unseen : (t : TaskSlot) (x : Task) → ((p : ℕ) → in_line p x ≡ in_line p (task_at k.tasks t)) → x.place ≡ (task_at k.tasks t).place
      → Twins (remade k (set k.tasks t.0 x) k.order) (remade k (set k.tasks t.0 x) o)
  unfolding line those begun
  unseen t x in-line place =
      record {
        alike = two_orders (remade k (set k.tasks t.0 x) k.order) o
            (λ p. still (in_line p) (in-line p) l ∙ same_line p ∙ sym (still (in_line p) (in-line p) m))
            (λ b. still (λ y. waits_on b y.place) (rw place) l ∙ same_list_lem b ∙ sym (still (λ y. waits_on b y.place) (rw place) m))
            (still (λ y. is_blocked y.place) (rw place) l ∙ same_begun ∙ sym (still (λ y. is_blocked y.place) (rw place) m));
        slots = simp length-set w.slots;
        runs = w.runs;
        here = w.here;
        there = w.there;
      }
    where
      still : (q : Task → Bool) → q x ≡ q (task_at k.tasks t) → (xs : List TaskSlot) → passing q (set k.tasks t.0 x) xs ≡ passing q k.tasks xs
      still q e xs = λ i. kept (λ u. set_test q k.tasks t x e u i) xs

  -- a change of the objects and counts
  pub beside : (os : List Object) (tick hold pended : ℕ) → Twins (with_counts k os k.order tick hold pended) (with_counts k os o tick hold pended)
  beside os tick hold pended =
      record {
        alike = two_orders (with_counts k os k.order tick hold pended) o w.alike.lines w.alike.lists w.alike.begun;
        slots = w.slots;
        runs = w.runs;
        here = w.here;
        there = w.there;
      }
