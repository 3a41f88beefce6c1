-- The order of those who began a delay or a wait, and what each building block makes of it.
use Prim.Native.Nat.{ℕ, zero, suc, ◌<◌}
use mathlib.Core.Path.{◌≡◌, refl, sym, ap, ◌∙◌}
use mathlib.Core.Bool.{Bool, true, false, ◌&&◌, false≢true}
use mathlib.Core.List.{List, [], ◌∷◌, ◌++◌, append-nil}
use native.Mathlib.Omega.{arith}
use lib.Dec.{eqb}
use lib.ListN.{length, set, length-set, get_or}
use borrow.Author.Tests.{eqb-true, eqb-false}
use Rattle.std.proofs.Common.{if◌then◌else◌}
use Rattle.lists.specs.Lists.{kept, up_to}
use Rattle.lists.proofs.Bools.{untrue}
use Rattle.lists.proofs.Tests.{kept-kept, kept_within, kept_all}
use Rattle.numbers.specs.Numbers.{same_task, task}
use Rattle.order.specs.Order.{listed, ordered, without}
use Rattle.order.proofs.Passing.{kept_not, one_number}
use Rattle.order.proofs.Fits.{HasRoom, fits_listed, fits_tail, fits_head, fits_leaves}
use Rattle.slots.specs.Places.{is_ready, is_blocked}
use Rattle.slots.specs.Values.{placed, task_at, levelled}
use Rattle.rules.specs.Types.{TaskSlot, Place, Task, State}
use Rattle.rules.specs.Tables.{with_task}
use Rattle.rules.specs.Lines.{has_begun, begun, level, to_tail, to_head}
use Rattle.rules.specs.Waits.{arrives}
use Rattle.rules.specs.Loans.{moved, moved_if, prioritized, worked_out, relevelled, ruled}
use Rattle.rules.proofs.TableSlots.{is_ready_lem}
use Rattle.rules.proofs.LineMoves.{passing_tail, other_tail, other_head, other_leaves}
use Rattle.rules.proofs.KeepSlot.{at_same, at_other}
use Rattle.rules.proofs.KeepTaken.{each_task}
use Rattle.rules.proofs.Keeps.{ready_low}

-- the tasks have their slots, and the list fits into an order
pub record Roomy (ts : List Task) (l : List TaskSlot) : Type 0 where
  pub many : length ts ≡ 16
  pub room : HasRoom l

-- nobody begins: those who are not done stand as they stood
pub record Fades (ts : List Task) (l : List TaskSlot) (us : List Task) (m : List TaskSlot) : Type 0 where
  pub roomy : Roomy us m
  pub fewer : (t : TaskSlot) → has_begun us t ≡ true → has_begun ts t ≡ true
  pub stand : begun us m ≡ kept (has_begun us) (begun ts l)

-- r alone may begin, and then stands last
pub record Remembers (r : TaskSlot) (ts : List Task) (l : List TaskSlot) (us : List Task) (m : List TaskSlot) : Type 0 where
  pub roomy : Roomy us m
  pub began : (t : TaskSlot) → has_begun us t ≡ true → has_begun ts t ≡ false → t ≡ r
  pub stand : begun us m ≡ kept (has_begun us) (begun ts l) ++ (if has_begun us r then r ∷ [] else [])

-- from a kernel to the next
abbrev pub RoomyIn : State → Type 0
RoomyIn k = Roomy k.tasks (listed k.order)

abbrev pub Fade : State → State → Type 0
Fade k j = Fades k.tasks (listed k.order) j.tasks (listed j.order)

abbrev pub Remember : State → State → Type 0
Remember k j = Remembers k.running k.tasks (listed k.order) j.tasks (listed j.order)

module _ {ts us : List Task} {l m : List TaskSlot} where
  pub onward : {vs : List Task} {n : List TaskSlot} → Fades ts l us m → Fades us m vs n → Fades ts l vs n
  onward {vs} a b =
      record {
        roomy = b.roomy;
        fewer = λ t e. a.fewer t (b.fewer t e);
        stand = b.stand ∙ ap (kept (has_begun vs)) a.stand ∙ kept_within (has_begun us) (has_begun vs) b.fewer (begun ts l);
      }

  -- nobody begins, so the caller does not
  pub none_begins : {r : TaskSlot} → has_begun ts r ≡ false → Fades ts l us m → Remembers r ts l us m
  none_begins {r} e f =
      record {
        roomy = f.roomy;
        began = λ t h n. absurd (false≢true (sym n ∙ f.fewer t h));
        stand = f.stand ∙ rw (untrue (has_begun us r) (λ h. false≢true (sym e ∙ f.fewer r h)), append-nil);
      }

  -- some are done, and then the caller may begin
  pub then_begins : {r : TaskSlot} {vs : List Task} {n : List TaskSlot} → has_begun ts r ≡ false → Fades ts l us m → Remembers r us m vs n → Remembers r ts l vs n
  unfolding begun
  then_begins {r} {vs} e f b =
      record {
        roomy = b.roomy;
        began = λ t h n. b.began t h (untrue (has_begun us t) (λ q. false≢true (sym n ∙ f.fewer t q)));
        stand = b.stand ∙ ap (λ (xs : List TaskSlot). xs ++ (if has_begun vs r then r ∷ [] else [])) (ap (kept (has_begun vs)) f.stand ∙ same);
      }
    where
      -- who is not done now was not done before, or is the caller, who did not stand here
      both : (t : TaskSlot) → ((has_begun ts t && has_begun us t) && has_begun vs t) ≡ (has_begun ts t && has_begun vs t)
      both t = go (has_begun ts t) refl (has_begun us t) refl (has_begun vs t) refl
        where
          go : (a : Bool) → has_begun ts t ≡ a → (c : Bool) → has_begun us t ≡ c → (d : Bool) → has_begun vs t ≡ d → ((a && c) && d) ≡ (a && d)
          go false p c q d s = refl
          go true p true q d s = refl
          go true p false q false s = refl
          go true p false q true s = absurd (false≢true (sym (ap (has_begun ts) (b.began t s q) ∙ e) ∙ p))

      same : kept (has_begun vs) (kept (has_begun us) (kept (has_begun ts) l)) ≡ kept (has_begun vs) (kept (has_begun ts) l)
      same =
          ap (kept (has_begun vs)) (kept-kept (has_begun ts) (has_begun us) l)
          ∙ kept-kept (λ t. has_begun ts t && has_begun us t) (has_begun vs) l
          ∙ (λ i. kept (λ t. both t i) l)
          ∙ sym (kept-kept (has_begun ts) (has_begun vs) l)

-- the caller may begin, and then nobody begins or ends
pub then_fades : {r : TaskSlot} {ts us vs : List Task} {l m n : List TaskSlot} → Remembers r ts l us m → Fades us m vs n → ((t : TaskSlot) → has_begun us t ≡ has_begun vs t) → Remembers r ts l vs n
unfolding begun
then_fades {r} {ts} {us} {vs} {l} {m} a f e =
    record {
      roomy = f.roomy;
      began = λ t h c. a.began t (f.fewer t h) c;
      stand = f.stand ∙ kept_all (has_begun us) (has_begun vs) (λ t h. sym (e t) ∙ h) m ∙ a.stand ∙ (λ i. kept (λ t. e t i) (begun ts l) ++ (if e r i then r ∷ [] else []));
    }

-- ── the order unmoved: some may be done
pub still : {ts us : List Task} {l : List TaskSlot} → Roomy us l → ((t : TaskSlot) → has_begun us t ≡ true → has_begun ts t ≡ true) → Fades ts l us l
unfolding begun
still {ts} {us} {l} R f = record { roomy = R; fewer = f; stand = sym (kept_within (has_begun ts) (has_begun us) f l) }

pub stays : {ts : List Task} {l : List TaskSlot} → Roomy ts l → Fades ts l ts l
stays R = still R (λ t e. e)

-- ── a task moved that did not begin
module _ {ts : List Task} {l : List TaskSlot} (R : Roomy ts l) (t : TaskSlot) (e : has_begun ts t ≡ false) where
  -- to where it stands then
  unseen : (m : List TaskSlot) → HasRoom m → begun ts m ≡ begun ts l → Fades ts l ts (listed (ordered m))
  unfolding begun
  unseen m fits same =
      record {
        roomy = record { many = R.many; room = rw (fits_listed m fits) fits };
        fewer = λ u h. h;
        stand = rw (fits_listed m fits) (same ∙ sym (kept_within (has_begun ts) (has_begun ts) (λ u h. h) l));
      }

  pub tail_fades : t.0 < 16 → Fades ts l ts (listed (ordered (without t l ++ (t ∷ []))))
  unfolding begun
  tail_fades h = unseen (without t l ++ (t ∷ [])) (fits_tail t l R.room h) (other_tail (λ x. is_blocked x.place) ts ts t (λ u n. refl) e e l)

  pub head_fades : t.0 < 16 → Fades ts l ts (listed (ordered (t ∷ without t l)))
  unfolding begun
  head_fades h = unseen (t ∷ without t l) (fits_head t l R.room h) (other_head (λ x. is_blocked x.place) ts ts t (λ u n. refl) e e l)

  pub leave_fades : Fades ts l ts (listed (ordered (without t l)))
  unfolding begun
  leave_fades = unseen (without t l) (fits_leaves t l R.room) (other_leaves (λ x. is_blocked x.place) ts ts t (λ u n. refl) e e l)

-- ── one task changed, which does not begin
module _ (k : State) (R : RoomyIn k) (t : TaskSlot) (x : Task) where
  pub set_roomy : RoomyIn (with_task k t x)
  set_roomy = record { many = rw length-set R.many; room = R.room }

  pub set_fades : (is_blocked x.place ≡ true → has_begun k.tasks t ≡ true) → Fade k (with_task k t x)
  set_fades f = still set_roomy (each_task k.tasks t x (λ u y. is_blocked y.place ≡ true → has_begun k.tasks u ≡ true) f (λ u h. h))

  pub set_at : t.0 < 16 → task_at (set k.tasks t.0 x) t ≡ x
  set_at h = at_same k.tasks t x (omega (arith, R.many))

-- made ready, or whatever else is no delay and no wait
pub arrives_fades : (k : State) → RoomyIn k → (t : TaskSlot) (p : Place) (n : ℕ) → is_blocked p ≡ false → t.0 < 16 → Fade k (arrives k t p n)
unfolding arrives to_tail
arrives_fades k R t p n e h =
    let x = placed (task_at k.tasks t) p n in
    onward (set_fades k R t x (λ b. absurd (false≢true (sym e ∙ b)))) (tail_fades (set_roomy k R t x) t (ap (λ (y : Task). is_blocked y.place) (set_at k R t x h) ∙ e) h)

-- another effective priority, and the move to the new line
prioritized_fades : (k : State) → RoomyIn k → (t : TaskSlot) (eff : ℕ) → Fade k (prioritized k t eff)
unfolding prioritized moved_if moved to_tail to_head
prioritized_fades k R t eff = go (is_ready (task_at k.tasks t).place) refl (eqb (level k.tasks t) eff) (same_task t k.running)
  where
    x : Task
    x = levelled (task_at k.tasks t) eff

    changed : Fade k (with_task k t x)
    changed = set_fades k R t x (λ b. b)

    low : is_ready (task_at k.tasks t).place ≡ true → t.0 < 16
    low e = ready_low k.tasks t R.many (is_ready_lem (task_at k.tasks t).place e)

    not_begun : is_ready (task_at k.tasks t).place ≡ true → has_begun (set k.tasks t.0 x) t ≡ false
    not_begun e = ap (λ (y : Task). is_blocked y.place) (set_at k R t x (low e)) ∙ ap is_blocked (is_ready_lem (task_at k.tasks t).place e)

    go : (a : Bool) → is_ready (task_at k.tasks t).place ≡ a → (b c : Bool)
        → Fade k (if a then (if b then with_task k t x else (if c then to_head (with_task k t x) t else to_tail (with_task k t x) t)) else with_task k t x)
    go true e true c = changed
    go true e false true = onward changed (head_fades (set_roomy k R t x) t (not_begun e) (low e))
    go true e false false = onward changed (tail_fades (set_roomy k R t x) t (not_begun e) (low e))
    go false e b c = changed

pub slots_fade : (ls : List ℕ) (k : State) → RoomyIn k → (n : ℕ) → Fade k (up_to (λ j m. prioritized j (task m) (get_or ls m 0)) n k)
unfolding up_to
slots_fade ls k R zero = stays R
slots_fade ls k R (suc n) = let f = slots_fade ls k R n in onward f (prioritized_fades _ f.roomy (task n) (get_or ls n 0))

pub worked_fades : (k : State) → RoomyIn k → Fade k (worked_out k)
unfolding worked_out relevelled
worked_fades k R = slots_fade (ruled k.tasks k.objects) k R 16

-- ── a delay or a wait begins
pub arrives_begins : (k : State) → RoomyIn k → (t : TaskSlot) (p : Place) (n : ℕ) → is_blocked p ≡ true → has_begun k.tasks t ≡ false → t.0 < 16
    → Remembers t k.tasks (listed k.order) (arrives k t p n).tasks (listed (arrives k t p n).order)
unfolding arrives to_tail begun
arrives_begins k R t p n e f h =
    record {
      roomy = record { many = (set_roomy k R t x).many; room = rw (fits_listed m fits) fits };
      began = λ u b c. only u b c (eqb u.0 t.0) refl;
      stand = rw (fits_listed m fits) (passing_tail (λ y. is_blocked y.place) k.tasks us t others l ∙ ap (λ (xs : List TaskSlot). xs ++ (if has_begun us t then t ∷ [] else [])) as_before);
    }
  where
    x : Task
    x = placed (task_at k.tasks t) p n

    us : List Task
    us = set k.tasks t.0 x

    l : List TaskSlot
    l = listed k.order

    m : List TaskSlot
    m = without t l ++ (t ∷ [])

    fits : HasRoom m
    fits = fits_tail t l R.room h

    others : (u : TaskSlot) → (u.0 ≡ t.0 → ⊥) → task_at us u ≡ task_at k.tasks u
    others = at_other k.tasks t x

    only : (u : TaskSlot) → has_begun us u ≡ true → has_begun k.tasks u ≡ false → (b : Bool) → eqb u.0 t.0 ≡ b → u ≡ t
    only u b c true q = one_number u t (eqb-true u.0 t.0 q)
    only u b c false q = absurd (false≢true (sym c ∙ sym (ap (λ (y : Task). is_blocked y.place) (others u (eqb-false u.0 t.0 q))) ∙ b))

    -- who had begun has not ended
    more : (u : TaskSlot) → has_begun k.tasks u ≡ true → has_begun us u ≡ true
    more u b = go (eqb u.0 t.0) refl
      where
        go : (c : Bool) → eqb u.0 t.0 ≡ c → has_begun us u ≡ true
        go true q = absurd (false≢true (sym f ∙ sym (ap (has_begun k.tasks) (one_number u t (eqb-true u.0 t.0 q))) ∙ b))
        go false q = ap (λ (y : Task). is_blocked y.place) (others u (eqb-false u.0 t.0 q)) ∙ b

    as_before : without t (kept (has_begun k.tasks) l) ≡ kept (has_begun us) (kept (has_begun k.tasks) l)
    as_before = kept_not t (has_begun k.tasks) f l ∙ sym (kept_all (has_begun k.tasks) (has_begun us) more l)
