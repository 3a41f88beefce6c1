-- Of the tables the test is true exactly if every sentence holds.
use Prim.Native.Nat.{ℕ, ◌*◌, ◌≤◌}
use mathlib.Core.Path.{◌≡◌, refl, sym, ap, ◌∙◌, subst}
use mathlib.Core.Bool.{Bool, true, false, not, ◌&&◌, ◌||◌, false≢true}
use mathlib.Core.List.{List}
use native.Mathlib.Omega.{arith}
use lib.Dec.{eqb, ltb, leb}
use lib.ListN.{length}
use borrow.Author.Tests.{eqb-true, eqb-false, eq-eqb, ne_eqb, ltb-true, lt-ltb, leb-true, le-leb}
use Rattle.lists.proofs.Bools.{and_left, and_right, and_intro, or_left, or_right, or_second, off, not_off, at, also, none, below_all}
use Rattle.numbers.specs.Numbers.{task, object, idle, same_task}
use Rattle.slots.specs.Places.{is_free, is_ready, is_blocked}
use Rattle.slots.specs.Values.{task_at}
use Rattle.slots.specs.Kinds.{is_unused, hands, kind_at}
use Rattle.slots.specs.Wants.{all_bits, holds_of, accepted_mask}
use Rattle.slots.specs.SoundSlots.{idle_fine, awaits_turn, awaits_bits, may_wait, waits_fine, holder_there, ring_fine, kind_in_range, outcome_fine, fresh_if_free}
use Rattle.rules.specs.Types.{TaskSlot, ObjSlot, Want, OwnTurn, Bits, Place, Free, Ready, Delayed, Waiting, Suspended, Spent, Task, Ring, Holder, Nobody, By, Ordinary, Recursive, Kind, Unused, SpentObject, Queue, Mutex, Group, Object}
use Rattle.rules.specs.Tables.{holds}
use Rattle.rules.specs.Sound.{slot_task, sixteen, waiters_fine, holders_there, kinds_in_range, outcomes_fine, fresh_slots, tables_fine}
use Rattle.rules.specs.Sentences.{MayWait, receiver, sender, taker, awaiter, RingFits, KindFits, vacant, a_queue, a_group, an_ordinary, free_recursive, held_recursive, TaskFits, Tables}
use Rattle.rules.proofs.TableSlots.{any_task, any_kind, is_ready_lem}
use Rattle.rules.proofs.TableHolds.{none_holds, not_held}

-- ── the tests by their names
pub record TablesTested (ts : List Task) (os : List Object) : Type 0 where
  pub slots : sixteen ts os ≡ true
  pub as_idle : idle_fine (slot_task ts 0) ≡ true
  pub waits : waiters_fine ts os ≡ true
  pub idle_holds : not (holds os idle) ≡ true
  pub holders : holders_there ts os ≡ true
  pub ranges : kinds_in_range os ≡ true
  pub outcomes : outcomes_fine ts ≡ true
  pub fresh : fresh_slots ts ≡ true

pub tables_tested : (ts : List Task) (os : List Object) → tables_fine ts os ≡ true → TablesTested ts os
unfolding tables_fine
tables_tested ts os e =
    record {
      slots = at _ e 0;
      as_idle = at _ e 1;
      waits = at _ e 2;
      idle_holds = at _ e 3;
      holders = at _ e 4;
      ranges = at _ e 5;
      outcomes = at _ e 6;
      fresh = at _ e 7;
    }

pub tested_tables : (ts : List Task) (os : List Object) → TablesTested ts os → tables_fine ts os ≡ true
unfolding tables_fine
tested_tables ts os T =
    also _ _ T.slots (also _ _ T.as_idle (also _ _ T.waits (also _ _ T.idle_holds
    (also _ _ T.holders (also _ _ T.ranges (also _ _ T.outcomes (also _ _ T.fresh none)))))))

-- ── tests and propositions on one value
may_turn : (t : TaskSlot) (x : Kind) → awaits_turn t x ≡ true → MayWait t OwnTurn x
may_turn t Unused e = absurd (false≢true e)
may_turn t SpentObject e = absurd (false≢true e)
may_turn t (Queue q) e = go (eqb q.count 0) refl e
  where
    go : (b : Bool) → eqb q.count 0 ≡ b → b || eqb q.count q.capacity ≡ true → MayWait t OwnTurn (Queue q)
    go true f g = receiver (eqb-true q.count 0 f)
    go false f g = sender (eqb-true q.count q.capacity g)
may_turn t (Mutex s Nobody) e = absurd (false≢true e)
may_turn t (Mutex s (By u)) e = taker (eqb-false u.0 t.0 (off (same_task u t) e))
may_turn t (Group b) e = absurd (false≢true e)

may_await : (t : TaskSlot) (m : ℕ) (all clear : Bool) (x : Kind) → awaits_bits m all x ≡ true → MayWait t (Bits m all clear) x
may_await t m all clear Unused e = absurd (false≢true e)
may_await t m all clear SpentObject e = absurd (false≢true e)
may_await t m all clear (Queue q) e = absurd (false≢true e)
may_await t m all clear (Mutex s h) e = absurd (false≢true e)
may_await t m all clear (Group b) e =
    let mask = and_left (accepted_mask m) _ e in
    awaiter (leb-true 1 m (and_left (leb 1 m) _ mask)) (leb-true m all_bits (and_right (leb 1 m) _ mask)) (off (holds_of b m all) (and_right (accepted_mask m) _ e))

may_wait_lem : (t : TaskSlot) (y : Want) (x : Kind) → may_wait t y x ≡ true → MayWait t y x
may_wait_lem t OwnTurn x e = may_turn t x e
may_wait_lem t (Bits m all clear) x e = may_await t m all clear x e

waits_may : {t : TaskSlot} {y : Want} {x : Kind} → MayWait t y x → may_wait t y x ≡ true
waits_may (awaiter {b = b} {m = m} {all = all} l h e) =
    and_intro (accepted_mask m) _ (and_intro (leb 1 m) _ (le-leb 1 m l) (le-leb m all_bits h)) (not_off (holds_of b m all) e)
waits_may (receiver {q = q} e) = or_left (eqb q.count 0) (eqb q.count q.capacity) (eq-eqb q.count 0 e)
waits_may (sender {q = q} e) = or_right (eqb q.count 0) (eqb q.count q.capacity) (eq-eqb q.count q.capacity e)
waits_may {t} (taker {u = u} n) = not_off (same_task u t) (ne_eqb u.0 t.0 n)

ring_fits : (q : Ring) → ring_fine q ≡ true → RingFits q
ring_fits q e =
    let few = and_left (leb 1 q.capacity && leb q.capacity 64) _ e in
    let more = and_right (leb 1 q.capacity && leb q.capacity 64) _ e in
    let small = and_left (leb q.size 64 && leb (q.capacity * q.size) 512) _ more in
    let places = and_right (leb q.size 64 && leb (q.capacity * q.size) 512) _ more in
    record {
      some = leb-true 1 q.capacity (and_left (leb 1 q.capacity) _ few);
      few = leb-true q.capacity 64 (and_right (leb 1 q.capacity) _ few);
      small = leb-true q.size 64 (and_left (leb q.size 64) _ small);
      whole = leb-true (q.capacity * q.size) 512 (and_right (leb q.size 64) _ small);
      starts = ltb-true q.first q.capacity (and_left (ltb q.first q.capacity) _ places);
      counts = leb-true q.count q.capacity (and_right (ltb q.first q.capacity) _ places);
    }

fits_ring : (q : Ring) → RingFits q → ring_fine q ≡ true
fits_ring q r =
    and_intro _ _ (and_intro _ _ (le-leb 1 q.capacity r.some) (le-leb q.capacity 64 r.few))
    (and_intro _ _ (and_intro _ _ (le-leb q.size 64 r.small) (le-leb (q.capacity * q.size) 512 r.whole))
    (and_intro _ _ (lt-ltb q.first q.capacity r.starts) (le-leb q.count q.capacity r.counts)))

kind_fits : (x : Kind) → kind_in_range x ≡ true → KindFits x
kind_fits Unused e = vacant refl
kind_fits SpentObject e = vacant refl
kind_fits (Queue q) e = a_queue (ring_fits q e)
kind_fits (Group b) e = a_group (leb-true b all_bits e)
kind_fits (Mutex Ordinary h) e = an_ordinary
kind_fits (Mutex (Recursive n) Nobody) e = free_recursive (eqb-true n 0 e)
kind_fits (Mutex (Recursive n) (By t)) e = held_recursive (leb-true 1 n (and_left (leb 1 n) _ e)) (leb-true n 255 (and_right (leb 1 n) _ e))

fits_kind : {x : Kind} → KindFits x → kind_in_range x ≡ true
fits_kind {x} (vacant e) = go x e
  where
    go : (y : Kind) → is_unused y ≡ true → kind_in_range y ≡ true
    go Unused f = refl
    go SpentObject f = refl
    go (Queue q) f = absurd (false≢true f)
    go (Mutex s h) f = absurd (false≢true f)
    go (Group b) f = absurd (false≢true f)
fits_kind (a_queue {q = q} r) = fits_ring q r
fits_kind (a_group {b = b} h) = le-leb b all_bits h
fits_kind an_ordinary = refl
fits_kind (free_recursive {n = n} e) = eq-eqb n 0 e
fits_kind (held_recursive {n = n} a b) = and_intro _ _ (le-leb 1 n a) (le-leb n 255 b)

-- a group's bits
pub bits_of : (x : Kind) {b : ℕ} → KindFits x → x ≡ Group b → b ≤ all_bits
bits_of x {b} F f = leb-true b all_bits (rw f at (fits_kind F))

-- a queue's ring
pub ring_of : (x : Kind) {q : Ring} → KindFits x → x ≡ Queue q → RingFits q
ring_of x (vacant e) f = absurd (false≢true (sym (ap is_unused f) ∙ e))
ring_of (Queue p) {q} (a_queue r) f = let z : p ≡ q = cc in subst RingFits z r
ring_of x (a_group h) f = absurd (let z : ◌≡◌ {A = ℕ} 0 1 = cc in omega arith)
ring_of x an_ordinary f = absurd (let z : ◌≡◌ {A = ℕ} 0 1 = cc in omega arith)
ring_of x (free_recursive e) f = absurd (let z : ◌≡◌ {A = ℕ} 0 1 = cc in omega arith)
ring_of x (held_recursive a b) f = absurd (let z : ◌≡◌ {A = ℕ} 0 1 = cc in omega arith)

blocked_outcome : (x : Task) → outcome_fine x ≡ true → is_blocked x.place ≡ true → x.outcome ≡ 0
blocked_outcome x e b =
    eqb-true _ _ (or_second (not (is_blocked x.place)) (eqb x.outcome 0) (and_right (leb x.outcome 3) _ e) (rw b))

fresh_is : (x : Task) → fresh_if_free x ≡ true → (p : Place) → is_free p ≡ true → x.place ≡ p → x ≡ record { place = p; own = 0; effective = 0; outcome = 0 }
fresh_is x e p f q =
    let z = or_second (not (is_free x.place)) _ e (rw (q, f)) in
    let y = and_right (eqb x.own 0) _ z in
    let own = eqb-true x.own 0 (and_left (eqb x.own 0) _ z) in
    let eff = eqb-true x.effective 0 (and_left (eqb x.effective 0) _ y) in
    let out = eqb-true x.outcome 0 (and_right (eqb x.effective 0) _ y) in
    λ i. record { place = q i; own = own i; effective = eff i; outcome = out i }

task_says : (os : List Object) (t : TaskSlot) (x : Task) → waits_fine t os x.place ≡ true → outcome_fine x ≡ true → fresh_if_free x ≡ true → TaskFits os t x
task_says os t x w o f =
    record {
      waits = λ y v q. may_wait_lem t y.want (kind_at os y.object) (rw q at w);
      outcome_range = leb-true _ _ (and_left (leb x.outcome 3) _ o);
      delay_outcome = λ v q. blocked_outcome x o (rw q);
      wait_outcome = λ b v q. blocked_outcome x o (rw q);
      free = fresh_is x f Free refl;
      spent = fresh_is x f Spent refl;
    }

-- ── a test that is true says every sentence
pub tables_say : (ts : List Task) (os : List Object) → tables_fine ts os ≡ true → Tables ts os
tables_say ts os e =
    record {
      task_slots = many;
      object_slots = kinds;
      as_idle = record {
        ready = is_ready_lem (task_at ts idle).place (and_left (is_ready (task_at ts idle).place) _ T.as_idle);
        own = eqb-true _ _ (and_left (eqb (task_at ts idle).own 0) _ zeros);
        effective = eqb-true _ _ (and_right (eqb (task_at ts idle).own 0) _ zeros);
      };
      tasks = λ t. task_says os t (task_at ts t)
          (any_task ts (λ u x. waits_fine u os x.place) many T.waits (λ u h. refl) t)
          (any_task ts (λ u x. outcome_fine x) many T.outcomes (λ u h. refl) t)
          (any_task ts (λ u x. fresh_if_free x) many T.fresh (λ u h. refl) t);
      idle_holds = not_held os idle (off (holds os idle) T.idle_holds);
      holders = λ t o h. off _ (rw h at (any_kind os (λ x. holder_there ts (hands x)) kinds T.holders refl o));
      ranges = λ o. kind_fits (kind_at os o) (any_kind os kind_in_range kinds T.ranges refl o);
    }
  where
    T : TablesTested ts os
    T = tables_tested ts os e

    many : length ts ≡ 16
    many = eqb-true _ _ (and_left (eqb (length ts) 16) _ T.slots)

    kinds : length os ≡ 16
    kinds = eqb-true _ _ (and_right (eqb (length ts) 16) _ T.slots)

    zeros : (eqb (task_at ts idle).own 0 && eqb (task_at ts idle).effective 0) ≡ true
    zeros = and_right (is_ready (task_at ts idle).place) _ T.as_idle

-- ── every sentence makes the test true
module _ (os : List Object) (t : TaskSlot) (x : Task) (F : TaskFits os t x) where
  waits_fine_lem : (p : Place) → x.place ≡ p → waits_fine t os p ≡ true
  waits_fine_lem Free e = refl
  waits_fine_lem Ready e = refl
  waits_fine_lem (Delayed w) e = refl
  waits_fine_lem (Waiting o w) e = waits_may (F.waits o w e)
  waits_fine_lem Suspended e = refl
  waits_fine_lem Spent e = refl

  outcome_or : (p : Place) → x.place ≡ p → not (is_blocked p) || eqb x.outcome 0 ≡ true
  outcome_or Free e = refl
  outcome_or Ready e = refl
  outcome_or (Delayed w) e = eq-eqb _ _ (F.delay_outcome w e)
  outcome_or (Waiting o w) e = eq-eqb _ _ (F.wait_outcome o w e)
  outcome_or Suspended e = refl
  outcome_or Spent e = refl

  fresh_fine : (p : Place) → x.place ≡ p → not (is_free p) || (eqb x.own 0 && (eqb x.effective 0 && eqb x.outcome 0)) ≡ true
  fresh_fine Free e = rw (F.free e)
  fresh_fine Ready e = refl
  fresh_fine (Delayed w) e = refl
  fresh_fine (Waiting o w) e = refl
  fresh_fine Suspended e = refl
  fresh_fine Spent e = rw (F.spent e)

module _ (ts : List Task) (os : List Object) (S : Tables ts os) where
  holder_fine : (o : ObjSlot) (h : Holder) → hands (kind_at os o) ≡ h → holder_there ts h ≡ true
  holder_fine o Nobody e = refl
  holder_fine o (By t) e = not_off (is_free (task_at ts t).place) (S.holders t o e)

  abbrev each : (n : ℕ) → TaskFits os (task n) (task_at ts (task n))
  each n = S.tasks (task n)

  pub says_tables : tables_fine ts os ≡ true
  says_tables =
      tested_tables ts os record {
        slots = and_intro _ _ (eq-eqb _ _ S.task_slots) (eq-eqb _ _ S.object_slots);
        as_idle = rw (S.as_idle.ready, S.as_idle.own, S.as_idle.effective);
        waits = below_all 16 _ (λ n h. waits_fine_lem os (task n) _ (each n) _ refl);
        idle_holds = not_off _ (none_holds os idle S.idle_holds);
        holders = below_all 16 _ (λ n h. holder_fine (object n) _ refl);
        ranges = below_all 16 _ (λ n h. fits_kind (S.ranges (object n)));
        outcomes = below_all 16 _ (λ n h. and_intro _ _ (le-leb _ _ (each n).outcome_range) (outcome_or os (task n) _ (each n) _ refl));
        fresh = below_all 16 _ (λ n h. fresh_fine os (task n) _ (each n) _ refl);
      }
