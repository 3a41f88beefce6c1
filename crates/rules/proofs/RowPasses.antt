-- What the numbers of an accepted call are: no row of the table applies.
use Prim.Native.Nat.{ℕ, ◌<◌, ◌≤◌}
use mathlib.Core.Path.{◌≡◌, refl, sym}
use mathlib.Core.Bool.{Bool, true, false, not, ◌&&◌, false≢true}
use mathlib.Core.List.{List, [], ◌∷◌, ◌++◌, map}
use native.Mathlib.Omega.{arith}
use lib.Dec.{eqb, ltb, leb}
use lib.ListN.{take, drop}
use borrow.Author.Tests.{eqb-true, eqb-false, ltb-false, lt-ltb, not-false}
use Rattle.std.proofs.Common.{if◌then◌else◌}
use Rattle.lists.specs.Lists.{every}
use Rattle.lists.proofs.Bools.{and_left, and_right, or_off, off, at}
use Rattle.rules.specs.Types.{TaskSlot, Ring, Holder, Sort, Ordinary, Recursive, Kind, Queue, Mutex, Asked, State}
use Rattle.slots.specs.Kinds.{count_of, is_by, kind_at}
use Rattle.rows.specs.Applies.{not_so_many, out_of_range, names_none, size_differs, wrong_size, not_for_idle, not_with_hold, none_free}
use Rattle.rules.specs.Circles.{closes_circle}
use Rattle.rules.specs.Refusals.{seen, in_use}
use Rattle.rows.specs.Applies.{not_his, his_already, takes_full, count_full, not_suspended, must_wait, no_depth, no_tick, Row, first_row, table}
use Rattle.rules.specs.Refusals.{later_row}

pub record Passed (k : State) (a : Asked) (store : ℕ) : Type 0 where
  pub whole : store ≡ 9216
  pub in_range : out_of_range a ≡ false
  pub named : names_none (seen k a) a ≡ false
  pub idle : not_for_idle (seen k a) a ≡ false
  pub held : not_with_hold (seen k a) a ≡ false
  pub slot : none_free (seen k a) ≡ false
  pub unused : in_use k a ≡ false
  pub his : not_his (seen k a) a ≡ false
  pub not_twice : his_already (seen k a) a ≡ false
  pub not_full : count_full (seen k a) a ≡ false
  pub suspended : not_suspended (seen k a) a ≡ false
  pub no_circle : closes_circle k a ≡ false
  pub may_wait : must_wait (seen k a) a ≡ false
  pub deep : no_depth (seen k a) a ≡ false
  pub ticks : no_tick (seen k a) a ≡ false

pub below_255 : (n : ℕ) → n ≤ 255 → eqb n 255 ≡ false → n < 255
below_255 n h e = let d = eqb-false n 255 e in omega (arith, d)

pub above_0 : (n : ℕ) → eqb n 0 ≡ false → 0 < n
above_0 n e = let d = eqb-false n 0 e in omega (arith, d)

-- what is in range
pub record InRange (a : Asked) : Type 0 where
  pub low : a.priority ≤ 31
  pub some_ticks : not_so_many a ≡ false
  pub few : a.capacity ≤ 64
  pub small : a.size ≤ 64

pub in_range_of : (a : Asked) → out_of_range a ≡ false → InRange a
unfolding out_of_range
in_range_of a e =
    let s = or_off (leb 4294967295 a.ticks) _ (or_off (ltb 31 a.priority) _ e).1 in
    let m = or_off (not_so_many a) _ s.1 in
    let u = or_off (ltb 64 a.capacity) _ (or_off (ltb a.capacity 1) _ m.1).1 in
    let v = or_off (ltb 64 a.size) _ u.1 in
    record {
      low = ltb-false 31 a.priority (or_off (ltb 31 a.priority) _ e).0;
      some_ticks = m.0;
      few = ltb-false 64 a.capacity u.0;
      small = ltb-false 64 a.size v.0;
    }

-- the rows rs, none of which has the number that is given, do not apply; and that number is given by the others
pub differ : List Row → ℕ → Bool
differ rs n = every (map (λ (x : Row). not (eqb x.number n)) rs)

pub rows_off : List Row → Bool
rows_off rs = every (map (λ (x : Row). not x.applies) rs)

pub rows_off_lem : (rs ss : List Row) (n : ℕ) → differ rs n ≡ true → first_row (rs ++ ss) ≡ n → (rows_off rs ≡ true) × (first_row ss ≡ n)
unfolding differ rows_off every
rows_off_lem [] ss n d e = (refl, e)
rows_off_lem (r ∷ rs) ss n d e = go r.applies e (rows_off_lem rs ss n (and_right (not (eqb r.number n)) _ d))
  where
    go : (b : Bool) → (if b then r.number else first_row (rs ++ ss)) ≡ n → (first_row (rs ++ ss) ≡ n → (rows_off rs ≡ true) × (first_row ss ≡ n)) → ((not b && rows_off rs) ≡ true) × (first_row ss ≡ n)
    go true f ih = absurd (eqb-false r.number n (off (eqb r.number n) (and_left (not (eqb r.number n)) _ d)) f)
    go false f ih = ih f

-- no row applies
none_apply : (k : State) (a : Asked) (item store : ℕ) → later_row k a item store ≡ 0 → rows_off (table (seen k a) a item store) ≡ true
unfolding later_row table differ every
none_apply k a item store e = (rows_off_lem (table (seen k a) a item store) [] 0 refl e).0

pub passed : (k : State) (a : Asked) (item store : ℕ) → later_row k a item store ≡ 0 → Passed k a store
unfolding table rows_off
passed k a item store e =
    let none = none_apply k a item store e in
    record {
      whole = eqb-true store 9216 (not-false (eqb store 9216) (off _ (at _ none 0)));
      in_range = off _ (at _ none 1);
      named = off _ (at _ none 2);
      idle = off _ (at _ none 4);
      held = off _ (at _ none 5);
      slot = off _ (at _ none 6);
      unused = off _ (at _ none 7);
      his = off _ (at _ none 8);
      not_twice = off _ (at _ none 9);
      not_full = off _ (at _ none 10);
      suspended = off _ (at _ none 11);
      no_circle = off _ (at _ none 12);
      may_wait = off _ (at _ none 13);
      deep = off _ (at _ none 14);
      ticks = off _ (at _ none 15);
    }

-- row 6 has the item's length
pub right_size : (k : State) (a : Asked) (item store : ℕ) → later_row k a item store ≡ 0 → wrong_size (seen k a) a item ≡ false
unfolding table rows_off
right_size k a item store e = off _ (at _ (none_apply k a item store e) 3)

-- row 17 is given: it applies, and two of the rows before it, which do not
pub record CircleGiven (k : State) (a : Asked) : Type 0 where
  pub idle : not_for_idle (seen k a) a ≡ false
  pub not_twice : his_already (seen k a) a ≡ false
  pub circle : closes_circle k a ≡ true

none_before : (k : State) (a : Asked) (item store : ℕ) → later_row k a item store ≡ 17
    → (rows_off (take 12 (table (seen k a) a item store)) ≡ true) × (first_row (drop 12 (table (seen k a) a item store)) ≡ 17)
unfolding later_row table differ every
none_before k a item store e = let rows = table (seen k a) a item store in rows_off_lem (take 12 rows) (drop 12 rows) 17 refl e

pub circle_given : (k : State) (a : Asked) (item store : ℕ) → later_row k a item store ≡ 17 → CircleGiven k a
unfolding table rows_off
circle_given k a item store e =
    let E = none_before k a item store e in
    record { idle = off _ (at _ E.0 4); not_twice = off _ (at _ E.0 9); circle = go (closes_circle k a) (must_wait (seen k a) a) (no_depth (seen k a) a) (no_tick (seen k a) a) E.1 }
  where
    go : (b c d e : Bool) → ◌≡◌ {A = ℕ} (if b then 17 else if c then 14 else if d then 15 else if e then 16 else 0) 17 → b ≡ true
    go true c d e z = refl
    go false true d e z = absurd (omega arith)
    go false false true e z = absurd (omega arith)
    go false false false true z = absurd (omega arith)
    go false false false false z = absurd (omega arith)

pub send_sized : (k : State) (a : Asked) (item store : ℕ) → a.number ≡ 13 → later_row k a item store ≡ 0 → size_differs item (kind_at k.objects a.object) ≡ false
unfolding wrong_size
send_sized k a item store e h = rw e at (right_size k a item store h)

pub sized : {x : Kind} {q : Ring} (n : ℕ) → x ≡ Queue q → size_differs n x ≡ false → n ≡ q.size
sized {q = q} n e h = eqb-true n q.size (not-false (eqb n q.size) (rw e at h))

-- row 18, at a take: the count may go up by one
pub take_fits : (k : State) (a : Asked) → a.number ≡ 15 → count_full (seen k a) a ≡ false → takes_full k.running (kind_at k.objects a.object) ≡ false
unfolding count_full
take_fits k a e h = rw e at h

pub count_fits : (t : TaskSlot) (s : Sort) (h : Holder) → is_by t h ≡ true → takes_full t (Mutex s h) ≡ false → count_of s ≤ 255 → count_of s < 255
count_fits t Ordinary h e f l = omega arith
count_fits t (Recursive n) h e f l = below_255 n l (rw e at f)

-- rows 15 and 16, at their calls
pub hold_fits : (k : State) (a : Asked) → a.number ≡ 8 → no_depth (seen k a) a ≡ false → eqb k.hold 255 ≡ false
unfolding no_depth
hold_fits k a e h = (or_off (eqb k.hold 255) false (rw e at h)).0

pub release_fits : (k : State) (a : Asked) → a.number ≡ 9 → no_depth (seen k a) a ≡ false → eqb k.hold 0 ≡ false
unfolding no_depth
release_fits k a e h = rw e at h

pub tick_fits : (k : State) (a : Asked) → a.number ≡ 17 → no_tick (seen k a) a ≡ false → (ltb 0 k.hold && eqb k.pended 65535) ≡ false
unfolding no_tick
tick_fits k a e h = rw e at h

-- row 8, at an advance
pub advance_free : (k : State) (a : Asked) → a.number ≡ 18 → not_with_hold (seen k a) a ≡ false → k.hold ≡ 0
unfolding not_with_hold
advance_free k a e h = go (ltb 0 k.hold) refl (rw e at h)
  where
    go : (b : Bool) → ltb 0 k.hold ≡ b → (b && true) ≡ false → k.hold ≡ 0
    go true q f = absurd (false≢true (sym f))
    go false q f = omega (arith, ltb-false 0 k.hold q)

pub tick_room : (h p : ℕ) → 0 < h → p ≤ 65535 → (ltb 0 h && eqb p 65535) ≡ false → p < 65535
tick_room h p l m e =
    let f : eqb p 65535 ≡ false = rw (lt-ltb 0 h l) at e in
    let d = eqb-false p 65535 f in
    omega (arith, d)
