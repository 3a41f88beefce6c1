-- Of the listing the test is true exactly if every sentence holds.
use Prim.Native.Nat.{ℕ, ◌<◌, ◌≤◌}
use mathlib.Core.Path.{◌≡◌, refl}
use mathlib.Core.Bool.{Bool, true, false}
use mathlib.Core.List.{List}
use native.Mathlib.Omega.{arith}
use lib.Dec.{eqb, ltb}
use lib.ListN.{length, get_or, length-take}
use lib.Seq.{get_or-take}
use borrow.Author.Tests.{eqb-true, eq-eqb, ltb-true, ltb-false}
use Rattle.std.proofs.Common.{if◌then◌else◌}
use Rattle.lists.proofs.Bools.{at, also, none, below_all}
use Rattle.numbers.specs.Numbers.{task, idle}
use Rattle.order.specs.Order.{listed}
use Rattle.order.specs.Tidy.{count, tidy}
use Rattle.order.proofs.Rooms.{tidy_few, tidy_zeros, tidy_none, tidy_from, count_some}
use Rattle.slots.specs.Places.{is_listed}
use Rattle.slots.specs.Values.{task_at}
use Rattle.slots.specs.SoundSlots.{stands_fine, remembers_fine, orders_fine}
use Rattle.rules.specs.Types.{TaskSlot, Order, Place, Free, Ready, Delayed, Waiting, Suspended, Spent, Task}
use Rattle.rules.specs.Sound.{each_stands, each_remembered, none_else, listing_fine}
use Rattle.rules.specs.Sentences.{Listing}
use Rattle.rules.proofs.TableSlots.{past_tasks, any_task}
use Rattle.rules.proofs.SoundLists.{listing_of, once_of}

-- ── the tests by their names
pub record ListingTested (ts : List Task) (o : Order) : Type 0 where
  pub places : eqb (length o.places) 16 ≡ true
  pub stands : each_stands ts (listed o) ≡ true
  pub remembered : each_remembered ts (listed o) ≡ true
  pub tidied : tidy o ≡ true
  pub none_else : none_else ts (listed o) ≡ true

pub listing_tested : (ts : List Task) (o : Order) → listing_fine ts o ≡ true → ListingTested ts o
unfolding listing_fine
listing_tested ts o e = record { places = at _ e 0; stands = at _ e 1; remembered = at _ e 2; tidied = at _ e 3; none_else = at _ e 4 }

pub tested_listing : (ts : List Task) (o : Order) → ListingTested ts o → listing_fine ts o ≡ true
unfolding listing_fine
tested_listing ts o T = also _ _ T.places (also _ _ T.stands (also _ _ T.remembered (also _ _ T.tidied (also _ _ T.none_else none))))

-- ── how often it stands in the order: the documents' tests and the order's own
once_only : (n : ℕ) (p : Place) → stands_fine n p ≡ true → remembers_fine n p ≡ true → orders_fine n p ≡ true → n ≡ (if is_listed p then 1 else 0)
once_only n Free s r o = eqb-true n 0 o
once_only n Ready s r o = eqb-true n 1 s
once_only n (Delayed w) s r o = eqb-true n 1 r
once_only n (Waiting q w) s r o = eqb-true n 1 s
once_only n Suspended s r o = eqb-true n 0 o
once_only n Spent s r o = eqb-true n 0 o

stands_once : (n : ℕ) (p : Place) → n ≡ (if is_listed p then 1 else 0) → stands_fine n p ≡ true
stands_once n Free e = refl
stands_once n Ready e = eq-eqb n 1 e
stands_once n (Delayed w) e = refl
stands_once n (Waiting q w) e = eq-eqb n 1 e
stands_once n Suspended e = refl
stands_once n Spent e = refl

remembers_once : (n : ℕ) (p : Place) → n ≡ (if is_listed p then 1 else 0) → remembers_fine n p ≡ true
remembers_once n Free e = refl
remembers_once n Ready e = refl
remembers_once n (Delayed w) e = eq-eqb n 1 e
remembers_once n (Waiting q w) e = eq-eqb n 1 e
remembers_once n Suspended e = refl
remembers_once n Spent e = refl

orders_once : (n : ℕ) (p : Place) → n ≡ (if is_listed p then 1 else 0) → orders_fine n p ≡ true
orders_once n Free e = eq-eqb n 0 e
orders_once n Ready e = refl
orders_once n (Delayed w) e = refl
orders_once n (Waiting q w) e = refl
orders_once n Suspended e = eq-eqb n 0 e
orders_once n Spent e = eq-eqb n 0 e

-- ── a test that is true says every sentence
pub listing_says : (ts : List Task) (o : Order) → length ts ≡ 16 → listing_fine ts o ≡ true → Listing ts o
listing_says ts o l e =
    let T = listing_tested ts o e in
    listing_of ts o (λ t.
    once_only (count t.0 (listed o)) (task_at ts t).place
    (any_task ts (λ u x. stands_fine (count u.0 (listed o)) x.place) l T.stands (λ u h. refl) t)
    (any_task ts (λ u x. remembers_fine (count u.0 (listed o)) x.place) l T.remembered (λ u h. refl) t)
    (any_task ts (λ u x. orders_fine (count u.0 (listed o)) x.place) l T.none_else
    (λ u h. eq-eqb (count u.0 (listed o)) 0 (tidy_none o T.tidied u.0 h)) t))
    (eqb-true _ _ T.places) (tidy_few o T.tidied) (tidy_zeros o T.tidied)

-- ── every sentence makes the test true
module _ (ts : List Task) (o : Order) (l : length ts ≡ 16) (S : Listing ts o) where
  listed_low : (i : ℕ) → i < o.living → (get_or o.places i idle).0 < 16
  listed_low i h = go (ltb u.0 16) refl
    where
      u : TaskSlot
      u = get_or o.places i idle

      fit : i < length (listed o)
      fit = omega (arith, length-take o.living o.places, S.one_order.places, S.one_order.room)

      some : 1 ≤ count u.0 (listed o)
      some = rw (← get_or-take o.living o.places i idle h) (count_some (listed o) i fit)

      go : (b : Bool) → ltb u.0 16 ≡ b → u.0 < 16
      go true e = ltb-true u.0 16 e
      go false e =
          let past : length ts ≤ u.0 = omega (arith, ltb-false u.0 16 e, l) in
          let zero_times : count u.0 (listed o) ≡ 0 = rw (past_tasks ts u past) at (once_of ts o S u) in
          absurd (omega (arith, some))

  pub says_listing : listing_fine ts o ≡ true
  says_listing =
      tested_listing ts o record {
        places = eq-eqb _ _ S.one_order.places;
        stands = below_all 16 _ (λ n h. stands_once _ (task_at ts (task n)).place (once_of ts o S (task n)));
        remembered = below_all 16 _ (λ n h. remembers_once _ (task_at ts (task n)).place (once_of ts o S (task n)));
        tidied = tidy_from o S.one_order.room listed_low S.one_order.zeros;
        none_else = below_all 16 _ (λ n h. orders_once _ (task_at ts (task n)).place (once_of ts o S (task n)));
      }
