-- What soundness asks, in numbers and in words.
use Prim.Native.Nat.{ℕ, zero, suc, ◌+◌, ◌<◌}
use native.Mathlib.Nat.{add-zero}
use mathlib.Core.Path.{◌≡◌, refl, sym, ap, ◌∙◌}
use mathlib.Core.Bool.{Bool, true, false, not, ◌&&◌, ◌||◌, and-true}
use mathlib.Core.List.{List}
use native.Mathlib.Omega.{arith}
use lib.Dec.{eqb, ltb, leb}
use lib.ListN.{get_or}
use borrow.Author.Tests.{ne_eqb, ltb-false, lt-ltb}
use Rattle.std.proofs.Common.{if◌then◌else◌}
use Rattle.lists.specs.Lists.{all_below, up_to}
use Rattle.lists.proofs.Bools.{and_left, and_right, and_intro, all_below_lem, below_all, all_same}
use Rattle.lists.proofs.Tests.{by_six}
use Rattle.numbers.specs.Numbers.{task}
use Rattle.slots.specs.declared.Want.{Want}
use Rattle.slots.specs.declared.Want.TheVariants.{OwnTurn, Bits}
use Rattle.slots.specs.Who.{all_ready}
use Rattle.slots.specs.SoundSlots.{not_due, may_wait_on}
use Rattle.slots.proofs.Sweeps.{none_counted}
use Rattle.tasks.specs.declared.Tasks.{Tasks}
use Rattle.tasks.specs.Masks.{want_of, want_at}
use Rattle.tasks.specs.Numbering.{cells, place_of}
use Rattle.tasks.specs.Columns.{tasks_of, row_at, rows_of}
use Rattle.tasks.specs.Known.{waits_state, known, wake_known, known_at, wake_at, mask_at, canonical}
use Rattle.tasks.specs.Fine.{row_fine, idle_if, idle_alone, wake_fine, alone_fine, rows_fine, wakes_fine, waits_turn, waits_by, waits_at, waiting_in}
use Rattle.tasks.proofs.Columns.{Full}
use Rattle.tasks.proofs.WayBack.{tasks_back}
use Rattle.tasks.proofs.StateTests.{is_suspended, row_meant}

-- a waiting task is asked for twice: its object lists it once, and the order of those who began has it once
and_twice : (a b : Bool) → (a && b) ≡ (a && (a && b))
and_twice true b = refl
and_twice false b = refl

module _ (o f w own level outcome n : ℕ) (v : Want) (held : Bool) where
  abbrev Same : ℕ → Type 0
  Same s = row_fine s o f own level outcome n held ≡ (known s o f && alone_fine n held (record { place = place_of (cells s o w v); own = own; effective = level; outcome = outcome }))

  row_is : (s : ℕ) → Same s
  unfolding row_fine place_of
  row_is s =
      by_six Same refl refl refl (ap (λ b. (leb f 4 && true) && b) (and_twice (eqb n 1) _)) (ap (λ b. (leb f 4 && true) && b) (and_twice (eqb n 1) _)) refl
      (λ m h. rw (
        is_suspended m o w v h,
        ne_eqb m 0 (λ e. omega arith),
        ne_eqb m 1 (λ e. omega arith),
        ne_eqb m 2 (λ e. omega arith),
        ne_eqb m 3 (λ e. omega arith),
        ne_eqb m 4 (λ e. omega arith),
        ne_eqb m 5 (λ e. omega arith),
      ))
      s

module _ (o w tick : ℕ) (v : Want) where
  abbrev Likewise : ℕ → Type 0
  Likewise s = wake_fine s w tick ≡ (wake_known s w && not_due tick (place_of (cells s o w v)))

  wake_is : (s : ℕ) → Likewise s
  unfolding wake_fine place_of
  wake_is s =
      by_six Likewise (rw and-true) (rw and-true) refl refl (rw and-true) (rw and-true)
      (λ m h. rw (is_suspended m o w v h, ne_eqb m 2 (λ e. omega arith), ne_eqb m 3 (λ e. omega arith), and-true))
      s

-- each test, and all of them
module _ (ts : Tasks) where
  abbrev row_number : List ℕ → List Bool → ℕ → Bool
  row_number stands holds i =
      row_fine (get_or ts.state i 0) (get_or ts.object i 0) (get_or ts.wants.flags i 0) (get_or ts.own i 0) (get_or ts.effective i 0) (get_or ts.outcome i 0) (get_or stands i 0)
      (get_or holds i false)

  rows_is : (stands : List ℕ) (holds : List Bool) (i : ℕ) → row_number stands holds i ≡ rows_fine ts stands holds i
  unfolding row_at
  rows_is stands holds i =
      row_is (get_or ts.object i 0) (get_or ts.wants.flags i 0) (get_or ts.wake i 0) (get_or ts.own i 0) (get_or ts.effective i 0) (get_or ts.outcome i 0) (get_or stands i 0)
      (want_at ts.wants i) (get_or holds i false) (get_or ts.state i 0)

  rows_are : (stands : List ℕ) (holds : List Bool) → all_below 16 (row_number stands holds) ≡ all_below 16 (rows_fine ts stands holds)
  rows_are stands holds = all_same 16 (row_number stands holds) (rows_fine ts stands holds) (λ i l. rows_is stands holds i)

  abbrev wake_number : ℕ → ℕ → Bool
  wake_number tick i = wake_fine (get_or ts.state i 0) (get_or ts.wake i 0) tick && mask_at ts i

  wakes_is : (tick i : ℕ) → wake_number tick i ≡ wakes_fine ts tick i
  unfolding row_at
  wakes_is tick i = ap (λ (b : Bool). b && mask_at ts i) (wake_is (get_or ts.object i 0) (get_or ts.wake i 0) tick (want_at ts.wants i) (get_or ts.state i 0))

  pub wakes_are : (tick : ℕ) → all_below 16 (wake_number tick) ≡ all_below 16 (wakes_fine ts tick)
  wakes_are tick = all_same 16 (wake_number tick) (wakes_fine ts tick) (λ i l. wakes_is tick i)

  -- idle's test is asked of the first row alone
  abbrev idle_number : List Bool → ℕ → Bool
  idle_number holds i = idle_if (eqb i 0) (get_or ts.state i 0) (get_or ts.own i 0) (get_or ts.effective i 0) (get_or holds i false)

  idle_is : (holds : List Bool) → idle_number holds 0 ≡ idle_alone (get_or holds 0 false) (row_at ts 0)
  unfolding row_at
  idle_is holds = sym (ap (λ (b : Bool). (b && (eqb (get_or ts.own 0 0) 0 && eqb (get_or ts.effective 0 0) 0)) && not (get_or holds 0 false)) (row_meant ts 0 all_ready))

  only_first : (f : ℕ → Bool) → ((i : ℕ) → f (suc i) ≡ true) → (n : ℕ) → all_below (suc n) f ≡ f 0
  unfolding all_below up_to
  only_first f g zero = refl
  only_first f g (suc n) = rw (only_first f g n, g n) (and-true _)

  both_below : (n : ℕ) (f g : ℕ → Bool) → all_below n (λ i. f i && g i) ≡ (all_below n f && all_below n g)
  unfolding all_below up_to
  both_below zero f g = refl
  both_below (suc n) f g = rw (both_below n f g) (pairs (all_below n f) (all_below n g) (f n) (g n))
    where
      pairs : (a b c d : Bool) → ((a && b) && (c && d)) ≡ ((a && c) && (b && d))
      pairs false b c d = refl
      pairs true false false d = refl
      pairs true false true d = refl
      pairs true true c d = refl

  pub rows_idle : (stands : List ℕ) (holds : List Bool)
      → all_below 16 (λ i. idle_number holds i && row_number stands holds i) ≡ (idle_alone (get_or holds 0 false) (row_at ts 0) && all_below 16 (rows_fine ts stands holds))
  rows_idle stands holds =
      both_below 16 (idle_number holds) (row_number stands holds) ∙ rw (only_first (idle_number holds) (λ i. rw (ne_eqb (suc i) 0 (λ e. omega arith))) 15, idle_is holds, rows_are stands holds)

-- what passes the tests is canonical, and stands for the list that it reads as
module _ (ts : Tasks) (full : Full ts) (tick : ℕ) (stands : List ℕ) (holds : List Bool) (a : Bool) where
  abbrev rows : Bool
  rows = all_below 16 (rows_fine ts stands holds)

  abbrev wakes : Bool
  wakes = all_below 16 (wakes_fine ts tick)

  plain : rows ≡ true → wakes ≡ true → (i : ℕ) → i < 16 → (known_at ts i && (wake_at ts i && mask_at ts i)) ≡ true
  plain h k i l =
      let due = not_due tick (row_at ts i).place in
      let w = all_below_lem 16 (wakes_fine ts tick) k i l in
      and_intro (known_at ts i) (wake_at ts i && mask_at ts i)
      (and_left (known_at ts i) _ (all_below_lem 16 (rows_fine ts stands holds) h i l))
      (and_intro (wake_at ts i) (mask_at ts i) (and_left (wake_at ts i) due (and_left (wake_at ts i && due) (mask_at ts i) w)) (and_right (wake_at ts i && due) (mask_at ts i) w))

  pub fine_whole : (a && (rows && wakes)) ≡ true → ts ≡ tasks_of (rows_of ts)
  unfolding canonical
  fine_whole h =
      let r = and_right a (rows && wakes) h in
      sym (tasks_back ts full (below_all 16 _ (plain (and_left rows wakes r) (and_right rows wakes r))))

-- one more is counted, or not
pub one_more : (n : ℕ) (b : Bool) → (ltb 0 n || b) ≡ ltb 0 (n + (if b then 1 else 0))
one_more n true = go (ltb 0 n) ∙ sym (lt-ltb 0 (n + 1) (omega arith))
  where
    go : (a : Bool) → (a || true) ≡ true
    go true = refl
    go false = refl
one_more n false = rw (add-zero n) (go (ltb 0 n))
  where
    go : (a : Bool) → (a || false) ≡ a
    go true = refl
    go false = refl

pub none_there : {n : ℕ} → ltb 0 n ≡ false → n ≡ 0
none_there {n} e = omega (arith, ltb-false 0 n e)

-- the waits: only who waits for its turn is asked
abbrev pub wait_number : List ℕ → List ℕ → List ℕ → List Bool → List Bool → List ℕ → ℕ → Bool
wait_number states objects flags opens takes holder i =
    if waits_state (get_or states i 0) && eqb (get_or flags i 0) 0 then ltb (get_or objects i 0) 16 && may_wait_on opens takes holder (task i) (get_or objects i 0) else true

module _ (ts : Tasks) (opens takes : List Bool) (holder : List ℕ) where
  abbrev asks : ℕ → ℕ → Bool
  asks i o = ltb o 16 && may_wait_on opens takes holder (task i) o

  abbrev want_number : ℕ → Bool
  want_number = wait_number ts.state ts.object ts.wants.flags opens takes holder

  wait_is : (i s o w : ℕ) (v : Want) → waits_by opens takes holder (task i) (place_of (cells s o w v)) ≡ (if waits_state s then waits_turn opens takes holder (task i) v o else true)
  unfolding place_of
  wait_is i s o w v =
      by_six (λ n. waits_by opens takes holder (task i) (place_of (cells n o w v)) ≡ (if waits_state n then waits_turn opens takes holder (task i) v o else true)) refl refl refl refl refl refl
      (λ n h. rw (is_suspended n o w v h, ne_eqb n 3 (λ e. omega arith), ne_eqb n 4 (λ e. omega arith))) s

  -- flags say for what it waits
  turn_asked : (i o m f : ℕ) (b : Bool) → (if b && eqb f 0 then asks i o else true) ≡ (if b then waits_turn opens takes holder (task i) (want_of m f) o else true)
  turn_asked i o m f false = refl
  turn_asked i o m f true = go (eqb f 0)
    where
      go : (c : Bool) → (if c then asks i o else true) ≡ waits_turn opens takes holder (task i) (if c then OwnTurn else Bits m (eqb f 2 || eqb f 4) (leb 3 f)) o
      go true = refl
      go false = refl

  waits_is : (i : ℕ) → want_number i ≡ waits_at ts opens takes holder i
  unfolding row_at want_at
  waits_is i =
      turn_asked i (get_or ts.object i 0) (get_or ts.wants.mask i 0) (get_or ts.wants.flags i 0) (waits_state (get_or ts.state i 0))
      ∙ sym (wait_is i (get_or ts.state i 0) (get_or ts.object i 0) (get_or ts.wake i 0) (want_at ts.wants i))

  pub waits_are : all_below 16 want_number ≡ all_below 16 (waits_at ts opens takes holder)
  waits_are = all_same 16 want_number (waits_at ts opens takes holder) (λ i l. waits_is i)

  -- where nobody waits, nothing is asked
  none_waits : (i : ℕ) → waits_state (get_or ts.state i 0) ≡ false → want_number i ≡ true
  none_waits i e = rw e

  pub none_asked : waiting_in ts ≡ 0 → all_below 16 (waits_at ts opens takes holder) ≡ true
  unfolding waiting_in
  none_asked e = sym waits_are ∙ below_all 16 want_number (λ j l. none_waits j (none_counted (λ k. waits_state (get_or ts.state k 0)) 16 e j l))
