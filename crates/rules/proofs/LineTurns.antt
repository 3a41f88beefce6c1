-- The turn of the line, again and again, with choose after each: in one go.
use Prim.Native.Nat.{ℕ, zero, suc, ◌%◌, ◌<◌, ◌≤◌}
use mathlib.Core.Path.{◌≡◌, refl, sym, ap, subst, ◌∙◌}
use mathlib.Core.Bool.{Bool, true, false}
use mathlib.Core.List.{List, [], ◌∷◌, ◌++◌}
use native.Mathlib.Nat.{mod-lt}
use native.Mathlib.Omega.{arith}
use lib.Dec.{ltb}
use lib.ListN.{length, get_or, set, take, drop}
use lib.Seq.{drop-cons}
use borrow.Author.Tests.{eqb-true, ne_eqb, ltb-true, ltb-false, leb-true}
use Rattle.std.proofs.Common.{if◌then◌else◌}
use Rattle.lists.specs.Lists.{foldl, up_to, kept, head}
use Rattle.lists.proofs.Bools.{and_left, and_right, and_off}
use Rattle.lists.proofs.Tests.{kept-head}
use Rattle.numbers.specs.Numbers.{idle}
use Rattle.order.specs.Order.{listed, ordered, without}
use Rattle.order.specs.Turns.{those_last, turned_of, times_turned, head_after}
use Rattle.order.proofs.Passing.{kept_tail}
use Rattle.order.proofs.Fits.{HasRoom, fits_listed, fits_kept, fits_tail}
use Rattle.order.proofs.Rolls.{rolled, rolls, parted_counts, AtOnce, rolls_at_once}
use Rattle.slots.specs.Places.{is_ready, wakes_at, outcome_due}
use Rattle.slots.specs.Values.{in_line, placed, task_at}
use Rattle.rules.specs.Types.{TaskSlot, Ready, Order, all_ready, State}
use Rattle.rules.specs.Tables.{with_order, with_running, with_tick}
use Rattle.rules.specs.Lines.{line, those, begun, level, highest, first, chosen, to_tail}
use Rattle.rules.specs.Sound.{no_higher}
use Rattle.rules.specs.Waits.{later, arrives}
use Rattle.rules.specs.Sentences.{NoCircle, Running, Unheld}
use Rattle.rules.specs.Ticks.{woken_if_due, wakes, one_tick, turned, turned_if, turnings, counted_on}
use Rattle.rules.proofs.TableSlots.{is_ready_lem}
use Rattle.rules.proofs.LineLeads.{first_heads_highest, no_higher_by}
use Rattle.rules.proofs.LineMoves.{other_tail}
use Rattle.rules.proofs.SoundLists.{listing_room}
use Rattle.rules.proofs.SoundRuns.{runs_highest, highest_runs}
use Rattle.rules.proofs.Keeps.{ready_low, apart}
use Rattle.rules.proofs.KeepNearly.{RunsIn}
use Rattle.rules.proofs.KeepHeads.{runs_tail}
use Rattle.rules.proofs.KeepChosen.{nearly_sound, above_highest}
use Rattle.rules.proofs.KeepTicks.{fresh_used, one_tick_lem, unheld_nearly, turn_unheld, counted, tick_circles}
use Rattle.rules.proofs.TickJumps.{passed_over}
use Rattle.rules.proofs.Begun.{RoomyIn}
use Rattle.rules.proofs.BegunCalls.{woken_fades}
use Rattle.rules.proofs.BegunPairs.{woken_last}
use Rattle.rules.proofs.LoanWorks.{worked_runs}

-- ── choose finds whoever stands where the running task is to stand
module _ (k : State) (t : TaskSlot) (R : Running k.tasks (listed k.order) t 0) where
  abbrev high : ℕ
  high = highest k.tasks (those k.tasks all_ready (listed k.order))

  some_line : (m : List TaskSlot) → head m ≡ t ∷ [] → m ≡ [] → ⊥
  some_line [] e q = let z : ◌≡◌ {A = ℕ} 0 1 = cc in omega arith
  some_line (u ∷ m) e q = let z : ◌≡◌ {A = ℕ} 0 1 = cc in omega arith

  its_height : high ≡ level k.tasks t
  its_height =
      let above = leb-true high (level k.tasks t) (sym (no_higher_by k.tasks (level k.tasks t) (listed k.order)) ∙ runs_highest k.tasks (listed k.order) t R) in
      go (ltb high (level k.tasks t)) refl above
    where
      go : (b : Bool) → ltb high (level k.tasks t) ≡ b → high ≤ level k.tasks t → high ≡ level k.tasks t
      go true e h = absurd (some_line _ R.runs.heads (above_highest k.tasks (level k.tasks t) (listed k.order) (ltb-true high (level k.tasks t) e)))
      go false e h = omega (arith, ltb-false high (level k.tasks t) e)

  pub chosen_is : k.hold ≡ 0 → chosen k ≡ with_running k t
  unfolding chosen first
  chosen_is z = rw (z, first_heads_highest k, its_height, R.runs.heads)

-- so a choose changes nothing in a kernel that is sound and not held
pub chosen_again : (k : State) → Unheld k → chosen k ≡ k
chosen_again k U = chosen_is k k.running (rw U.free at U.sound.running) U.free

-- ── one turn
abbrev pub its_line : State → TaskSlot → Bool
its_line k t = in_line (level k.tasks k.running) (task_at k.tasks t)

module _ (k : State) (U : Unheld k) where
  abbrev l : List TaskSlot
  l = listed k.order

  abbrev r : TaskSlot
  r = k.running

  abbrev p : ℕ
  p = level k.tasks r

  R : Running k.tasks l r 0
  R = rw U.free at U.sound.running

  pub room : HasRoom l
  room = listing_room k.tasks k.order U.sound.tables.task_slots U.sound.listing

  -- the line begins with whoever runs
  pub record Heads : Type 0 where
    pub rest : List TaskSlot
    pub whole : kept (its_line k) l ≡ r ∷ rest

  pub heads : Heads
  unfolding line
  heads = go (kept (its_line k) l) refl R.runs.heads
    where
      go : (m : List TaskSlot) → kept (its_line k) l ≡ m → head m ≡ r ∷ [] → Heads
      go [] e h = absurd (let z : ◌≡◌ {A = ℕ} 0 1 = cc in omega arith)
      go (u ∷ m) e h = let z : u ≡ r = cc in record { rest = m; whole = e ∙ ap (λ (v : TaskSlot). v ∷ m) z }

  low : r.0 < 16
  low = ready_low k.tasks r U.sound.tables.task_slots R.runs.ready

  turned_is : turned k ≡ with_order k (ordered (without r l ++ (r ∷ [])))
  unfolding turned to_tail
  turned_is = rw (runs_highest k.tasks l r R)

  -- whoever stands in the line is ready, with this priority
  in_line_lem : (t : TaskSlot) → its_line k t ≡ true → ((task_at k.tasks t).place ≡ Ready) × (level k.tasks t ≡ p)
  in_line_lem t e =
      (is_ready_lem (task_at k.tasks t).place (and_left (is_ready (task_at k.tasks t).place) _ e), eqb-true (level k.tasks t) p (and_right (is_ready (task_at k.tasks t).place) _ e))

  abbrev turned_list : List TaskSlot
  turned_list = rolled (its_line k) l

  moved : turned_list ≡ without r l ++ (r ∷ [])
  moved = rw heads.whole

  turned_room : HasRoom turned_list
  turned_room = rw moved (fits_tail r l room low)

  -- after the turn whoever is second runs; it is first where there is no second
  runs_next : (t : TaskSlot) (m : List TaskSlot) → kept (its_line k) turned_list ≡ t ∷ m → Running k.tasks turned_list t 0
  unfolding line
  runs_next t m e =
      let h : head (kept (its_line k) turned_list) ≡ t ∷ [] = ap head e in
      let q = in_line_lem t (kept-head (its_line k) turned_list t h) in
      record {
        runs = record { ready = q.0; heads = rw q.1 h };
        no_higher = λ z n c.
            let other : in_line n (task_at k.tasks r) ≡ false = sym (and_off (is_ready (task_at k.tasks r).place) _ (ne_eqb p n (λ y. omega (arith, q.1)))) in
            rw moved (other_tail (in_line n) k.tasks k.tasks r (λ u d. refl) other other l) ∙ R.no_higher refl n (omega (arith, q.1));
      }

  someone_next : (m : List TaskSlot) → kept (its_line k) turned_list ≡ m → m ≡ [] → ⊥
  unfolding line
  someone_next m e z =
      let q : its_line k r ≡ true = kept-head (its_line k) l r R.runs.heads in
      let tail : kept (its_line k) turned_list ≡ without r (kept (its_line k) l) ++ (r ∷ []) = rw moved (kept_tail r (its_line k) (its_line k) (λ u n. refl) l ∙ rw q) in
      not_none (without r (kept (its_line k) l)) (sym tail ∙ e ∙ z)
    where
      not_none : (xs : List TaskSlot) → xs ++ (r ∷ []) ≡ [] → ⊥
      not_none [] f = let y : ◌≡◌ {A = ℕ} 0 1 = cc in omega arith
      not_none (x ∷ xs) f = let y : ◌≡◌ {A = ℕ} 0 1 = cc in omega arith

  -- with each turn the next one of the line runs
  pub turn_once : turned_if true k ≡ with_running (with_order k (ordered turned_list)) (get_or (kept (its_line k) turned_list) 0 idle)
  turn_once = go (kept (its_line k) turned_list) refl
    where
      j : State
      j = with_order k (ordered turned_list)

      go : (m : List TaskSlot) → kept (its_line k) turned_list ≡ m → turned_if true k ≡ with_running j (get_or m 0 idle)
      go [] e = absurd (someone_next [] e refl)
      go (t ∷ m) e =
          ap chosen (turned_is ∙ ap (λ (xs : List TaskSlot). with_order k (ordered xs)) (sym moved))
          ∙ chosen_is j t (rw (fits_listed turned_list turned_room) (runs_next t m e)) U.free

-- ── any number of turns
pub turnings_unheld : (n : ℕ) (k : State) → Unheld k → Unheld (turnings true n k)
unfolding up_to
turnings_unheld zero k U = U
turnings_unheld (suc n) k U = turn_unheld (turnings true n k) (turnings_unheld n k U)

module _ (k : State) (U : Unheld k) where
  abbrev mine : List TaskSlot
  mine = kept (its_line k) (listed k.order)

  -- the kernel with the list xs for an order, in which the head of the line runs
  abbrev headed : (TaskSlot → Bool) → List TaskSlot → State
  headed q xs = with_running (with_order k (ordered xs)) (get_or (kept q xs) 0 idle)

  some : 0 < length mine
  some = rw (heads k U).whole (omega arith)

  at_once : (n : ℕ) → AtOnce (its_line k) (listed k.order) (room k U).once n
  at_once n = rolls_at_once (its_line k) (listed k.order) (room k U).once n some

  -- who stands first in the line after n turns
  module _ (n : ℕ) where
    abbrev next : TaskSlot
    next = get_or mine (n % length mine) idle

    pub first_then : kept (its_line k) (rolls (its_line k) n (listed k.order)) ≡ next ∷ (drop (suc (n % length mine)) mine ++ take (n % length mine) mine)
    first_then = (at_once n).line ∙ ap (λ (xs : List TaskSlot). xs ++ take (n % length mine) mine) (drop-cons mine (n % length mine) idle (mod-lt n some))

    same_level : level k.tasks next ≡ level k.tasks k.running
    same_level = (in_line_lem k U next (kept-head (its_line k) (rolls (its_line k) n (listed k.order)) next (ap head first_then))).1

  record Turned (n : ℕ) : Type 0 where
    is : turnings true n k ≡ headed (its_line k) (rolls (its_line k) n (listed k.order))
    fits : HasRoom (rolls (its_line k) n (listed k.order))

  turned_on : (n : ℕ) → Turned n → Turned (suc n)
  unfolding up_to
  turned_on n T =
      let xs = rolls (its_line k) n (listed k.order) in
      let j = headed (its_line k) xs in
      let W = subst Unheld T.is (turnings_unheld n k U) in
      let same : listed j.order ≡ xs = fits_listed xs T.fits in
      let head_is : j.running ≡ next n = ap (λ (ys : List TaskSlot). get_or ys 0 idle) (first_then n) in
      let lev : level k.tasks j.running ≡ level k.tasks k.running = ap (level k.tasks) head_is ∙ same_level n in
      let lined : (m : ℕ) → TaskSlot → Bool = λ m u. in_line m (task_at k.tasks u) in
      record {
        is = ap (turned_if true) T.is ∙ turn_once j W ∙ ap (headed (its_line j)) (ap (rolled (its_line j)) same) ∙ ap (λ (m : ℕ). headed (lined m) (rolled (lined m) xs)) lev;
        fits = subst (λ (m : ℕ). HasRoom (rolled (lined m) xs)) lev (subst (λ (ys : List TaskSlot). HasRoom (rolled (its_line j) ys)) same (turned_room j W));
      }

  turned_many : (i : ℕ) → Turned (suc i)
  unfolding up_to
  turned_many zero = record { is = turn_once k U; fits = turned_room k U }
  turned_many (suc i) = turned_on (suc i) (turned_many i)

  -- in one list; and in the order, which has room for it
  at_once_listed : (n : ℕ) → 0 < n → turnings true n k
      ≡ with_running (with_order k (ordered (those_last (if ltb n (length mine) then listed k.order else those_last (listed k.order) mine) (take (n % length mine) mine)))) (next n)
  at_once_listed zero h = absurd (omega arith)
  at_once_listed (suc i) h =
      (turned_many i).is ∙ (λ d. with_running (with_order k (ordered ((at_once (suc i)).order d))) (get_or (first_then (suc i) d) 0 idle))

  has_round : HasRoom (those_last (listed k.order) mine)
  has_round =
      let c = parted_counts (its_line k) (listed k.order) (room k U).once in
      record { once = λ n. omega (arith, c n, (room k U).once n); low = λ n h. omega (arith, c n, (room k U).low n h) }

  same_order : (b : Bool) (ks : List TaskSlot)
      → ordered (those_last (if b then listed k.order else those_last (listed k.order) mine) ks) ≡ turned_of (if b then k.order else turned_of k.order mine) ks
  same_order true ks = refl
  same_order false ks = rw (fits_listed (those_last (listed k.order) mine) has_round)

  -- "a line of several is turned by n mod its length in one go"
  pub turns_at_once : (n : ℕ) → 0 < n → turnings true n k ≡ with_running (with_order k (times_turned k.order mine n)) (head_after mine n)
  turns_at_once n h = at_once_listed n h ∙ ap (λ (o : Order). with_running (with_order k o) (next n)) (same_order (ltb n (length mine)) (take (n % length mine) mine))

  pub its_room : HasRoom mine
  its_room = fits_kept (its_line k) (listed k.order) (room k U)

-- ── after a tick's wakes
woken_table : (k : State) (t : TaskSlot) → wakes_at k.tick (task_at k.tasks t).place ≡ true
    → ((woken_if_due k t).tasks ≡ set k.tasks t.0 (placed (task_at k.tasks t) Ready (outcome_due (task_at k.tasks t).place))) × ((woken_if_due k t).running ≡ k.running)
unfolding woken_if_due arrives to_tail
woken_table k t e = rw e (refl, refl)

-- those who are made ready stand behind, so whoever ran heads its line still
wakes_run : (l : List TaskSlot) (k : State) → RoomyIn k → RunsIn k → RunsIn (foldl woken_if_due k l)
unfolding foldl
wakes_run [] k R S = S
wakes_run (t ∷ l) k R S = wakes_run l (woken_if_due k t) (woken_fades k R t).roomy (go (wakes_at k.tick (task_at k.tasks t).place) refl)
  where
    other : wakes_at k.tick (task_at k.tasks t).place ≡ true → k.running.0 ≡ t.0 → ⊥
    other e q = apart k.tasks t k.running (wakes_at k.tick) e (ap (wakes_at k.tick) S.ready) (sym q)

    go : (b : Bool) → wakes_at k.tick (task_at k.tasks t).place ≡ b → RunsIn (woken_if_due k t)
    go true e = runs_tail k S t (placed (task_at k.tasks t) Ready (outcome_due (task_at k.tasks t).place)) (woken_if_due k t) (woken_table k t e).0 (woken_table k t e).1 (other e) (woken_last k R t e)
    go false e = rw (passed_over k t e) S

-- so where nobody outranks it the line may be turned
pub tick_still : (k : State) → Unheld k → no_higher (one_tick k).tasks (level (one_tick k).tasks (one_tick k).running) (listed (one_tick k).order) ≡ true → Unheld (one_tick k)
unfolding one_tick counted_on wakes
tick_still k U e =
    let j = one_tick k in
    let T = one_tick_lem k (unheld_nearly k U) in
    let R : RoomyIn k = record { many = U.sound.tables.task_slots; room = room k U } in
    let S : RunsIn (counted_on k) = wakes_run (begun k.tasks (listed k.order)) (with_tick k (later k.tick 1)) R U.sound.running.runs in
    let z = T.after.hold ∙ U.free in
    record { sound = nearly_sound j T.nearly T.reckoned (rw z (highest_runs j.tasks (listed j.order) j.running (worked_runs (counted_on k) (counted k (unheld_nearly k U)) S) e)) fresh_used NoCircle (tick_circles k U.sound.tables.task_slots U.sound.circles); free = z }
