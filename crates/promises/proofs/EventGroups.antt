-- What the four calls on event groups do, as equations of the whole step.
use Prim.Native.Nat.{ℕ, ◌-◌, ◌<◌, ◌≤◌}
use mathlib.Core.Path.{◌≡◌, refl, sym, ap, ◌∙◌}
use mathlib.Core.Logic.{inl, inr}
use mathlib.Core.Bool.{Bool, true, false, not, ◌&&◌, false≢true, and-false, or-true}
use mathlib.Core.List.{List, [], ◌∷◌}
use native.Mathlib.Omega.{arith}
use lib.Bits.{bit_or, and_zero_r}
use lib.Dec.{eqb, ltb}
use lib.ListN.{length, set}
use lib.Seq.{set-get_or}
use borrow.Author.Tests.{eqb-true, eq-eqb, ne_eqb, lt-ltb, le-ltb}
use Rattle.std.proofs.Common.{if◌then◌else◌}
use Rattle.lists.specs.Lists.{foldl}
use Rattle.numbers.specs.Numbers.{object}
use Rattle.calls.specs.declared.ObjNo.{ObjNo}
use Rattle.calls.specs.Door.{obj_no, obj_slot}
use Rattle.calls.specs.Behind.{asked}
use Rattle.calls.specs.Said.{says, made, done, waiting}
use Rattle.slots.specs.Places.{is_blocked}
use Rattle.slots.specs.Values.{task_at}
use Rattle.slots.specs.Kinds.{unused, holder_of, kind_at}
use Rattle.slots.specs.Wants.{all_bits, holds_of, cleared, wait_on, satisfied_on}
use Rattle.rows.specs.Asking.{makes}
use Rattle.rows.specs.Applies.{out_of_range, names_none, wrong_size, not_for_idle, not_with_hold, none_free, not_his, his_already, count_full, not_suspended, must_wait, no_depth, no_tick, table}
use Rattle.rules.specs.Tables.{free_object, with_object, with_running, with_uses}
use Rattle.rules.specs.Lines.{first, runs_if, chosen, to_tail}
use Rattle.rules.specs.Waits.{wake_of, arrives, wait_for}
use Rattle.rules.specs.Loans.{worked_out}
use Rattle.rules.specs.Circles.{closes_circle}
use Rattle.rules.specs.Events.{group_made, slip_bits, woken_in, woken_by, all_woken, clears_of, bits_set, store_set, awaited, store_awaited}
use Rattle.rules.specs.Sound.{sound}
use Rattle.rules.specs.Sentences.{Sound}
use Rattle.rules.specs.Refusals.{seen, in_use, later_row, refusal}
use Rattle.rules.specs.Effects.{effect}
use Rattle.rules.specs.Steps.{stored, answered, uses_after, after, accepted, turned_away, step}
use Rattle.rules.proofs.SoundSays.{sound_says}
use Rattle.rules.proofs.TableWithin.{first_meant, first_single}
use Rattle.rules.proofs.TickJumps.{chosen_only}
use Rattle.rules.proofs.LineTurns.{chosen_again}
use Rattle.rules.proofs.LoanWorks.{worked_still}
use Rattle.rules.proofs.LoanStill.{object_reckoned, events_reckoned, awaited_reckoned}
use Rattle.rules.proofs.Keeps.{ready_low}
use Rattle.rules.proofs.KeepObjects.{free_kind}
use Rattle.rules.proofs.KeepBlocks.{arrives_at}
use Rattle.rules.proofs.KeepChosen.{sound_reckoned}
use Rattle.rules.proofs.KeepTicks.{sound_unheld}
use Rattle.promises.specs.Types.{TaskSlot, ObjSlot, Asked, Call, MakeGroup, SetBits, ClearBits, Await, Ready, all_ready, those_satisfied_on, Bits, Waiting, Task, Kind, Group, State}
use Rattle.promises.specs.Advance.{done_with}
use Rattle.promises.specs.EventGroups.{is_satisfied, NobodyMet, HasBits, with_bits, MakesGroup, SetsBits, ClearsBits, Accepts, MayAsk, OutOfRange, now_waiting, AwaitsBits}
use Rattle.promises.proofs.EventWakes.{is_left, then_same}

-- ── an object changed, nobody's before and after, and all else as it was: nothing is to be worked out, and the caller runs on
module _ (k : State) (S : Sound k) (p : ObjSlot) (x : Kind) (h : holder_of x ≡ holder_of (kind_at k.objects p)) where
  abbrev changed : State
  changed = with_object k p x

  runs_on : chosen changed ≡ changed
  unfolding chosen first
  runs_on = go (eqb k.hold 0) refl
    where
      same : (f : List TaskSlot) → runs_if k f ≡ k → runs_if changed f ≡ changed
      same [] q = refl
      same (t ∷ l) q = ap (λ u. with_running changed u) (ap (λ (i : State). i.running) q)

      go : (b : Bool) → eqb k.hold 0 ≡ b → (if b then runs_if changed (first changed all_ready) else changed) ≡ changed
      go true z = same (first k all_ready) (rw z at (chosen_again k (sound_unheld k S (eqb-true k.hold 0 z))))
      go false z = refl

  bits_only : chosen (worked_out changed) ≡ changed
  bits_only = ap chosen (worked_still changed (object_reckoned k (sound_reckoned k S) p x h)) ∙ runs_on

-- ── a set that wakes nobody
module _ (k : State) (o : ObjSlot) (b : ℕ) (none : (t : TaskSlot) → is_satisfied k o b t ≡ false) where
  none_first : (l : List TaskSlot) → first k (those_satisfied_on o b) ≡ l → l ≡ []
  none_first [] e = refl
  none_first (t ∷ l) e = absurd (false≢true (sym (none t) ∙ first_meant k (those_satisfied_on o b) t (first_single k (those_satisfied_on o b) t l e)))

  wakes_none : woken_by k o b ≡ []
  unfolding woken_by woken_in
  wakes_none = rw (none_first (first k (those_satisfied_on o b)) refl)

  pub nobody_met_so : NobodyMet k o b
  unfolding bits_set store_set all_woken clears_of foldl
  nobody_met_so = let z : b - 0 ≡ b = omega arith in record { kernel = rw (wakes_none, and_zero_r b, z); store = λ s. rw wakes_none }

-- ── a call that no row turns away, after whose effect no effective priority changes
module _ (k : State) (e : sound k ≡ true) (item s : List ℕ) (c : Call) (j : State)
    (row : later_row k (asked k.uses c) (length item) (length s) ≡ 0)
    (does : effect k (asked k.uses c) ≡ j)
    (still : worked_out j ≡ j)
    (uses : j.uses ≡ k.uses)
    (same_uses : uses_after k.uses (asked k.uses c) ≡ k.uses) where
  step_ends : step k c item s ≡ record { kernel = chosen j; answer = answered k (asked k.uses c) (chosen j); store = stored k (asked k.uses c) item s }
  unfolding step refusal accepted after
  step_ends =
      rw (e, row, does, still, same_uses)
      (ap (λ i. record { kernel = i; answer = answered k (asked k.uses c) (chosen j); store = stored k (asked k.uses c) item s })
      (ap (with_uses (chosen j)) (sym ((chosen_only j).uses ∙ uses))))

  -- it makes nothing, and the caller is ready still, or waits
  module _ (no_make : makes (asked k.uses c) ≡ false) where
    answer_by : (y : Bool) → is_blocked (task_at j.tasks k.running).place ≡ y → answered k (asked k.uses c) (chosen j) ≡ (if y then says waiting 0 else says done 0)
    unfolding answered
    answer_by y q = rw (no_make, (chosen_only j).tasks, q)

    ends_done : (task_at j.tasks k.running).place ≡ Ready → step k c item s ≡ done_with (chosen j) (stored k (asked k.uses c) item s)
    ends_done r = step_ends ∙ ap (λ a. record { kernel = chosen j; answer = a; store = stored k (asked k.uses c) item s }) (answer_by false (ap is_blocked r))

    ends_waiting : is_blocked (task_at j.tasks k.running).place ≡ true
        → step k c item s ≡ record { kernel = chosen j; answer = says waiting 0; store = stored k (asked k.uses c) item s }
    ends_waiting r = step_ends ∙ ap (λ a. record { kernel = chosen j; answer = a; store = stored k (asked k.uses c) item s }) (answer_by true r)

-- ── 20
module _ (k : State) (e : sound k ≡ true) (item s : List ℕ) (whole : length s ≡ 9216) where
  make_row : later_row k (asked k.uses MakeGroup) (length item) (length s) ≡ (if eqb (free_object k.objects) 16 then 9 else 0)
  unfolding asked later_row table out_of_range names_none wrong_size not_for_idle not_with_hold none_free in_use not_his his_already count_full not_suspended closes_circle must_wait no_depth no_tick
  make_row = rw whole (rw (and-false (ltb 0 k.hold)))

  pub makes_group_so : MakesGroup k s (step k MakeGroup item s)
  unfolding step refusal accepted after answered stored uses_after effect asked group_made
  makes_group_so =
      record {
        makes = λ l.
            rw (e, make_row, ne_eqb (free_object k.objects) 16 (λ z. omega arith))
            (ap (λ i. record { kernel = with_uses i k.uses; answer = says made (obj_no k.uses (object (free_object k.objects))).0; store = s })
            (bits_only k (sound_says k e) (object (free_object k.objects)) (Group 0) (sym (ap holder_of (free_kind k (sound_says k e) 0 l)))));
        no_slot = λ z. rw (e, make_row, eq-eqb (free_object k.objects) 16 z);
      }

-- ── 21 to 23
module _ (k : State) (e : sound k ≡ true) (n : ObjNo) (b : ℕ) (H : HasBits k n b) (item s : List ℕ) (whole : length s ≡ 9216) where
  abbrev o : ObjSlot
  o = obj_slot k.uses n

  S : Sound k
  S = sound_says k e

  -- 21
  set_row : (m : ℕ) → m ≤ all_bits → later_row k (asked k.uses (SetBits n m)) (length item) (length s) ≡ 0
  unfolding asked later_row table out_of_range names_none wrong_size not_for_idle not_with_hold none_free in_use not_his his_already count_full not_suspended closes_circle must_wait no_depth no_tick
  set_row m few = rw (whole, le-ltb all_bits m few, H) (rw (and-false (ltb 0 k.hold)))

  -- the caller is ready still
  caller_ready : (m : ℕ) → (task_at (bits_set k o m).tasks k.running).place ≡ Ready
  unfolding bits_set
  caller_ready m = ap (λ (x : Task). x.place) (is_left o m k S k.running (ap (satisfied_on o m) S.running.runs.ready)) ∙ S.running.runs.ready

  bits_uses : (m : ℕ) → (bits_set k o m).uses ≡ k.uses
  unfolding bits_set
  bits_uses m = (then_same o m k S).uses

  set_still : (m : ℕ) → worked_out (bits_set k o (bit_or b m)) ≡ bits_set k o (bit_or b m)
  set_still m = worked_still (bits_set k o (bit_or b m)) (rw H at (events_reckoned k S o m))

  set_ends : (m : ℕ) → m ≤ all_bits → step k (SetBits n m) item s ≡ done_with (chosen (bits_set k o (bit_or b m))) (store_set k o (bit_or b m) s)
  unfolding stored effect asked uses_after
  set_ends m few =
      ends_done k e item s (SetBits n m) (bits_set k o (bit_or b m)) (set_row m few) (rw H) (set_still m) (bits_uses (bit_or b m)) refl refl (caller_ready (bit_or b m)) ∙ rw H

  -- where nobody is satisfied
  only_bits_so : (m : ℕ) → ((t : TaskSlot) → is_satisfied k o m t ≡ false) → done_with (chosen (bits_set k o m)) (store_set k o m s) ≡ done_with (with_bits k n m) s
  only_bits_so m none =
      let N = nobody_met_so k o m none in
      let r = ap chosen N.kernel ∙ runs_on k S o (Group m) (sym (ap holder_of H)) in
      λ i. done_with (r i) (N.store s i)

  pub sets_bits_so : (m : ℕ) → SetsBits k n b m s (step k (SetBits n m) item s)
  unfolding step refusal later_row table out_of_range asked
  sets_bits_so m =
      record {
        sets = set_ends m;
        only_bits = λ few none. set_ends m few ∙ only_bits_so (bit_or b m) none;
        too_high = λ l. rw (e, whole, lt-ltb all_bits m l);
      }

  -- 22
  clear_row : (m : ℕ) → m ≤ all_bits → later_row k (asked k.uses (ClearBits n m)) (length item) (length s) ≡ 0
  unfolding asked later_row table out_of_range names_none wrong_size not_for_idle not_with_hold none_free in_use not_his his_already count_full not_suspended closes_circle must_wait no_depth no_tick
  clear_row m few = rw (whole, le-ltb all_bits m few, H) (rw (and-false (ltb 0 k.hold)))

  -- the bits changed, and nothing else to be done
  with_bits_lem : (c : ℕ) → worked_out (with_bits k n c) ≡ with_bits k n c
  with_bits_lem c = worked_still (with_bits k n c) (object_reckoned k (sound_reckoned k S) o (Group c) (sym (ap holder_of H)))

  clear_ends : (m : ℕ) → m ≤ all_bits → step k (ClearBits n m) item s ≡ done_with (with_bits k n (cleared b m)) s
  unfolding stored effect asked uses_after
  clear_ends m few =
      ends_done k e item s (ClearBits n m) (with_bits k n (cleared b m)) (clear_row m few) (rw H) (with_bits_lem (cleared b m)) refl refl refl S.running.runs.ready
      ∙ ap (λ i. done_with i s) (runs_on k S o (Group (cleared b m)) (sym (ap holder_of H)))

  pub clears_bits_so : (m : ℕ) → ClearsBits k n b m s (step k (ClearBits n m) item s)
  unfolding step refusal later_row table out_of_range asked
  clears_bits_so m = record { clears = clear_ends m; too_high = λ l. rw (e, whole, lt-ltb all_bits m l) }

  -- its own bits are no change
  own_bits : with_bits k n b ≡ k
  unfolding kind_at
  own_bits =
      let q : set k.objects o.0 (record { kind = Group b }) ≡ k.objects = ap (λ x. set k.objects o.0 (record { kind = x })) (sym H) ∙ set-get_or k.objects o.0 unused in
      λ i. record { tasks = k.tasks; objects = q i; order = k.order; running = k.running; tick = k.tick; hold = k.hold; pended = k.pended; uses = k.uses }

  -- 23
  module _ (m all clear w : ℕ) where
    abbrev ask : Asked
    ask = asked k.uses (Await n m all clear w)

    busy : MayAsk k w → not_for_idle (seen k ask) ask ≡ false
    unfolding not_for_idle asked
    busy (inl z) = rw z
    busy (inr (h, i)) = rw (ne_eqb k.running.0 0 i) (and-false (not (eqb w 0)))

    unheld : MayAsk k w → not_with_hold (seen k ask) ask ≡ false
    unfolding not_with_hold asked
    unheld (inl z) = rw z (and-false (ltb 0 k.hold))
    unheld (inr (h, i)) = rw h

    module _ (A : Accepts m all clear) where
      in_range : out_of_range ask ≡ false
      unfolding out_of_range asked
      in_range = rw (le-ltb all_bits m A.few, le-ltb 1 all A.all_flag, le-ltb 1 clear A.clear_flag, ne_eqb m 0 (λ z. omega (arith, A.some)))

      await_row : MayAsk k w → later_row k ask (length item) (length s) ≡ (if must_wait (seen k ask) ask then 14 else 0)
      unfolding asked later_row table names_none wrong_size none_free in_use not_his his_already count_full not_suspended closes_circle no_depth no_tick
      await_row M = rw (whole, in_range, busy M, unheld M, H)

      -- satisfied or not
      must_wait_lem : (y : Bool) → holds_of b m (eqb all 1) ≡ y → must_wait (seen k ask) ask ≡ (not (not (eqb w 0)) && not y)
      unfolding must_wait asked
      must_wait_lem y q = rw (H, q)

      await_kernel : (y : Bool) → holds_of b m (eqb all 1) ≡ y
          → effect k ask ≡ (if y then with_bits k n (cleared b (if eqb clear 1 then m else 0)) else wait_for k o (Bits m (eqb all 1) (eqb clear 1)) w)
      unfolding effect asked awaited
      await_kernel y q = rw (H, q)

      await_store : (y : Bool) → holds_of b m (eqb all 1) ≡ y → stored k ask item s ≡ (if y then slip_bits b k.running s else s)
      unfolding stored asked store_awaited
      await_store y q = rw (H, q)

      at_once : MayAsk k w → holds_of b m (eqb all 1) ≡ true → step k (Await n m all clear w) item s ≡ done_with (with_bits k n (cleared b (if eqb clear 1 then m else 0))) (slip_bits b k.running s)
      unfolding uses_after asked
      at_once M q =
          let c = cleared b (if eqb clear 1 then m else 0) in
          let row : later_row k ask (length item) (length s) ≡ 0 = await_row M ∙ rw (must_wait_lem true q, and-false (not (not (eqb w 0)))) in
          ends_done k e item s (Await n m all clear w) (with_bits k n c) row (await_kernel true q) (with_bits_lem c) refl refl refl S.running.runs.ready
          ∙ λ i. done_with (runs_on k S o (Group c) (sym (ap holder_of H)) i) (await_store true q i)

      kept_so : MayAsk k w → holds_of b m (eqb all 1) ≡ true → clear ≡ 0 → step k (Await n m all clear w) item s ≡ done_with k (slip_bits b k.running s)
      kept_so M q z =
          let u : b - 0 ≡ b = omega arith in
          at_once M q ∙ rw (z, and_zero_r b, u) (ap (λ i. done_with i (slip_bits b k.running s)) own_bits)

      unsatisfied_so : holds_of b m (eqb all 1) ≡ false → w ≡ 0 → step k (Await n m all clear w) item s ≡ turned_away k 14 s
      unfolding step refusal
      unsatisfied_so q z = rw (e, await_row (inl z), must_wait_lem false q, eq-eqb w 0 z)

      -- a wait lends nothing
      waits_still : holds_of b m (eqb all 1) ≡ false → let j = wait_for k o (Bits m (eqb all 1) (eqb clear 1)) w in worked_out j ≡ j
      unfolding awaited
      waits_still q = worked_still (wait_for k o (Bits m (eqb all 1) (eqb clear 1)) w) (rw (H, q) at (awaited_reckoned k S o (Bits m (eqb all 1) (eqb clear 1)) w))

      waits_uses : (wait_for k o (Bits m (eqb all 1) (eqb clear 1)) w).uses ≡ k.uses
      unfolding wait_for arrives to_tail
      waits_uses = refl

      caller_waits : is_blocked (task_at (wait_for k o (Bits m (eqb all 1) (eqb clear 1)) w).tasks k.running).place ≡ true
      unfolding wait_for
      caller_waits =
          let low = ready_low k.tasks k.running S.tables.task_slots S.running.runs.ready in
          ap (λ (x : Task). is_blocked x.place) (arrives_at k k.running (Waiting (wait_on o (Bits m (eqb all 1) (eqb clear 1))) (wake_of k.tick w)) 0 (omega (arith, low, S.tables.task_slots)))

      waits_so : MayAsk k w → holds_of b m (eqb all 1) ≡ false → 0 < w → step k (Await n m all clear w) item s ≡ record { kernel = now_waiting k n m all clear w; answer = says waiting 0; store = s }
      unfolding uses_after asked
      waits_so M q l =
          let j = wait_for k o (Bits m (eqb all 1) (eqb clear 1)) w in
          ends_waiting k e item s (Await n m all clear w) j (await_row M ∙ rw (must_wait_lem false q, ne_eqb w 0 (λ z. omega arith))) (await_kernel false q) (waits_still q) waits_uses refl refl caller_waits
          ∙ λ i. record { kernel = chosen j; answer = says waiting 0; store = await_store false q i }

    of_idle_so : Accepts m all clear → 0 < w → k.running.0 ≡ 0 → step k (Await n m all clear w) item s ≡ turned_away k 7 s
    unfolding step refusal asked later_row table names_none wrong_size not_for_idle
    of_idle_so A l z = rw (e, whole, in_range A, H, z, ne_eqb w 0 (λ y. omega arith))

    with_hold_so : Accepts m all clear → 0 < w → (k.running.0 ≡ 0 → ⊥) → 0 < k.hold → step k (Await n m all clear w) item s ≡ turned_away k 8 s
    unfolding step refusal asked later_row table names_none wrong_size not_for_idle not_with_hold
    with_hold_so A l i h = rw (e, whole, in_range A, H, ne_eqb k.running.0 0 i, ne_eqb w 0 (λ y. omega arith), lt-ltb 0 k.hold h)

    out_of_range_so : OutOfRange m all clear → out_of_range ask ≡ true
    unfolding out_of_range asked
    out_of_range_so (inl l) = rw (lt-ltb all_bits m l)
    out_of_range_so (inr (inl l)) = rw (lt-ltb 1 all l) (or-true (ltb all_bits m))
    out_of_range_so (inr (inr (inl l))) = rw (lt-ltb 1 clear l, or-true (ltb 1 all)) (or-true (ltb all_bits m))
    out_of_range_so (inr (inr (inr z))) = rw (z, or-true (ltb 1 clear)) (or-true (ltb 1 all))

    refused_four : OutOfRange m all clear → step k (Await n m all clear w) item s ≡ turned_away k 4 s
    unfolding step refusal later_row table
    refused_four x = rw (e, whole, out_of_range_so x)

    pub awaits_so : AwaitsBits k n b m all clear w s (step k (Await n m all clear w) item s)
    awaits_so =
        record {
          kept_at_once = kept_so;
          cleared_at_once = λ A M q z. at_once A M q ∙ rw z;
          unsatisfied = unsatisfied_so;
          waits = waits_so;
          of_idle = of_idle_so;
          with_hold = with_hold_so;
          out_of_range = refused_four;
        }
