-- Event groups keep soundness: calls 20 to 23. And a set leaves no waiter that its bits satisfy.
use Prim.Native.Nat.{ℕ, zero, suc, ◌+◌, ◌<◌, ◌≤◌}
use mathlib.Core.Path.{◌≡◌, refl, sym, ap, ◌∙◌, subst}
use mathlib.Core.Bool.{Bool, true, false, false≢true}
use mathlib.Core.List.{List, [], ◌∷◌}
use native.Mathlib.Omega.{arith}
use lib.Bits.{bit_or}
use lib.Dec.{eqb, ltb}
use lib.ListN.{length, set}
use borrow.Author.Tests.{eqb-true, eqb-false, eq-eqb, ltb-true, ltb-false}
use Rattle.std.proofs.Common.{if◌then◌else◌}
use Rattle.lists.specs.Lists.{up_to, is_none, kept}
use Rattle.lists.proofs.Bools.{on, not_off, or_off, or_right, untrue}
use Rattle.numbers.specs.Numbers.{task, object}
use Rattle.calls.specs.Behind.{nothing, on_group}
use Rattle.order.specs.Order.{listed}
use Rattle.order.specs.Tidy.{count}
use Rattle.order.proofs.Passing.{one_number}
use Rattle.order.proofs.CountPassing.{count_kept}
use Rattle.slots.specs.Places.{is_ready}
use Rattle.slots.specs.Kinds.{is_unused, is_group, kind_at}
use Rattle.slots.specs.Wants.{all_bits, holds_of, satisfied, cleared, clears, wait_on, satisfied_on}
use Rattle.slots.specs.Values.{placed, task_at}
use Rattle.slots.proofs.Masks.{fewer_satisfied, cleared_within, joined_within}
use Rattle.slots.proofs.Sweeps.{none_counted}
use Rattle.rules.specs.Types.{TaskSlot, ObjSlot, Want, Wait, Wake, Ready, Waiting, Task, Kind, Group, those_satisfied_on, Asked, State}
use Rattle.rules.specs.Tables.{free_object, with_object}
use Rattle.rules.specs.Lines.{those, first, to_tail}
use Rattle.rules.specs.Sentences.{MayWait, receiver, sender, taker, awaiter, a_group, Sound}
use Rattle.rows.specs.Asking.{waits}
use Rattle.rows.specs.Applies.{out_of_range, names_none, none_free, is_unmet}
use Rattle.rules.specs.Waits.{arrives, wait_for}
use Rattle.rules.specs.Events.{group_made, and_on, woken_in, woken_by, all_woken, bits_set, want_by}
use Rattle.rules.specs.Effects.{effect}
use Rattle.rules.proofs.TableSlots.{past_tasks, passes_blocked}
use Rattle.rules.proofs.SoundLists.{once_of}
use Rattle.rules.proofs.LineLeads.{leader_none}
use Rattle.rules.proofs.RowPasses.{Passed}
use Rattle.rules.proofs.SoundTables.{bits_of}
use Rattle.rules.proofs.TableWithin.{first_meant, first_within, first_single}
use Rattle.rules.proofs.EventCases.{none_woken, one_woken, by_woken, by_set, by_clear, by_await}
use Rattle.rules.proofs.KeepNearly.{Open, settled, Nearly, RunsIn}
use Rattle.rules.proofs.KeepSlot.{at_same, at_other}
use Rattle.rules.proofs.KeepObject.{object_nearly}
use Rattle.rules.proofs.KeepChosen.{sound_nearly}
use Rattle.rules.proofs.KeepBlocks.{to_ready, to_wait, arrives_nearly, arrives_runs, Same, same_trans, arrives_same}
use Rattle.rules.proofs.Keeps.{Keeps, wait_busy, wait_free, must_wait_lem, some_wait, ready_low, apart}
use Rattle.rules.proofs.KeepObjects.{none_there, new_object, free_low, free_kind, object_low, wake_ahead}

-- ── who waits on a group
-- whoever waited on it may wait on it with other bits, if they do not satisfy it
pub still_awaits : {t : TaskSlot} {x : Want} {y : Kind} → MayWait t x y → {b : ℕ} → y ≡ Group b → {c : ℕ} → (satisfied b x ≡ false → satisfied c x ≡ false) → MayWait t x (Group c)
still_awaits (receiver e) q f = absurd (let z : ◌≡◌ {A = ℕ} 0 1 = cc in omega arith)
still_awaits (sender e) q f = absurd (let z : ◌≡◌ {A = ℕ} 0 1 = cc in omega arith)
still_awaits (taker n) q f = absurd (let z : ◌≡◌ {A = ℕ} 0 1 = cc in omega arith)
still_awaits (awaiter {b = a} {m = m} {all = all} l h e) {b} q f = let z : a ≡ b = cc in awaiter l h (f (subst (λ (n : ℕ). holds_of n m all ≡ false) z e))

-- ── how many the bits satisfy
module _ (o : ObjSlot) (b : ℕ) where
  abbrev met : List Task → ℕ → Bool
  met ts i = satisfied_on o b (task_at ts (task i)).place

  abbrev many : ℕ → List Task → ℕ
  many n ts = up_to (λ m i. m + (if met ts i then 1 else 0)) n 0

  many_most : (n : ℕ) (ts : List Task) → many n ts ≤ n
  unfolding up_to
  many_most zero ts = omega arith
  many_most (suc n) ts = go (met ts n) (many_most n ts)
    where
      go : (y : Bool) → many n ts ≤ n → many n ts + (if y then 1 else 0) ≤ suc n
      go true h = omega arith
      go false h = omega arith

  -- one fewer, where t alone is not satisfied any more
  module _ (ts us : List Task) (t : TaskSlot) (was : satisfied_on o b (task_at ts t).place ≡ true) (is : satisfied_on o b (task_at us t).place ≡ false)
      (others : (u : TaskSlot) → (u.0 ≡ t.0 → ⊥) → task_at us u ≡ task_at ts u) where
    same : (n : ℕ) → (n ≡ t.0 → ⊥) → met us n ≡ met ts n
    same n d = ap (λ (x : Task). satisfied_on o b x.place) (others (task n) d)

    as_many : (n : ℕ) → n ≤ t.0 → many n us ≡ many n ts
    unfolding up_to
    as_many zero l = refl
    as_many (suc n) l = rw (same n (λ e. omega arith), as_many n (omega arith))

    one_fewer : (n : ℕ) → t.0 < n → suc (many n us) ≡ many n ts
    unfolding up_to
    one_fewer zero l = absurd (omega arith)
    one_fewer (suc n) l = go (eqb n t.0) refl (one_fewer n)
      where
        here : task n ≡ t → (met us n ≡ false) × (met ts n ≡ true)
        here e = (ap (λ (u : TaskSlot). satisfied_on o b (task_at us u).place) e ∙ is, ap (λ (u : TaskSlot). satisfied_on o b (task_at ts u).place) e ∙ was)

        go : (y : Bool) → eqb n t.0 ≡ y → (t.0 < n → suc (many n us) ≡ many n ts) → suc (many n us + (if met us n then 1 else 0)) ≡ many n ts + (if met ts n then 1 else 0)
        go true q ih =
            let z = here (one_number (task n) t (eqb-true n t.0 q)) in
            let e = as_many n (omega (arith, eqb-true n t.0 q)) in
            rw (z.0, z.1, e) (omega arith)
        go false q ih =
            let d = eqb-false n t.0 q in
            let e = ih (omega (arith, d)) in
            rw (same n d) (omega (arith, e))

-- ── the wakes of a set: b are the joined bits
module _ (o : ObjSlot) (b : ℕ) where
  -- nobody that the bits satisfy
  abbrev pub NoneMet : State → Type 0
  NoneMet k = (t : TaskSlot) → satisfied_on o b (task_at k.tasks t).place ≡ false

  -- where the first of them is nobody there is none: each of them stands in the order
  first_none_met : {w : Open} (k : State) → Nearly w k → first k (those_satisfied_on o b) ≡ [] → NoneMet k
  unfolding first those
  first_none_met k N e t = untrue (satisfied_on o b (task_at k.tasks t).place) (λ m. none_there (kept met_at (listed k.order)) t.0 empty (listed_once m))
    where
      met_at : TaskSlot → Bool
      met_at u = satisfied_on o b (task_at k.tasks u).place

      empty : is_none (kept met_at (listed k.order)) ≡ true
      empty = sym (leader_none k.tasks (kept met_at (listed k.order))) ∙ ap is_none e

      listed_once : met_at t ≡ true → count t.0 (kept met_at (listed k.order)) ≡ 1
      listed_once m =
          let blocked = passes_blocked (satisfied_on o b) (task_at k.tasks t).place refl refl refl refl m in
          count_kept met_at t.0 (listed k.order)
          ∙ rw m (once_of k.tasks k.order N.listing t ∙ rw (or_right (is_ready (task_at k.tasks t).place) _ blocked))

  -- none is counted
  nobody_met : (k : State) → length k.tasks ≡ 16 → many o b 16 k.tasks ≡ 0 → NoneMet k
  nobody_met k full e t = go (ltb t.0 16) refl
    where
      go : (y : Bool) → ltb t.0 16 ≡ y → satisfied_on o b (task_at k.tasks t).place ≡ false
      go true q = none_counted (λ i. satisfied_on o b (task_at k.tasks (task i)).place) 16 e t.0 (ltb-true t.0 16 q)
      go false q = let past : length k.tasks ≤ t.0 = omega (arith, ltb-false t.0 16 q) in ap (λ (x : Task). satisfied_on o b x.place) (past_tasks k.tasks t past)

  -- each wake leaves one fewer
  one_woken_less : (k : State) (t : TaskSlot) → length k.tasks ≡ 16 → first k (those_satisfied_on o b) ≡ t ∷ [] → suc (many o b 16 (arrives k t Ready 1).tasks) ≡ many o b 16 k.tasks
  unfolding arrives to_tail
  one_woken_less k t full e =
      let low = first_within k (those_satisfied_on o b) t e in
      let x = placed (task_at k.tasks t) Ready 1 in
      one_fewer o b k.tasks (set k.tasks t.0 x) t (first_meant k (those_satisfied_on o b) t e) (ap (λ (y : Task). satisfied_on o b y.place) (at_same k.tasks t x low))
      (at_other k.tasks t x) 16 (omega (arith, low))

  -- on the way
  pub record Waking (k j : State) : Type 0 where
    pub nearly : Nearly (settled k.tick) j
    pub runs : RunsIn j
    pub same : Same j k

  module _ (k : State) where
    wakes_one : (j : State) (t : TaskSlot) → Waking k j → first j (those_satisfied_on o b) ≡ t ∷ [] → Waking k (arrives j t Ready 1)
    wakes_one j t W e =
        record {
          nearly = arrives_nearly j W.nearly t low (to_ready (omega arith) refl);
          runs = arrives_runs j W.nearly t low (to_ready (omega arith) refl) W.runs not_caller;
          same = same_trans (arrives_same j t Ready 1) W.same;
        }
      where
        low : t.0 < 16
        low = omega (arith, first_within j (those_satisfied_on o b) t e, W.nearly.tables.task_slots)

        not_caller : j.running.0 ≡ t.0 → ⊥
        not_caller z = apart j.tasks t j.running (satisfied_on o b) (first_meant j (those_satisfied_on o b) t e) (ap (satisfied_on o b) W.runs.ready) (sym z)

    pub wakes_all : (n : ℕ) → Waking k k → Waking k (all_woken k (woken_in n k o b))
    wakes_all n W = by_woken o b (Waking k) wakes_one n k W

    -- enough of them leave none that the bits satisfy
    pub none_left : (n : ℕ) (j : State) → Waking k j → many o b 16 j.tasks ≤ n → NoneMet (all_woken j (woken_in n j o b))
    unfolding woken_in
    none_left zero j W l = rw (none_woken j) (nobody_met j W.nearly.tables.task_slots (omega arith))
    none_left (suc n) j W l = go (first j (those_satisfied_on o b)) refl (λ t e. none_left n (arrives j t Ready 1) (wakes_one j t W e) (fewer_then t e))
      where
        fewer_then : (t : TaskSlot) → first j (those_satisfied_on o b) ≡ t ∷ [] → many o b 16 (arrives j t Ready 1).tasks ≤ n
        fewer_then t e = let z = one_woken_less j t W.nearly.tables.task_slots e in omega (arith, z)

        go : (f : List TaskSlot) → first j (those_satisfied_on o b) ≡ f
            → ((t : TaskSlot) → first j (those_satisfied_on o b) ≡ t ∷ [] → NoneMet (all_woken (arrives j t Ready 1) (woken_in n (arrives j t Ready 1) o b)))
            → NoneMet (all_woken j (and_on f (λ t. woken_in n (arrives j t Ready 1) o b)))
        go [] e on = rw (none_woken j) (first_none_met j W.nearly e)
        go (t ∷ f) e on = rw (one_woken j t (woken_in n (arrives j t Ready 1) o b)) (on t (first_single j (those_satisfied_on o b) t f e))

    pub all_woken_lem : Waking k k → NoneMet (all_woken k (woken_by k o b))
    unfolding woken_by
    all_woken_lem W = none_left 16 k W (many_most o b 16 k.tasks)

-- ── a group with other bits
module _ (k : State) (S : Sound k) (o : ObjSlot) (b : ℕ) (kind : kind_at k.objects o ≡ Group b) where
  N : Nearly (settled k.tick) k
  N = sound_nearly k S

  low : o.0 < 16
  low = object_low k.objects o S.tables.object_slots (ap is_unused kind)

  pub within : b ≤ all_bits
  within = bits_of (kind_at k.objects o) (S.tables.ranges o) kind

  pub awake : Waking o b k k
  awake = record { nearly = N; runs = S.running.runs; same = record { tick = refl; hold = refl; pended = refl; running = refl; objects = refl; uses = refl } }

  -- fewer bits satisfy nobody more
  less_keeps : (m : ℕ) → Keeps (with_object k o (Group (cleared b m)))
  less_keeps m =
      record {
        nearly = object_nearly k N o (Group (cleared b m)) low (λ t x v p. still_awaits ((S.tables.tasks t).waits (wait_on o x) v p) kind (fewer_satisfied b m x))
            (a_group (cleared_within b m within)) (λ t e. absurd (let z : ◌≡◌ {A = ℕ} 0 1 = cc in omega arith));
        runs = λ h. S.running.runs;
      }

  -- 21: set
  module _ (j : ℕ) (few : j ≤ all_bits) where
    abbrev i : State
    i = all_woken k (woken_by k o j)

    going : Waking o j k i
    unfolding woken_by
    going = wakes_all o j k 16 (record { nearly = N; runs = S.running.runs; same = awake.same })

    unmet : NoneMet o j i
    unmet = all_woken_lem o j k (record { nearly = N; runs = S.running.runs; same = awake.same })

    -- who waits on there still may go on
    waits_on : (c : ℕ) (t : TaskSlot) (x : Want) (v : Wake) → (task_at i.tasks t).place ≡ Waiting (wait_on o x) v → MayWait t x (Group (cleared j c))
    waits_on c t x v p =
        still_awaits ((going.nearly.tables.tasks t).waits (wait_on o x) v p) (ap (λ os. kind_at os o) going.same.objects ∙ kind)
        (λ e. fewer_satisfied j c x (rw (p, eq-eqb o.0 o.0 refl) at (unmet t)))

    set_nearly : Nearly (settled k.tick) (bits_set k o j)
    unfolding bits_set
    set_nearly =
        object_nearly i going.nearly o (Group _) low (waits_on _) (a_group (cleared_within j _ few)) (λ t e. absurd (let z : ◌≡◌ {A = ℕ} 0 1 = cc in omega arith))

    bits_keep : Keeps (bits_set k o j)
    unfolding bits_set
    bits_keep = record { nearly = subst (λ (n : ℕ). Nearly (settled n) (bits_set k o j)) (sym going.same.tick) set_nearly; runs = λ h. going.runs }

  -- 23: wait
  module _ (x : Want) (w : ℕ) (some : 0 < w) (busy : k.running.0 ≡ 0 → ⊥) (no_hold : 0 < k.hold → ⊥) where
    awaits_keep : MayWait k.running x (Group b) → Keeps (wait_for k o x w)
    unfolding wait_for arrives to_tail
    awaits_keep m =
        record {
          nearly = arrives_nearly k N k.running (ready_low k.tasks k.running S.tables.task_slots S.running.runs.ready) (to_wait refl busy
              (λ y v e. let z : wait_on o x ≡ y = cc in subst (λ (y : Wait). MayWait k.running y.want (kind_at k.objects y.object)) z (subst (λ (q : Kind). MayWait k.running x q) (sym kind) m))
              (wake_ahead k.tick w (wait_on o x) S.clock.counts.tick_range some));
          runs = λ h. absurd (no_hold h);
        }

-- ── the rows of the table, at the four calls
module _ (k : State) (S : Sound k) (store : ℕ) where
  pub make_keeps : Passed k (nothing 20 0 0 1 0) store → Keeps (effect k (nothing 20 0 0 1 0))
  unfolding effect group_made none_free
  make_keeps P = let l = free_low k S store P.slot in new_object k S store (object (free_object k.objects)) (Group 0) l (free_kind k S store l) (a_group (omega arith)) refl

  -- what is named is a group
  no_group : (n : ℕ) (o : ObjSlot) {l : Bool} (m a c w : ℕ) → Passed k (on_group n o l m a c w) store → is_group (kind_at k.objects o) ≡ false → {A : Type 0} → A
  unfolding names_none
  no_group n o m a c w P e = absurd (false≢true (sym e ∙ on (is_group (kind_at k.objects o)) P.named))

  pub set_keeps : (o : ObjSlot) {l : Bool} (m : ℕ) → Passed k (on_group 21 o l m 0 0 0) store → Keeps (effect k (on_group 21 o l m 0 0 0))
  unfolding effect out_of_range
  set_keeps o m P =
      by_set k o Keeps (λ e. no_group 21 o m 0 0 0 P e) m
      (λ b e. bits_keep k S o b e (bit_or b m) (joined_within b m (within k S o b e) (ltb-false all_bits m (or_off (ltb all_bits m) _ P.in_range).0)))

  pub clear_keeps : (o : ObjSlot) {l : Bool} (m : ℕ) → Passed k (on_group 22 o l m 0 0 0) store → Keeps (effect k (on_group 22 o l m 0 0 0))
  unfolding effect
  clear_keeps o m P = by_clear k o Keeps (λ e. no_group 22 o m 0 0 0 P e) m (λ b e. less_keeps k S o b e m)

  module _ (o : ObjSlot) {l : Bool} (m a c w : ℕ) (P : Passed k (on_group 23 o l m a c w) store) where
    abbrev ask : Asked
    ask = on_group 23 o l m a c w

    mask : (1 ≤ m) × (m ≤ all_bits)
    unfolding out_of_range
    mask =
        let d = or_off (ltb all_bits m) _ P.in_range in
        let e = or_off (ltb 1 c) _ (or_off (ltb 1 a) _ d.1).1 in
        (omega (arith, eqb-false m 0 e.1), ltb-false all_bits m d.0)

    -- unsatisfied, it has a wait
    has_wait : (b : ℕ) → kind_at k.objects o ≡ Group b → satisfied b (want_by ask) ≡ false → waits ask ≡ true
    has_wait b e q = must_wait_lem k ask P.may_wait (ap (is_unmet ask) e ∙ not_off (holds_of b m (eqb a 1)) q)

    pub await_keeps : Keeps (effect k (on_group 23 o l m a c w))
    unfolding effect
    await_keeps =
        by_await k o Keeps (λ e. no_group 23 o m a c w P e) (want_by ask) w (λ b e q. less_keeps k S o b e (clears (want_by ask)))
        (λ b e q. let y = has_wait b e q in
        awaits_keep k S o b e (want_by ask) w (some_wait ask y) (wait_busy k ask P.idle y) (wait_free k ask P.held y) (awaiter mask.0 mask.1 q))
