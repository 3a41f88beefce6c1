-- Send and receive keep soundness.
use Prim.Native.Nat.{ℕ, ◌<◌}
use mathlib.Core.Path.{◌≡◌, refl, sym, ap, subst}
use mathlib.Core.Bool.{Bool, true, false, not, false≢true}
use mathlib.Core.List.{List, [], ◌∷◌}
use native.Mathlib.Omega.{arith}
use lib.Dec.{eqb, ltb}
use borrow.Author.Tests.{eqb-true, eqb-false, eq-eqb, ne_eqb, ltb-true, ltb-false}
use Rattle.std.proofs.Common.{if◌then◌else◌}
use Rattle.lists.proofs.Bools.{on, not_off}
use Rattle.calls.specs.Behind.{on_object}
use Rattle.slots.specs.Places.{waits_on}
use Rattle.slots.specs.Kinds.{is_unused, is_queue, kind_at}
use Rattle.rules.specs.Types.{TaskSlot, ObjSlot, Wait, Wake, Place, Free, Ready, Delayed, Waiting, Suspended, Spent, Ring, Kind, Queue, waiters_of, to_waiter, to_queue, to_caller, State, AQueue, Want, OwnTurn}
use Rattle.slots.specs.Wants.{wait_on}
use Rattle.slots.specs.Values.{task_at}
use Rattle.rules.specs.Tables.{with_object}
use Rattle.rules.specs.Lines.{first, to_tail}
use Rattle.rules.specs.Sentences.{MayWait, receiver, sender, taker, awaiter, RingFits, a_queue, Sound}
use Rattle.rows.specs.Applies.{names_none}
use Rattle.rules.specs.Waits.{arrives, wait_for}
use Rattle.rules.specs.Rings.{one_more, one_less, room_or}
use Rattle.rules.specs.Queues.{outlet_for, outlet, sent_by, sent, sent_to, refilled_by, received, received_from}
use Rattle.rules.specs.Effects.{effect}
use Rattle.rules.proofs.RowPasses.{Passed}
use Rattle.rules.proofs.TableSlots.{by_kind}
use Rattle.rules.proofs.SoundTables.{ring_of}
use Rattle.rules.proofs.TableWithin.{less_fits, first_meant, first_within, first_single}
use Rattle.rules.proofs.KeepNearly.{settled, Nearly, RunsIn}
use Rattle.rules.proofs.KeepObject.{object_nearly}
use Rattle.rules.proofs.KeepChosen.{sound_nearly}
use Rattle.rules.proofs.KeepBlocks.{to_ready, to_wait, arrives_nearly, arrives_runs}
use Rattle.rules.proofs.Keeps.{Keeps, wait_busy, wait_free, must_wait_lem, some_wait, ready_low, apart}
use Rattle.rules.proofs.KeepObjects.{object_low, first_none, wake_ahead}

-- who waits on a queue finds it empty or full
empty_or_full : {t : TaskSlot} {y : Want} {x : Kind} → MayWait t y x → (q : Ring) → x ≡ Queue q → (0 < q.count) → q.count ≡ q.capacity
empty_or_full (receiver {q = r} e) q p h = let z : r ≡ q = cc in absurd (omega (arith, e, ap (λ (y : Ring). y.count) z))
empty_or_full (sender {q = r} e) q p h = let z : r ≡ q = cc in subst (λ (y : Ring). y.count ≡ y.capacity) z e
empty_or_full (awaiter a b c) q p h = absurd (let z : ◌≡◌ {A = ℕ} 0 1 = cc in omega arith)
empty_or_full (taker n) q p h = absurd (let z : ◌≡◌ {A = ℕ} 0 1 = cc in omega arith)

-- who waited on a queue may wait on it when it is full
still_sends : {t : TaskSlot} {y : Want} {x : Kind} → MayWait t y x → (q : Ring) → x ≡ Queue q → {r : Ring} → r.count ≡ r.capacity → MayWait t y (Queue r)
still_sends (receiver e) q p f = sender f
still_sends (sender e) q p f = sender f
still_sends (taker n) q p f = absurd (let z : ◌≡◌ {A = ℕ} 0 1 = cc in omega arith)
still_sends (awaiter a b c) q p f = absurd (let z : ◌≡◌ {A = ℕ} 0 1 = cc in omega arith)

waiting_as : (o : ObjSlot) (p : Place) → waits_on o p ≡ true → (A : Type 0) → ((x : Want) (v : Wake) → p ≡ Waiting (wait_on o x) v → A) → A
waiting_as o Free e A f = absurd (false≢true e)
waiting_as o Ready e A f = absurd (false≢true e)
waiting_as o (Delayed w) e A f = absurd (false≢true e)
waiting_as o (Waiting y w) e A f = f y.want w (λ i. Waiting (wait_on (record { 0 = eqb-true y.object.0 o.0 e i }) y.want) w)
waiting_as o Suspended e A f = absurd (false≢true e)
waiting_as o Spent e A f = absurd (false≢true e)

module _ (k : State) (S : Sound k) (o : ObjSlot) (q : Ring) (kind : kind_at k.objects o ≡ Queue q) where
  N : Nearly (settled k.tick) k
  N = sound_nearly k S

  R : RunsIn k
  R = S.running.runs

  low : o.0 < 16
  low = object_low k.objects o S.tables.object_slots (ap is_unused kind)

  caller_low : k.running.0 < 16
  caller_low = ready_low k.tasks k.running S.tables.task_slots R.ready

  ring : RingFits q
  ring = ring_of (kind_at k.objects o) (S.tables.ranges o) kind

  -- the ring changes, and no one's waiting is upset
  ring_keeps : (r : Ring) → RingFits r → ((t : TaskSlot) (x : Want) (v : Wake) → (task_at k.tasks t).place ≡ Waiting (wait_on o x) v → MayWait t x (Queue r)) → Nearly (settled k.tick) (with_object k o (Queue r))
  ring_keeps r f W =
      object_nearly k N o (Queue r) low W (a_queue f) (λ t e. absurd (let z : ◌≡◌ {A = ℕ} 0 1 = cc in omega arith))

  -- the caller waits
  caller_waits : (w : ℕ) → 0 < w → (k.running.0 ≡ 0 → ⊥) → (0 < k.hold → ⊥) → MayWait k.running OwnTurn (Queue q) → Keeps (wait_for k o OwnTurn w)
  unfolding wait_for arrives to_tail
  caller_waits w s busy no_hold m =
      record {
        nearly = arrives_nearly k N k.running caller_low (to_wait refl busy
            (λ p v e. let z : wait_on o OwnTurn ≡ p = cc in subst (λ (y : Wait). MayWait k.running y.want (kind_at k.objects y.object)) z (subst (λ (x : Kind). MayWait k.running OwnTurn x) (sym kind) m))
            (wake_ahead k.tick w (wait_on o OwnTurn) S.clock.counts.tick_range s));
        runs = λ h. absurd (no_hold h);
      }

  -- a waiter is made ready
  module _ (t : TaskSlot) (e : first k (waiters_of o) ≡ t ∷ []) where
    waiter_low : t.0 < 16
    waiter_low = omega (arith, first_within k (waiters_of o) t e, S.tables.task_slots)

    waits_here : waits_on o (task_at k.tasks t).place ≡ true
    waits_here = first_meant k (waiters_of o) t e

    not_caller : k.running.0 ≡ t.0 → ⊥
    not_caller z = apart k.tasks t k.running (waits_on o) waits_here (ap (waits_on o) R.ready) (sym z)

    waiter_keeps : Keeps (arrives k t Ready 1)
    unfolding arrives to_tail
    waiter_keeps = record { nearly = arrives_nearly k N t waiter_low (to_ready (omega arith) refl); runs = λ h. arrives_runs k N t waiter_low (to_ready (omega arith) refl) R not_caller }

    full_then : 0 < q.count → q.count ≡ q.capacity
    full_then h = waiting_as o (task_at k.tasks t).place waits_here _ (λ x v p. empty_or_full ((S.tables.tasks t).waits (wait_on o x) v p) q kind h)

    refilled_keeps : 0 < q.count → Keeps (arrives (with_object k o (Queue (one_more (one_less q)))) t Ready 1)
    unfolding arrives to_tail
    refilled_keeps h =
        let full = full_then h in
        let less = less_fits q ring in
        let M = ring_keeps (one_more (one_less q)) (record { some = ring.some; few = ring.few; small = ring.small; whole = ring.whole; starts = less.starts; counts = omega arith })
        (λ u x v p. still_sends ((S.tables.tasks u).waits (wait_on o x) v p) q kind (omega arith)) in
        record {
          nearly = arrives_nearly (with_object k o (Queue (one_more (one_less q)))) M t waiter_low (to_ready (omega arith) refl);
          runs = λ z. arrives_runs (with_object k o (Queue (one_more (one_less q)))) M t waiter_low (to_ready (omega arith) refl) R not_caller;
        }

  -- 13: send
  module _ (w : ℕ) (wait : q.count ≡ q.capacity → 0 < w) (busy : 0 < w → k.running.0 ≡ 0 → ⊥) (no_hold : 0 < w → 0 < k.hold → ⊥) where
    -- into the queue, where nobody waits; or the caller waits
    room_keeps : (q.count < q.capacity → (t : TaskSlot) (x : Want) (v : Wake) → (task_at k.tasks t).place ≡ Waiting (wait_on o x) v → ⊥) → Keeps (sent_by k o q w (room_or q))
    room_keeps none = go (ltb q.count q.capacity) refl
      where
        go : (b : Bool) → ltb q.count q.capacity ≡ b → Keeps (sent_by k o q w (if b then to_queue else to_caller))
        go true e =
            let l : q.count < q.capacity = ltb-true q.count q.capacity e in
            record {
              nearly = ring_keeps (one_more q) (record { some = ring.some; few = ring.few; small = ring.small; whole = ring.whole; starts = ring.starts; counts = omega arith })
                  (λ t x v p. absurd (none l t x v p));
              runs = λ h. R;
            }
        go false e =
            let full : q.count ≡ q.capacity = omega (arith, ltb-false q.count q.capacity e, ring.counts) in
            caller_waits w (wait full) (busy (wait full)) (no_hold (wait full)) (sender full)

    sent_keeps : Keeps (sent k o q w)
    unfolding sent outlet
    sent_keeps = go (first k (waiters_of o)) refl
      where
        told : (t : TaskSlot) → first k (waiters_of o) ≡ t ∷ [] → (b : Bool) → eqb q.count 0 ≡ b → Keeps (sent_by k o q w (if b then to_waiter t else room_or q))
        told t e true z = waiter_keeps t e
        told t e false z = room_keeps (λ l u x v p. let full = full_then t e (omega (arith, eqb-false q.count 0 z)) in omega arith)

        go : (f : List TaskSlot) → first k (waiters_of o) ≡ f → Keeps (sent_by k o q w (outlet_for q f))
        go [] e = room_keeps (λ l t x v p. first_none k N o e t x v p)
        go (t ∷ r) e = told t (first_single k (waiters_of o) t r e) (eqb q.count 0) refl

  -- 14: receive
  module _ (w : ℕ) (wait : q.count ≡ 0 → 0 < w) (busy : 0 < w → k.running.0 ≡ 0 → ⊥) (no_hold : 0 < w → 0 < k.hold → ⊥) where
    received_keeps : Keeps (received k o q w)
    unfolding received
    received_keeps = go (eqb q.count 0) refl
      where
        refill : 0 < q.count → (f : List TaskSlot) → first k (waiters_of o) ≡ f → Keeps (refilled_by k o (one_less q) f)
        refill h [] e =
            record {
              nearly = ring_keeps (one_less q) (less_fits q ring) (λ t x v p. absurd (first_none k N o e t x v p));
              runs = λ z. R;
            }
        refill h (t ∷ r) e = refilled_keeps t (first_single k (waiters_of o) t r e) h

        go : (b : Bool) → eqb q.count 0 ≡ b → Keeps (if b then wait_for k o OwnTurn w else refilled_by k o (one_less q) (first k (waiters_of o)))
        go true e = let z : q.count ≡ 0 = eqb-true q.count 0 e in caller_waits w (wait z) (busy (wait z)) (no_hold (wait z)) (receiver z)
        go false e = refill (omega (arith, eqb-false q.count 0 e)) (first k (waiters_of o)) refl

-- ── the rows of the table, at the two calls
module _ (k : State) (S : Sound k) (store : ℕ) (o : ObjSlot) (w : ℕ) where
  -- a wait other than 0
  waiting : 0 < w → not (eqb w 0) ≡ true
  waiting s = not_off (eqb w 0) (ne_eqb w 0 (λ e. omega arith))

  -- what is done with a queue, where no row turns the call away
  module _ (n : ℕ) {l : Bool} (P : Passed k (on_object n AQueue o l w) store) where
    busy : 0 < w → k.running.0 ≡ 0 → ⊥
    busy s = wait_busy k (on_object n AQueue o l w) P.idle (waiting s)

    no_hold : 0 < w → 0 < k.hold → ⊥
    no_hold s = wait_free k (on_object n AQueue o l w) P.held (waiting s)

    queue_keeps : (does : Kind → State) → ((q : Ring) → kind_at k.objects o ≡ Queue q → Keeps (does (Queue q))) → Keeps (does (kind_at k.objects o))
    unfolding names_none
    queue_keeps does f =
        by_kind (kind_at k.objects o) (λ x. is_queue x ≡ true → Keeps (does x)) (λ m. absurd (false≢true m)) (λ m. absurd (false≢true m)) (λ q e m. f q e)
        (λ s h e m. absurd (false≢true m)) (λ b e m. absurd (false≢true m))
        (on (is_queue (kind_at k.objects o)) P.named)

  module _ {l : Bool} (P : Passed k (on_object 13 AQueue o l w) store) where
    send_waits : (q : Ring) → kind_at k.objects o ≡ Queue q → q.count ≡ q.capacity → 0 < w
    send_waits q e full = some_wait (on_object 13 AQueue o l w) (must_wait_lem k (on_object 13 AQueue o l w) P.may_wait (rw (e, eq-eqb q.count q.capacity full)))

    pub send_keeps : Keeps (effect k (on_object 13 AQueue o l w))
    unfolding effect
    send_keeps = queue_keeps 13 P (λ x. sent_to k o x w) (λ q e. sent_keeps k S o q e w (send_waits q e) (busy 13 P) (no_hold 13 P))

  module _ {l : Bool} (P : Passed k (on_object 14 AQueue o l w) store) where
    receive_waits : (q : Ring) → kind_at k.objects o ≡ Queue q → q.count ≡ 0 → 0 < w
    receive_waits q e none = some_wait (on_object 14 AQueue o l w) (must_wait_lem k (on_object 14 AQueue o l w) P.may_wait (rw (e, eq-eqb q.count 0 none)))

    pub receive_keeps : Keeps (effect k (on_object 14 AQueue o l w))
    unfolding effect
    receive_keeps = queue_keeps 14 P (λ x. received_from k o x w) (λ q e. received_keeps k S o q e w (receive_waits q e) (busy 14 P) (no_hold 14 P))
