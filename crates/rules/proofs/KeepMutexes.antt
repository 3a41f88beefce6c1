-- Take and give keep soundness.
use Prim.Native.Nat.{ℕ, ◌+◌, ◌-◌, ◌<◌, ◌≤◌}
use mathlib.Core.Path.{◌≡◌, refl, sym, ap, ◌∙◌, subst}
use mathlib.Core.Bool.{Bool, true, false, false≢true}
use mathlib.Core.List.{[], ◌∷◌}
use native.Mathlib.Omega.{arith}
use lib.Dec.{eqb}
use borrow.Author.Tests.{eqb-false, eq-eqb, ne_eqb}
use Rattle.lists.proofs.Bools.{on, not_off}
use Rattle.numbers.specs.Numbers.{idle}
use Rattle.calls.specs.Behind.{on_object}
use Rattle.order.proofs.Passing.{one_number}
use Rattle.slots.specs.Places.{is_free, waits_on}
use Rattle.slots.specs.Wants.{wait_on}
use Rattle.slots.specs.Values.{task_at}
use Rattle.slots.specs.Kinds.{count_of, counting, is_unused, is_mutex, hands, held_by, is_held, kind_at}
use Rattle.rules.specs.Types.{TaskSlot, ObjSlot, Wake, Ready, Waiting, Task, Holder, Nobody, By, Sort, Ordinary, Recursive, Kind, Unused, SpentObject, Queue, Mutex, waiters_of, State, AMutex, Want, OwnTurn, Wait, Group}
use Rattle.rules.specs.Tables.{with_object}
use Rattle.rules.specs.Lines.{first, to_tail}
use Rattle.rules.specs.Sentences.{Holds, Exists, MayWait, taker, KindFits, vacant, an_ordinary, free_recursive, held_recursive, Sound}
use Rattle.rows.specs.Applies.{names_none, not_for_idle, not_his}
use Rattle.rules.specs.Waits.{wake_of, arrives, wait_for}
use Rattle.rules.specs.Effects.{effect}
use Rattle.rules.proofs.TableHolds.{held_one, held_mutex, not_again}
use Rattle.rules.proofs.MutexCases.{callers_with, by_take, by_give}
use Rattle.rules.proofs.RowPasses.{Passed, take_fits, count_fits}
use Rattle.rules.proofs.TableWithin.{first_meant, first_within, first_single}
use Rattle.rules.proofs.KeepNearly.{settled, Nearly, RunsIn}
use Rattle.rules.proofs.KeepObject.{object_nearly}
use Rattle.rules.proofs.KeepChosen.{sound_nearly}
use Rattle.rules.proofs.KeepBlocks.{to_ready, to_wait, arrives_nearly, arrives_runs, arrives_at}
use Rattle.rules.proofs.Keeps.{Keeps, wait_free, must_wait_lem, some_wait, ready_low, apart}
use Rattle.rules.proofs.KeepObjects.{no_wait_free, object_low, first_none, wake_ahead}

mutex_used : (x : Kind) → is_mutex x ≡ true → is_unused x ≡ false
mutex_used Unused e = absurd (false≢true e)
mutex_used SpentObject e = absurd (false≢true e)
mutex_used (Queue q) e = refl
mutex_used (Mutex s h) e = refl
mutex_used (Group b) e = refl

-- ── the counts
counts_fit : (s : Sort) (n : ℕ) (t : TaskSlot) → 1 ≤ n → n ≤ 255 → KindFits (Mutex (counting s n) (By t))
counts_fit Ordinary n t a b = an_ordinary
counts_fit (Recursive m) n t a b = held_recursive a b

none_fits : (s : Sort) → KindFits (Mutex (counting s 0) Nobody)
none_fits Ordinary = an_ordinary
none_fits (Recursive n) = free_recursive refl

fewer_fits : (s : Sort) (h : Holder) → 1 < count_of s → KindFits (Mutex s h) → KindFits (Mutex (counting s (count_of s - 1)) h)
fewer_fits Ordinary h m f = an_ordinary
fewer_fits (Recursive n) h m (vacant e) = absurd (false≢true e)
fewer_fits (Recursive n) Nobody m (free_recursive e) = absurd (omega arith)
fewer_fits (Recursive n) (By t) m (held_recursive a b) = held_recursive {n = n - 1} (omega arith) (omega arith)

count_most : {s : Sort} {h : Holder} → KindFits (Mutex s h) → count_of s ≤ 255
count_most (vacant e) = absurd (false≢true e)
count_most an_ordinary = omega arith
count_most (free_recursive e) = omega arith
count_most (held_recursive a b) = b

-- who waits on a mutex may wait on it whatever its count
waits_still : {t : TaskSlot} {x : Want} {s m : Sort} {h : Holder} → MayWait t x (Mutex s h) → MayWait t x (Mutex m h)
waits_still (taker d) = taker d

-- and whoever holds it next, but for the waiter itself
waits_after : {t u : TaskSlot} {x : Want} {s m : Sort} {h : Holder} → MayWait t x (Mutex s h) → (u.0 ≡ t.0 → ⊥) → MayWait t x (Mutex m (By u))
waits_after (taker d) n = taker n

module _ (k : State) (S : Sound k) (store : ℕ) where
  N : Nearly (settled k.tick) k
  N = sound_nearly k S

  R : RunsIn k
  R = S.running.runs

  caller_low : k.running.0 < 16
  caller_low = ready_low k.tasks k.running S.tables.task_slots R.ready

  -- the caller, who is not idle, begins to wait on a mutex that another holds
  pub waits_nearly : (o : ObjSlot) (w : ℕ) → 0 < w → (k.running.0 ≡ 0 → ⊥) → (s : Sort) (h : TaskSlot) → kind_at k.objects o ≡ Mutex s (By h) → (h.0 ≡ k.running.0 → ⊥)
      → Nearly (settled k.tick) (wait_for k o OwnTurn w)
  unfolding wait_for
  waits_nearly o w some busy s h e other = arrives_nearly k N k.running caller_low (to_wait refl busy may_wait (wake_ahead k.tick w (wait_on o OwnTurn) S.clock.counts.tick_range some))
    where
      may_wait : (y : Wait) (v : Wake) → Waiting (wait_on o OwnTurn) (wake_of k.tick w) ≡ Waiting y v → MayWait k.running y.want (kind_at k.objects y.object)
      may_wait p v q =
          let z : wait_on o OwnTurn ≡ p = cc in
          subst (λ (y : Wait). MayWait k.running y.want (kind_at k.objects y.object)) z (subst (λ (x : Kind). MayWait k.running OwnTurn x) (sym e) (taker other))

  -- 15: take
  module _ (o : ObjSlot) (w : ℕ) {l : Bool} (P : Passed k (on_object 15 AMutex o l w) store) where
    is_mutex_lem : is_mutex (kind_at k.objects o) ≡ true
    unfolding names_none
    is_mutex_lem = on (is_mutex (kind_at k.objects o)) P.named

    low : o.0 < 16
    low = object_low k.objects o S.tables.object_slots (mutex_used (kind_at k.objects o) is_mutex_lem)

    not_idle : k.running.0 ≡ 0 → ⊥
    unfolding not_for_idle
    not_idle = eqb-false k.running.0 0 P.idle

    -- where another holds the mutex the wait is not 0, and there is no hold
    some : {s : Sort} {h : TaskSlot} → kind_at k.objects o ≡ Mutex s (By h) → (h.0 ≡ k.running.0 → ⊥) → 0 < w
    some {s} {h} e d =
        some_wait (on_object 15 AMutex o l w) (must_wait_lem k (on_object 15 AMutex o l w) P.may_wait
        (rw (not_again k.running (kind_at k.objects o) (ap (held_by k.running) e ∙ ne_eqb h.0 k.running.0 d), e)))

    no_hold : 0 < w → 0 < k.hold → ⊥
    no_hold s = wait_free k (on_object 15 AMutex o l w) P.held (not_off (eqb w 0) (ne_eqb w 0 (λ e. omega arith)))

    -- the caller has it, with this count
    callers : (s : Sort) (n : ℕ) → 1 ≤ n → n ≤ 255
        → ((t : TaskSlot) (x : Want) (v : Wake) → (task_at k.tasks t).place ≡ Waiting (wait_on o x) v → MayWait t x (callers_with k s n)) → Keeps (with_object k o (callers_with k s n))
    callers s n a b W =
        record {
          nearly = object_nearly k N o (callers_with k s n) low W (counts_fit s n k.running a b)
              (λ t q. let u : k.running ≡ t = cc in (subst (λ v. Exists k.tasks v) u (ap is_free R.ready), subst (λ (v : TaskSlot). v.0 ≡ 0 → ⊥) u not_idle));
          runs = λ h. R;
        }

    free_taken : (s : Sort) → kind_at k.objects o ≡ Mutex s Nobody → Keeps (with_object k o (callers_with k s 1))
    free_taken s e = callers s 1 (omega arith) (omega arith) (λ t x v p. absurd (no_wait_free ((S.tables.tasks t).waits (wait_on o x) v p) is_mutex_lem (ap is_held e)))

    may_again : (s : Sort) → kind_at k.objects o ≡ Mutex s (By k.running) → count_of s < 255
    may_again s e =
        count_fits k.running s (By k.running) (eq-eqb k.running.0 k.running.0 refl) (rw e at (take_fits k (on_object 15 AMutex o l w) refl P.not_full))
        (count_most (subst KindFits e (S.tables.ranges o)))

    taken_again : (s : Sort) → kind_at k.objects o ≡ Mutex s (By k.running) → Keeps (with_object k o (callers_with k s (count_of s + 1)))
    taken_again s e = callers s (count_of s + 1) (omega arith) (omega (arith, may_again s e)) (λ t x v p. waits_still (subst (λ y. MayWait t x y) e ((S.tables.tasks t).waits (wait_on o x) v p)))

    held_waited : (s : Sort) (h : TaskSlot) → kind_at k.objects o ≡ Mutex s (By h) → (h.0 ≡ k.running.0 → ⊥) → Keeps (wait_for k o OwnTurn w)
    unfolding wait_for arrives to_tail
    held_waited s h e d =
        let wait = some e d in
        record {
          nearly = waits_nearly o w wait not_idle s h e d;
          runs = λ q. absurd (no_hold wait q);
        }

    pub take_keeps : Keeps (effect k (on_object 15 AMutex o l w))
    unfolding effect
    take_keeps = by_take k o Keeps w (λ m. record { nearly = N; runs = λ h. R }) free_taken taken_again held_waited

  -- 16: give
  module _ (o : ObjSlot) {l : Bool} (P : Passed k (on_object 16 AMutex o l 0) store) where
    his : hands (kind_at k.objects o) ≡ By k.running
    unfolding not_his
    his = held_one k.running (hands (kind_at k.objects o)) (on (held_by k.running (kind_at k.objects o)) P.his)

    give_low : o.0 < 16
    give_low =
        let m = held_mutex (kind_at k.objects o) k.running his in
        object_low k.objects o S.tables.object_slots (ap is_unused m.1)

    -- it stays its holder's, with a count that is less
    kept : (s : Sort) (h : Holder) → kind_at k.objects o ≡ Mutex s h → 1 < count_of s → Keeps (with_object k o (Mutex (counting s (count_of s - 1)) h))
    kept s h e m =
        record {
          nearly = object_nearly k N o (Mutex (counting s (count_of s - 1)) h) give_low
              (λ t x v p. waits_still (subst (λ y. MayWait t x y) e ((S.tables.tasks t).waits (wait_on o x) v p)))
              (fewer_fits s h m (subst KindFits e (S.tables.ranges o)))
              (λ t q. let z : Holds k.objects t o = ap hands e ∙ q in (S.tables.holders t o z, λ n. S.tables.idle_holds o (z ∙ ap By (one_number t idle n))));
          runs = λ q. R;
        }

    freed : (s : Sort) → first k (waiters_of o) ≡ [] → Keeps (with_object k o (Mutex (counting s 0) Nobody))
    freed s e =
        record {
          nearly = object_nearly k N o (Mutex (counting s 0) Nobody) give_low (λ t x v p. absurd (first_none k N o e t x v p)) (none_fits s)
              (λ t z. absurd (let y : ◌≡◌ {A = ℕ} 0 1 = cc in omega arith));
          runs = λ h. R;
        }

    passed_on : (s : Sort) {h : Holder} → kind_at k.objects o ≡ Mutex s h → (t : TaskSlot) → first k (waiters_of o) ≡ t ∷ [] → Keeps (with_object (arrives k t Ready 1) o (Mutex (counting s 1) (By t)))
    unfolding arrives to_tail
    passed_on s kind t e =
        record {
          nearly = object_nearly (arrives k t Ready 1) woken o (Mutex (counting s 1) (By t)) give_low others (counts_fit s 1 t (omega arith) (omega arith)) new_holder;
          runs = λ h. arrives_runs k N t low (to_ready (omega arith) refl) R not_caller;
        }
      where
        low : t.0 < 16
        low = omega (arith, first_within k (waiters_of o) t e, S.tables.task_slots)

        waits_here : waits_on o (task_at k.tasks t).place ≡ true
        waits_here = first_meant k (waiters_of o) t e

        not_caller : k.running.0 ≡ t.0 → ⊥
        not_caller z = apart k.tasks t k.running (waits_on o) waits_here (ap (waits_on o) R.ready) (sym z)

        not_idle_one : t.0 ≡ 0 → ⊥
        not_idle_one z = apart k.tasks t idle (waits_on o) waits_here (ap (waits_on o) S.tables.as_idle.ready) z

        woken : Nearly (settled k.tick) (arrives k t Ready 1)
        woken = arrives_nearly k N t low (to_ready (omega arith) refl)

        now_ready : (task_at (arrives k t Ready 1).tasks t).place ≡ Ready
        now_ready = ap (λ (x : Task). x.place) (arrives_at k t Ready 1 (omega (arith, S.tables.task_slots, low)))

        others : (v : TaskSlot) (x : Want) (w : Wake) → (task_at (arrives k t Ready 1).tasks v).place ≡ Waiting (wait_on o x) w → MayWait v x (Mutex (counting s 1) (By t))
        others v x w q =
            waits_after (subst (λ y. MayWait v x y) kind ((woken.tables.tasks v).waits (wait_on o x) w q)) (λ z.
            let p : Ready ≡ Waiting (wait_on o x) w = sym now_ready ∙ ap (λ (y : TaskSlot). (task_at (arrives k t Ready 1).tasks y).place) (one_number t v z) ∙ q in
            let y : ◌≡◌ {A = ℕ} 0 1 = cc in
            omega arith)

        new_holder : (v : TaskSlot) → By t ≡ By v → Exists (arrives k t Ready 1).tasks v × (v.0 ≡ 0 → ⊥)
        new_holder v q =
            let p : t ≡ v = cc in (
              subst (λ x. Exists (arrives k t Ready 1).tasks x) p (ap is_free now_ready),
              subst (λ (x : TaskSlot). x.0 ≡ 0 → ⊥) p not_idle_one,
            )

    pub give_keeps : Keeps (effect k (on_object 16 AMutex o l 0))
    unfolding effect
    give_keeps =
        by_give k o Keeps (λ m. record { nearly = N; runs = λ h. R }) kept (λ s h e m q. freed s q) (λ s h e m t r q. passed_on s e t (first_single k (waiters_of o) t r q))
