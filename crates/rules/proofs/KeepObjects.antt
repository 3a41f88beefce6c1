-- Calls 10 to 12 and 19 keep soundness: make queue, make mutex, remove, make recursive mutex. What they share with send, receive, take and give.
use Prim.Native.Nat.{ℕ, ◌*◌, ◌<◌, ◌≤◌}
use mathlib.Core.Path.{◌≡◌, refl, sym, ap, ◌∙◌}
use mathlib.Core.Bool.{Bool, true, false, false≢true}
use mathlib.Core.List.{List, [], ◌∷◌}
use native.Mathlib.Omega.{arith}
use lib.Dec.{eqb, ltb, leb}
use lib.ListN.{length}
use borrow.Author.Tests.{eqb-false, eq-eqb, ltb-true, ltb-false, leb-false}
use Rattle.std.proofs.Common.{if◌then◌else◌}
use Rattle.lists.specs.Lists.{is_none}
use Rattle.lists.proofs.Bools.{on, or_off}
use Rattle.numbers.specs.Numbers.{object, idle}
use Rattle.calls.specs.Behind.{nothing, on_object}
use Rattle.order.specs.Order.{listed}
use Rattle.order.specs.Tidy.{count}
use Rattle.slots.specs.Kinds.{unused, is_unused, takes_object, is_mutex, is_taken, is_held, kind_at}
use Rattle.rules.specs.Types.{TaskSlot, ObjSlot, Wake, Never, At, Waiting, Ring, Holder, Nobody, By, Sort, Ordinary, Recursive, Kind, Unused, SpentObject, Queue, Mutex, Object, waiters_of, State, AnObject, Want, Wait, Group}
use Rattle.slots.specs.Wants.{wait_on}
use Rattle.slots.specs.Values.{task_at}
use Rattle.rules.specs.Tables.{free_object, with_object}
use Rattle.rules.specs.Lines.{those, first}
use Rattle.rules.specs.Sentences.{MayWait, receiver, sender, taker, awaiter, RingFits, KindFits, vacant, a_queue, an_ordinary, free_recursive, Sound}
use Rattle.rows.specs.Applies.{out_of_range, names_none, none_free}
use Rattle.rules.specs.Refusals.{held_or_waited, in_use}
use Rattle.rules.specs.Waits.{later, wake_of}
use Rattle.rules.specs.Effects.{queue_made, mutex_made, removed, effect}
use Rattle.rules.proofs.TableSlots.{past_objects}
use Rattle.rules.proofs.LineLeads.{leader_none}
use Rattle.rules.proofs.RowPasses.{Passed}
use Rattle.rules.proofs.KeepNearly.{Open, settled, Nearly, RunsIn}
use Rattle.rules.proofs.KeepObject.{object_nearly}
use Rattle.rules.proofs.KeepChosen.{sound_nearly}
use Rattle.rules.proofs.Keeps.{Keeps, index_most, index_passes}
use Rattle.rules.proofs.KeepTasks.{later_ahead}

-- ── what nobody waits on or holds
pub no_wait : {t : TaskSlot} {y : Want} {x : Kind} → MayWait t y x → x ≡ Unused → ⊥
no_wait (receiver e) q = let z : ◌≡◌ {A = ℕ} 0 1 = cc in omega arith
no_wait (sender e) q = let z : ◌≡◌ {A = ℕ} 0 1 = cc in omega arith
no_wait (awaiter a b c) q = let z : ◌≡◌ {A = ℕ} 0 1 = cc in omega arith
no_wait (taker n) q = let z : ◌≡◌ {A = ℕ} 0 1 = cc in omega arith

pub no_wait_free : {t : TaskSlot} {y : Want} {x : Kind} → MayWait t y x → is_mutex x ≡ true → is_held x ≡ false → ⊥
no_wait_free (receiver e) m f = false≢true m
no_wait_free (sender e) m f = false≢true m
no_wait_free (awaiter a b c) m f = false≢true m
no_wait_free (taker n) m f = false≢true (sym f)

is_unused_lem : (x : Kind) → takes_object x ≡ true → x ≡ Unused
is_unused_lem Unused e = refl
is_unused_lem SpentObject e = absurd (false≢true e)
is_unused_lem (Queue q) e = absurd (false≢true e)
is_unused_lem (Mutex s h) e = absurd (false≢true e)
is_unused_lem (Group b) e = absurd (false≢true e)

pub not_by : {h : Holder} {t : TaskSlot} → is_taken h ≡ false → h ≡ By t → ⊥
not_by a e = false≢true (sym a ∙ ap is_taken e)

unused_unheld : (x : Kind) → is_unused x ≡ true → is_held x ≡ false
unused_unheld Unused e = refl
unused_unheld SpentObject e = refl
unused_unheld (Queue q) e = refl
unused_unheld (Mutex s h) e = absurd (false≢true e)
unused_unheld (Group b) e = refl

pub object_low : (os : List Object) (o : ObjSlot) → length os ≡ 16 → is_unused (kind_at os o) ≡ false → o.0 < 16
object_low os o l e = go (ltb o.0 16) refl
  where
    go : (b : Bool) → ltb o.0 16 ≡ b → o.0 < 16
    go true q = ltb-true o.0 16 q
    go false q = let past : length os ≤ o.0 = omega (arith, ltb-false o.0 16 q) in absurd (false≢true (sym e ∙ ap is_unused (past_objects os o past)))

-- nobody waits on an object that lists nobody
pub none_there : (l : List TaskSlot) (n : ℕ) → is_none l ≡ true → count n l ≡ 1 → ⊥
unfolding count
none_there [] n e c = omega arith
none_there (t ∷ l) n e c = false≢true e

pub nobody_waits : {w : Open} (k : State) → Nearly w k → (o : ObjSlot) → is_none (those k.tasks (waiters_of o) (listed k.order)) ≡ true
    → (t : TaskSlot) (x : Want) (v : Wake) → (task_at k.tasks t).place ≡ Waiting (wait_on o x) v → ⊥
nobody_waits k N o e t x v q = none_there (those k.tasks (waiters_of o) (listed k.order)) t.0 e (N.listing.lists o t ∙ rw (q, eq-eqb o.0 o.0 refl))

pub first_none : {w : Open} (k : State) → Nearly w k → (o : ObjSlot) → first k (waiters_of o) ≡ [] → (t : TaskSlot) (x : Want) (v : Wake) → (task_at k.tasks t).place ≡ Waiting (wait_on o x) v → ⊥
unfolding first
first_none k N o e t x v q = nobody_waits k N o (sym (leader_none k.tasks (those k.tasks (waiters_of o) (listed k.order))) ∙ ap is_none e) t x v q

-- ── the caller waits: its wake tick is ahead
pub wake_ahead : (tick w : ℕ) (y : Wait) → tick ≤ 4294967295 → 0 < w → settled tick idle (Waiting y (wake_of tick w)) ≡ true
wake_ahead tick w y h s = go (leb 4294967295 w) refl
  where
    go : (b : Bool) → leb 4294967295 w ≡ b → settled tick idle (Waiting y (if b then Never else At (later tick w))) ≡ true
    go true e = refl
    go false e = later_ahead tick w h s (omega (arith, leb-false 4294967295 w e))

module _ (k : State) (S : Sound k) (store : ℕ) where
  N : Nearly (settled k.tick) k
  N = sound_nearly k S

  R : RunsIn k
  R = S.running.runs

  -- an object that was free becomes one that nobody holds
  pub new_object : (o : ObjSlot) (y : Kind) → o.0 < 16 → kind_at k.objects o ≡ Unused → KindFits y → is_held y ≡ false → Keeps (with_object k o y)
  new_object o y low e F H =
      record {
        nearly = object_nearly k N o y low (λ t x v p. absurd (no_wait ((S.tables.tasks t).waits (wait_on o x) v p) e)) F (λ t q. absurd (not_by H q));
        runs = λ h. R;
      }

  pub free_low : eqb (free_object k.objects) 16 ≡ false → free_object k.objects < 16
  unfolding free_object
  free_low e = omega (arith, index_most (λ (x : Object). takes_object x.kind) unused k.objects, eqb-false (free_object k.objects) 16 e, S.tables.object_slots)

  pub free_kind : free_object k.objects < 16 → kind_at k.objects (object (free_object k.objects)) ≡ Unused
  unfolding free_object kind_at
  free_kind h = is_unused_lem _ (index_passes (λ (x : Object). takes_object x.kind) unused k.objects (omega (arith, S.tables.object_slots)))

  -- 10: make queue
  module _ (c z : ℕ) (P : Passed k (nothing 10 0 0 c z) store) where
    abbrev ring : Ring
    ring = record { capacity = c; size = z; first = 0; count = 0 }

    fits : RingFits ring
    unfolding out_of_range
    fits =
        let a = or_off (ltb c 1) _ P.in_range in
        let b = or_off (ltb 64 c) _ a.1 in
        let d = or_off (ltb 64 z) _ b.1 in
        record {
          some = ltb-false c 1 a.0;
          few = ltb-false 64 c b.0;
          small = ltb-false 64 z d.0;
          whole = ltb-false 512 (c * z) (or_off (ltb 512 (c * z)) _ d.1).0;
          starts = omega (arith, ltb-false c 1 a.0);
          counts = omega arith;
        }

    has_room : free_object k.objects < 16
    unfolding none_free
    has_room = free_low P.slot

    pub queue_keeps : Keeps (effect k (nothing 10 0 0 c z))
    unfolding effect queue_made
    queue_keeps = new_object (object (free_object k.objects)) (Queue ring) has_room (free_kind has_room) (a_queue fits) refl

  -- 11 and 19: make mutex, make recursive mutex
  made_keeps : (s : Sort) → KindFits (Mutex s Nobody) → eqb (free_object k.objects) 16 ≡ false → Keeps (mutex_made k s)
  unfolding mutex_made
  made_keeps s f e = new_object (object (free_object k.objects)) (Mutex s Nobody) (free_low e) (free_kind (free_low e)) f refl

  pub mutex_keeps : Passed k (nothing 11 0 0 1 0) store → Keeps (effect k (nothing 11 0 0 1 0))
  unfolding effect none_free
  mutex_keeps P = made_keeps Ordinary an_ordinary P.slot

  pub recursive_keeps : Passed k (nothing 19 0 0 1 0) store → Keeps (effect k (nothing 19 0 0 1 0))
  unfolding effect none_free
  recursive_keeps P = made_keeps (Recursive 0) (free_recursive refl) P.slot

  -- 12: remove
  module _ (o : ObjSlot) {l : Bool} (P : Passed k (on_object 12 AnObject o l 0) store) where
    named : is_unused (kind_at k.objects o) ≡ false
    unfolding names_none
    named = P.named

    unheld : is_held (kind_at k.objects o) ≡ false
    unfolding in_use held_or_waited
    unheld = (or_off (is_held (kind_at k.objects o)) _ P.unused).0

    unwaited : is_none (those k.tasks (waiters_of o) (listed k.order)) ≡ true
    unfolding in_use held_or_waited
    unwaited = on _ (or_off (is_held (kind_at k.objects o)) _ P.unused).1

    -- unused, or spent
    pub remove_keeps : Keeps (effect k (on_object 12 AnObject o l 0))
    unfolding effect removed
    remove_keeps = go l
      where
        nothing_there : (y : Kind) → is_unused y ≡ true → Keeps (with_object k o y)
        nothing_there y u =
            record {
              nearly =
                  object_nearly k N o y (object_low k.objects o S.tables.object_slots named) (λ t x v p. absurd (nobody_waits k N o unwaited t x v p))
                  (vacant u)
                  (λ t e. absurd (not_by (unused_unheld y u) e));
              runs = λ h. R;
            }

        go : (b : Bool) → Keeps (with_object k o (if b then SpentObject else Unused))
        go true = nothing_there SpentObject refl
        go false = nothing_there Unused refl
