-- "A timeout or a broken-off wait leaves the slip as it was": while a task waits for bits, every call leaves its slip but the set that satisfies it.
use Prim.Native.Nat.{ℕ, ◌+◌, ◌%◌, ◌<◌, ◌≤◌}
use mathlib.Core.Path.{◌≡◌, refl, sym, ap, ◌∙◌}
use mathlib.Core.Logic.{inl}
use mathlib.Core.Bool.{Bool, true, false}
use mathlib.Core.List.{List, [], ◌∷◌}
use native.Mathlib.Nat.{mod-lt}
use native.Mathlib.Omega.{arith}
use lib.Dec.{eqb}
use lib.ListN.{length, length-take}
use borrow.Author.Tests.{eqb-true, eq-eqb}
use Rattle.std.proofs.Common.{if◌then◌else◌}
use Rattle.lists.specs.FourBytes.{four_bytes}
use Rattle.lists.specs.Lists.{foldl}
use Rattle.lists.proofs.Bools.{untrue}
use Rattle.calls.specs.Behind.{asked}
use Rattle.order.specs.Tidy.{count}
use Rattle.order.proofs.Passing.{one_number}
use Rattle.items.specs.Bytes.{bytes_at, put_at}
use Rattle.slots.specs.declared.Ring.{Ring}
use Rattle.slots.specs.Places.{waits_on}
use Rattle.slots.specs.Values.{task_at}
use Rattle.slots.specs.Kinds.{is_unused, kind_at}
use Rattle.slots.specs.Wants.{satisfied, want_in}
use Rattle.rows.specs.Asking.{is}
use Rattle.rules.specs.Lines.{first}
use Rattle.rules.specs.Parts.{slip_of, item_at}
use Rattle.rules.specs.Rings.{one_less}
use Rattle.rules.specs.Queues.{place_by, store_sent, store_refilled_by, store_received, store_sent_to, store_received_from}
use Rattle.rules.specs.Events.{slip_bits, woken_by, store_set, want_by, store_awaited, store_set_on, store_awaited_on}
use Rattle.rules.specs.Sentences.{MayWait, receiver, sender, taker, awaiter, RingFits, Sound}
use Rattle.rules.specs.Refusals.{later_row, refusal}
use Rattle.rules.specs.Steps.{stored, accepted, turned_away, step}
use Rattle.rules.proofs.SoundSays.{sound_says}
use Rattle.rules.proofs.SoundTables.{ring_of}
use Rattle.rules.proofs.RowPasses.{send_sized, sized}
use Rattle.rules.proofs.TableSlots.{by_kind}
use Rattle.rules.proofs.TableWithin.{place_within, first_meant, by_outlet, less_fits}
use Rattle.rules.proofs.KeepObjects.{object_low}
use Rattle.rules.proofs.KeepTaken.{one_object}
use Rattle.promises.specs.Types.{TaskSlot, ObjSlot, Want, OwnTurn, Bits, Place, Free, Ready, Delayed, Waiting, Suspended, Spent, Kind, Queue, waiters_of, Asked, Call, State}
use Rattle.promises.specs.EventGroups.{is_satisfied, SetMeets, SameSlip, SlipKept}
use Rattle.promises.proofs.SlipBytes.{bytes_aside, slips_apart}
use Rattle.promises.proofs.EventWakes.{count_woken}
use Rattle.promises.proofs.AlikeSteps.{not_refused}

-- ── what is put elsewhere
module _ (t : TaskSlot) (vs s : List ℕ) where
  -- into the slip of another
  other_slip : (u : TaskSlot) → (u.0 ≡ t.0 → ⊥) → length vs ≤ 64 → SameSlip t s (put_at (slip_of u) vs s)
  other_slip u d l = bytes_aside vs s (slip_of u) (slip_of t) _ (slips_apart u t (length vs) _ l (omega arith) d)

  -- into a queue: the slips lie behind the parts of all objects
  into_queue : (o : ObjSlot) (q : Ring) (i : ℕ) → o.0 < 16 → RingFits q → length vs ≤ q.size → SameSlip t s (put_at (item_at o q i) vs s)
  unfolding item_at
  into_queue o q i low F l =
      let p = place_within ((q.first + i) % q.capacity) q.capacity q.size (mod-lt (q.first + i) F.some) F.whole in
      bytes_aside vs s (item_at o q i) (slip_of t) _ (inl (omega (arith, p)))

-- into the slips of those of l, of whom t is none
other_slips : (b : ℕ) (t : TaskSlot) (l : List TaskSlot) (s : List ℕ) → count t.0 l ≡ 0 → SameSlip t s (foldl (λ r u. slip_bits b u r) s l)
unfolding foldl count slip_bits
other_slips b t [] s z = refl
other_slips b t (u ∷ l) s z =
    other_slips b t l (slip_bits b u s) (omega arith)
    ∙ other_slip t (four_bytes b) s u (λ e. let y = rw (eq-eqb u.0 t.0 e) at z in omega (arith, y)) (omega arith)

bytes_most : (i n : ℕ) (s : List ℕ) → length (bytes_at i n s) ≤ n
unfolding bytes_at
bytes_most i n s = rw length-take (omega arith)

-- ── who waits on a queue waits for its turn
turn_there : {t : TaskSlot} {x : Want} {y : Kind} → MayWait t x y → {q : Ring} → y ≡ Queue q → x ≡ OwnTurn
turn_there (receiver f) e = refl
turn_there (sender f) e = refl
turn_there (taker d) e = refl
turn_there (awaiter l h f) e = absurd (let z : ◌≡◌ {A = ℕ} 0 1 = cc in omega arith)

module _ (k : State) (S : Sound k) where
  wants_turn : (o : ObjSlot) (q : Ring) → kind_at k.objects o ≡ Queue q → (u : TaskSlot)
      → waits_on o (task_at k.tasks u).place ≡ true → want_in (task_at k.tasks u).place ≡ OwnTurn
  wants_turn o q kind u = go (task_at k.tasks u).place refl
    where
      go : (p : Place) → (task_at k.tasks u).place ≡ p → waits_on o p ≡ true → want_in p ≡ OwnTurn
      go Free e h = refl
      go Ready e h = refl
      go (Delayed w) e h = refl
      go (Waiting y w) e h = turn_there ((S.tables.tasks u).waits y w e) (ap (kind_at k.objects) (one_object y.object o (eqb-true y.object.0 o.0 h)) ∙ kind)
      go Suspended e h = refl
      go Spent e h = refl

  -- ── t waits for bits
  module _ (t : TaskSlot) (m : ℕ) (all clear : Bool) (wants : want_in (task_at k.tasks t).place ≡ Bits m all clear) (s : List ℕ) where
    -- so whoever waits for none is another task
    no_bits : (u : TaskSlot) → want_in (task_at k.tasks u).place ≡ OwnTurn → u.0 ≡ t.0 → ⊥
    no_bits u e z =
        let f : OwnTurn ≡ Bits m all clear = sym e ∙ ap (λ v. want_in (task_at k.tasks v).place) (one_number u t z) ∙ wants in
        let y : ◌≡◌ {A = ℕ} 0 1 = cc in
        omega arith

    not_the_caller : k.running.0 ≡ t.0 → ⊥
    not_the_caller = no_bits k.running (ap want_in S.running.runs.ready)

    -- 13 and 14
    module _ (o : ObjSlot) (q : Ring) (kind : kind_at k.objects o ≡ Queue q) where
      ring : RingFits q
      ring = ring_of (kind_at k.objects o) (S.tables.ranges o) kind

      low : o.0 < 16
      low = object_low k.objects o S.tables.object_slots (ap is_unused kind)

      send_leaves : (item : List ℕ) → length item ≡ q.size → SameSlip t s (store_sent k o q item s)
      unfolding store_sent
      send_leaves item l =
          let few : length item ≤ 64 = omega (arith, ring.small) in
          by_outlet k o q (λ x. SameSlip t s (put_at (place_by k o q x) item s))
          (λ u f. other_slip t item s u (no_bits u (wants_turn o q kind u (first_meant k (waiters_of o) u f))) few)
          (into_queue t item s o q q.count low ring (omega arith))
          (other_slip t item s k.running not_the_caller few)

      receive_leaves : SameSlip t s (store_received k o q s)
      unfolding store_received
      receive_leaves = go (eqb q.count 0) (first k (waiters_of o))
        where
          r : List ℕ
          r = put_at (slip_of k.running) (bytes_at (item_at o q 0) q.size s) s

          taken : SameSlip t s r
          taken = other_slip t (bytes_at (item_at o q 0) q.size s) s k.running not_the_caller (omega (arith, bytes_most (item_at o q 0) q.size s, ring.small))

          go : (b : Bool) (l : List TaskSlot) → SameSlip t s (if b then s else store_refilled_by o (one_less q) l r)
          go true l = refl
          go false [] = taken
          go false (u ∷ l) = into_queue t (bytes_at (slip_of u) q.size r) r o (one_less q) (one_less q).count low (less_fits q ring) (bytes_most (slip_of u) q.size r) ∙ taken

    -- 21
    set_leaves : (o : ObjSlot) (b : ℕ) → is_satisfied k o b t ≡ false → SameSlip t s (store_set k o b s)
    unfolding store_set
    set_leaves o b n = other_slips b t (woken_by k o b) s (rw n at (count_woken o b k S t))

    -- 23
    await_leaves : (b : ℕ) (x : Want) → SameSlip t s (store_awaited k b x s)
    unfolding store_awaited slip_bits
    await_leaves b x = go (satisfied b x)
      where
        go : (y : Bool) → SameSlip t s (if y then put_at (slip_of k.running) (four_bytes b) s else s)
        go true = other_slip t (four_bytes b) s k.running not_the_caller (omega arith)
        go false = refl

    -- ── any call that no row turns away
    stored_leaves : (a : Asked) (item : List ℕ) → later_row k a (length item) (length s) ≡ 0 → (SetMeets k a t → ⊥) → SameSlip t s (stored k a item s)
    unfolding stored
    stored_leaves a item row unmet = go (is 13 a) refl (is 14 a) (is 21 a) refl (is 23 a)
      where
        o : ObjSlot
        o = a.object

        x : Kind
        x = kind_at k.objects o

        go : (b : Bool) → is 13 a ≡ b → (c d : Bool) → is 21 a ≡ d → (e : Bool)
            → SameSlip t s (if b then store_sent_to k o x item s else if c then store_received_from k o x s
            else if d then store_set_on k o x a.bits s else if e then store_awaited_on k x (want_by a) s else s)
        go true n c d f e =
            by_kind x (λ y. SameSlip t s (store_sent_to k o y item s)) refl refl
            (λ q z. send_leaves o q z item (sized (length item) z (send_sized k a (length item) (length s) (eqb-true a.number 13 n) row))) (λ y h z. refl) (λ b z. refl)
        go false n true d f e = by_kind x (λ y. SameSlip t s (store_received_from k o y s)) refl refl (λ q z. receive_leaves o q z) (λ y h z. refl) (λ b z. refl)
        go false n false true f e =
            by_kind x (λ y. SameSlip t s (store_set_on k o y a.bits s)) refl refl (λ q z. refl) (λ y h z. refl)
            (λ b z. set_leaves o _ (untrue _ (λ h. unmet (record { a_set = f; bits = b; group = z; met = h }))))
        go false n false false f true = by_kind x (λ y. SameSlip t s (store_awaited_on k y (want_by a) s)) refl refl (λ q z. refl) (λ y h z. refl) (λ b z. await_leaves b (want_by a))
        go false n false false f false = refl

pub slip_kept : (k : State) (c : Call) (item s : List ℕ) → SlipKept k (asked k.uses c) s (step k c item s).store
unfolding step accepted
slip_kept k c item s t m all clear wants unmet = go (eqb no 0) refl
  where
    a : Asked
    a = asked k.uses c

    no : ℕ
    no = refusal k a (length item) (length s)

    go : (b : Bool) → eqb no 0 ≡ b → SameSlip t s (if b then accepted k a item s else turned_away k no s).store
    go true q = let free = not_refused k a (length item) (length s) (eqb-true no 0 q) in stored_leaves k (sound_says k free.0) t m all clear wants s a item free.1 unmet
    go false q = refl
