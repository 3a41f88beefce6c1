-- What the one order tells beyond the lines, the lists and the order of those who began is never used: every call gives alike kernels the same answer, the same store and alike kernels.
use Prim.Native.Nat.{ℕ}
use mathlib.Core.Path.{◌≡◌, refl, sym, ap, subst, ◌∙◌}
use mathlib.Core.Bool.{Bool, true, false}
use mathlib.Core.List.{List}
use native.Mathlib.Omega.{arith}
use lib.Dec.{eqb}
use lib.ListN.{length}
use borrow.Author.Tests.{eqb-true}
use Rattle.std.proofs.Common.{if◌then◌else◌}
use Rattle.numbers.specs.declared.ObjSlot.{ObjSlot}
use Rattle.calls.specs.declared.Call.{Call}
use Rattle.calls.specs.declared.Call.TheVariants.{Create, Delete, Suspend, Resume, SetPriority, Delay, Yield, Hold, Release, MakeQueue, MakeMutex, Remove, Send, Receive, Take, Give, Tick, Advance, MakeRecursive}
use Rattle.calls.specs.declared.Call.TheVariants.{MakeGroup, SetBits, ClearBits, Await}
use Rattle.calls.specs.declared.Uses.{Uses}
use Rattle.calls.specs.declared.Asked.{Asked}
use Rattle.calls.specs.Door.{last_in, task_slot, obj_slot}
use Rattle.calls.specs.Behind.{asked}
use Rattle.order.specs.declared.Order.{Order}
use Rattle.slots.specs.declared.Sort.TheVariants.{Ordinary, Recursive}
use Rattle.slots.specs.declared.Kind.{Kind}
use Rattle.slots.specs.declared.Kind.TheVariants.{Unused, Queue, Mutex, Group}
use Rattle.slots.specs.Who.{waiters_of}
use Rattle.rules.specs.State.{State}
use Rattle.slots.specs.Kinds.{kind_at}
use Rattle.rules.specs.Tables.{with_order, with_uses}
use Rattle.rules.specs.Sound.{sound}
use Rattle.items.specs.Bytes.{put_at}
use Rattle.rules.specs.Queues.{place_by, store_sent, store_received, sent_to, received_from, store_sent_to, store_received_from}
use Rattle.rules.specs.Events.{set_on, cleared_on, awaited_on, want_by}
use Rattle.rules.specs.Refusals.{later_row, refusal}
use Rattle.rules.specs.Effects.{effect}
use Rattle.rules.specs.Steps.{stored, answered, uses_after, after, accepted, turned_away, stepped_by, step}
use Rattle.rules.proofs.TableWithin.{by_outlet}
use Rattle.promises.specs.Alike.{Alike, AlikeSteps, Ordered}
use Rattle.promises.proofs.AlikeTwins.{Twins, shared, twice}
use Rattle.promises.proofs.AlikeEffects.{first_same, chosen_too, worked_too, outlet_same, created_too, deleted_too, suspended_too, resumed_too, new_priority_too, yielded_too}
use Rattle.promises.proofs.AlikeEffects.{delayed_too, queue_made_too, mutex_made_too, removed_too, ticked_too, released_too, held_too, advanced_too, sent_to_too}
use Rattle.promises.proofs.AlikeEffects.{received_from_too, taken_too, given_too}
use Rattle.promises.proofs.AlikeEvents.{group_made_too, set_too, clear_too, await_too, set_store_too, await_store_too}
use Rattle.promises.proofs.AlikeSound.{alike_sound, twins}
use Rattle.promises.proofs.AlikeRefusals.{alike_refusal, create_low, resume_low}
use Rattle.slots.specs.declared.Kind.TheVariants.{Spent as SpentObject}

-- ── alike effects, stores and answers of an accepted call
effect_too : (k j : State) (c : Call) (item store : ℕ) → later_row k (asked k.uses c) item store ≡ 0 → Twins k j → Twins (effect k (asked k.uses c)) (effect j (asked k.uses c))
unfolding effect asked
effect_too k j (Create p) item store e w = created_too p (create_low k p item store w.slots e) w
effect_too k j (Delete t) item store e w = deleted_too (task_slot k.uses t) (last_in k.uses.tasks (task_slot k.uses t).0) w
effect_too k j (Suspend t) item store e w = suspended_too (task_slot k.uses t) w
effect_too k j (Resume t) item store e w = resumed_too (task_slot k.uses t) (resume_low k (task_slot k.uses t) (last_in k.uses.tasks (task_slot k.uses t).0) item store w.slots e) w
effect_too k j (SetPriority t p) item store e w = new_priority_too (task_slot k.uses t) p w
effect_too k j (Delay n) item store e w = delayed_too n w
effect_too k j Yield item store e w = yielded_too w
effect_too k j Hold item store e w = held_too w
effect_too k j Release item store e w = released_too w
effect_too k j (MakeQueue c z) item store e w = queue_made_too c z w
effect_too k j MakeMutex item store e w = mutex_made_too Ordinary w
effect_too k j (Remove o) item store e w = removed_too (obj_slot k.uses o) (last_in k.uses.objects (obj_slot k.uses o).0) w
effect_too k j (Send o n) item store e w = twice (λ z. sent_to z (obj_slot k.uses o) (kind_at z.objects (obj_slot k.uses o)) n) w
    (λ m v. sent_to_too (obj_slot k.uses o) (kind_at k.objects (obj_slot k.uses o)) n v)
effect_too k j (Receive o n) item store e w = twice (λ z. received_from z (obj_slot k.uses o) (kind_at z.objects (obj_slot k.uses o)) n) w
    (λ m v. received_from_too (obj_slot k.uses o) (kind_at k.objects (obj_slot k.uses o)) n v)
effect_too k j (Take o n) item store e w = taken_too (obj_slot k.uses o) n w
effect_too k j (Give o) item store e w = given_too (obj_slot k.uses o) w
effect_too k j Tick item store e w = ticked_too w
effect_too k j (Advance n) item store e w = advanced_too n w
effect_too k j MakeRecursive item store e w = mutex_made_too (Recursive 0) w
effect_too k j MakeGroup item store e w = group_made_too w
effect_too k j (SetBits o b) item store e w = let p = obj_slot k.uses o in
    twice (λ z. set_on z p (kind_at z.objects p) b) w (λ m v. set_too p (kind_at k.objects p) b v)
effect_too k j (ClearBits o b) item store e w = let p = obj_slot k.uses o in
    twice (λ z. cleared_on z p (kind_at z.objects p) b) w (λ m v. clear_too p (kind_at k.objects p) b v)
effect_too k j (Await o b all clear n) item store e w = let p = obj_slot k.uses o in let y = want_by (asked k.uses (Await o b all clear n)) in
    twice (λ z. awaited_on z p (kind_at z.objects p) y n) w (λ m v. await_too p (kind_at k.objects p) y n v)

uses_too : {k j : State} {us vs : Uses} → Alike k j → us ≡ vs → Alike (with_uses k us) (with_uses j vs)
uses_too a e =
    record {
      tasks = a.tasks;
      objects = a.objects;
      running = a.running;
      tick = a.tick;
      hold = a.hold;
      pended = a.pended;
      uses = e;
      lines = a.lines;
      lists = a.lists;
      begun = a.begun;
    }

sent_store_too : (k : State) (m : Order) → Alike k (with_order k m) → (o : ObjSlot) (x : Kind) (item s : List ℕ) → store_sent_to k o x item s ≡ store_sent_to (with_order k m) o x item s
unfolding store_sent
sent_store_too k m a o Unused item s = refl
sent_store_too k m a o SpentObject item s = refl
sent_store_too k m a o (Queue q) item s = rw (← outlet_same k m a o q) (ap (λ n. put_at n item s) (by_outlet k o q (λ x. place_by k o q x ≡ place_by (with_order k m) o q x) (λ t e. refl) refl refl))
sent_store_too k m a o (Mutex x h) item s = refl
sent_store_too k m a o (Group b) item s = refl

received_store_too : (k : State) (m : Order) → Alike k (with_order k m) → (o : ObjSlot) (x : Kind) (s : List ℕ) → store_received_from k o x s ≡ store_received_from (with_order k m) o x s
unfolding store_received
received_store_too k m a o Unused s = refl
received_store_too k m a o SpentObject s = refl
received_store_too k m a o (Queue q) s = rw (← first_same k m a (waiters_of o))
received_store_too k m a o (Mutex x h) s = refl
received_store_too k m a o (Group b) s = refl

stored_too : (k j : State) (a : Asked) (item s : List ℕ) → Twins k j → stored k a item s ≡ stored j a item s
unfolding stored
stored_too k j a item s w =
    let x : Kind = kind_at k.objects a.object in
    shared (λ z. stored k a item s ≡ stored z a item s) k j w
    (λ m v.
    rw (
      sent_store_too k m v.alike a.object x item s,
      received_store_too k m v.alike a.object x s,
      set_store_too k (with_order k m) a.object x a.bits s v,
      await_store_too k m x (want_by a) s,
    ))

answered_too : {k j m n : State} (a : Asked) → Alike k j → Alike m n → answered k a m ≡ answered j a n
unfolding answered
answered_too a b c = rw (b.tasks, b.objects, b.running, b.uses, c.tasks)

accepted_too : (k j : State) (c : Call) (item s : List ℕ) → later_row k (asked k.uses c) (length item) (length s) ≡ 0 → Twins k j
    → AlikeSteps (accepted k (asked k.uses c) item s) (accepted j (asked k.uses c) item s)
unfolding accepted after
accepted_too k j c item s e w =
    let next = (chosen_too (worked_too (effect_too k j c (length item) (length s) e w))).alike in
    record {
      answer = answered_too (asked k.uses c) w.alike next;
      store = stored_too k j (asked k.uses c) item s w;
      kernel = uses_too next (ap (λ us. uses_after us (asked k.uses c)) w.alike.uses);
    }

-- ── every call
pub not_refused : (k : State) (a : Asked) (item store : ℕ) → refusal k a item store ≡ 0 → (sound k ≡ true) × (later_row k a item store ≡ 0)
unfolding refusal
not_refused k a item store h = go (sound k) refl h
  where
    go : (b : Bool) → sound k ≡ b → (if b then later_row k a item store else 1) ≡ 0 → (sound k ≡ true) × (later_row k a item store ≡ 0)
    go true e f = (e, f)
    go false e f = absurd (omega arith)

pub alike_step : (k j : State) (c : Call) (item s : List ℕ) → sound k ≡ sound j → Alike k j → AlikeSteps (step k c item s) (step j c item s)
unfolding step
alike_step k j c item s e a =
    subst (λ us. AlikeSteps (step k c item s) (stepped_by (refusal j (asked us c) (length item) (length s)) j (asked us c) item s)) a.uses
    (rw (← alike_refusal k j (asked k.uses c) (length item) (length s) e a)
    (go (refusal k (asked k.uses c) (length item) (length s)) refl (eqb (refusal k (asked k.uses c) (length item) (length s)) 0) refl))
  where
    go : (n : ℕ) → refusal k (asked k.uses c) (length item) (length s) ≡ n → (b : Bool) → eqb n 0 ≡ b
        → AlikeSteps (if b then accepted k (asked k.uses c) item s else turned_away k n s) (if b then accepted j (asked k.uses c) item s else turned_away j n s)
    go n r true h =
        let free = not_refused k (asked k.uses c) (length item) (length s) (r ∙ eqb-true n 0 h) in
        accepted_too k j c item s free.1 (twins k j free.0 (sym e ∙ free.0) a)
    go n r false h = record { answer = refl; store = refl; kernel = a }

-- the same of kernels, sound or not, in whose orders no one stands who should not
pub alike_step_ordered : (k j : State) (c : Call) (item s : List ℕ) → Ordered k → Ordered j → Alike k j → AlikeSteps (step k c item s) (step j c item s)
alike_step_ordered k j c item s p q a = alike_step k j c item s (alike_sound k j a p q) a
