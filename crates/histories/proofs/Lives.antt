-- What a step of a sound kernel does to a slot: it stays, is taken, or is given up. So the life of a slot, twice its use and one more while it is taken, never goes back.
use Prim.Native.Nat.{ℕ, zero, suc, ◌+◌, ◌*◌, ◌/◌, ◌%◌, ◌<◌, ◌≤◌}
use mathlib.Core.Path.{◌≡◌, refl, sym, ap, ◌∙◌}
use mathlib.Core.Bool.{Bool, true, false, ◌&&◌, false≢true}
use mathlib.Core.List.{List}
use native.Mathlib.Omega.{arith}
use lib.Dec.{eqb}
use lib.ListN.{set}
use lib.Seq.{get_or-set_same}
use borrow.Author.Tests.{eqb-true, eqb-false, eq-eqb}
use Rattle.std.proofs.Common.{if◌then◌else◌}
use Rattle.numbers.specs.Numbers.{task, object}
use Rattle.calls.specs.declared.Uses.{Uses}
use Rattle.calls.specs.declared.Asked.{Asked}
use Rattle.calls.specs.Door.{use_in, number_in, slot_in, last_in, next_use, given_up, task_slot, obj_slot}
use Rattle.calls.specs.Behind.{asked}
use Rattle.slots.specs.Places.{is_free, takes_task}
use Rattle.slots.specs.Values.{free_task, spent_task, ready_at, task_at}
use Rattle.slots.specs.Kinds.{unused, is_unused, takes_object, kind_at}
use Rattle.rules.specs.Tables.{free_slot, free_object, with_uses}
use Rattle.rules.specs.Lines.{chosen, to_tail, leaves}
use Rattle.rules.specs.Sentences.{Sound}
use Rattle.rows.specs.Asking.{is, makes}
use Rattle.rows.specs.Applies.{names_none, none_free}
use Rattle.rules.specs.Refusals.{new_slot}
use Rattle.rules.specs.Loans.{worked_out}
use Rattle.rules.specs.Events.{group_made}
use Rattle.rules.specs.Effects.{created, deleted, queue_made, mutex_made, removed, effect}
use Rattle.rules.specs.Steps.{new_number, uses_after}
use Rattle.rules.proofs.RowPasses.{Passed}
use Rattle.rules.proofs.KeepSlot.{at_same, at_other}
use Rattle.rules.proofs.KeepObject.{kinds, kind_same, kind_other}
use Rattle.rules.proofs.Keeps.{there_low, index_most, index_passes}
use Rattle.rules.proofs.KeepObjects.{object_low}
use Rattle.rules.proofs.KeepUses.{up_other}
use Rattle.rules.proofs.KeepTaken.{stands, stands_as, there_stands, used_stands, Stays, effect_stays, worked_stays}
use Rattle.rules.proofs.TickJumps.{chosen_only}
use Rattle.histories.specs.Types.{TaskSlot, ObjSlot, Place, Free, Ready, Delayed, Waiting, Suspended, Spent, Task, Ring, Nobody, Ordinary, Recursive, Kind, Unused, SpentObject, Queue, Mutex, Group, Object, State}
use Rattle.histories.specs.Types.{Call, Create, Delete, Suspend, Resume, SetPriority, Delay, Yield, Hold, Release, MakeQueue, MakeMutex, Remove, Send, Receive, Take, Give, Tick, Advance, MakeRecursive}
use Rattle.histories.specs.Types.{MakeGroup, SetBits, ClearBits, Await}

-- of a slot where nothing, something, or nothing ever after stands
abbrev pub life_in : ℕ → ℕ → ℕ
life_in zero u = 2 * u
life_in (suc zero) u = suc (2 * u)
life_in (suc (suc n)) u = 131072

-- of a task slot, of an object slot: what stands in it, and the use that is kept
abbrev pub stands_in : Bool → State → ℕ → ℕ
stands_in true k s = stands (task_at k.tasks (task s)).place
stands_in false k s = stands_as (kind_at k.objects (object s))

abbrev pub kept_use : Bool → State → ℕ → ℕ
kept_use true k s = use_in k.uses.tasks s
kept_use false k s = use_in k.uses.objects s

abbrev pub life_of : Bool → State → ℕ → ℕ
life_of b k s = life_in (stands_in b k s) (kept_use b k s)

abbrev pub Grows : State → State → Type 0
Grows k j = (b : Bool) (s : ℕ) → life_of b k s ≤ life_of b j s

-- ── a number and the life of its slot
odd_life : (st u m : ℕ) → life_in st u ≡ suc (2 * m) → (st ≡ 1) × (u ≡ m)
odd_life zero u m e = absurd (omega arith)
odd_life (suc zero) u m e = (refl, omega arith)
odd_life (suc (suc n)) u m e = absurd (omega arith)

module _ (us : List ℕ) (st : ℕ → ℕ) (n : ℕ) where
  pub life_names : life_in (st (n % 16)) (use_in us (n % 16)) ≡ suc (2 * (n / 16)) → st (slot_in us n) ≡ 1
  life_names e =
      let h = odd_life (st (n % 16)) (use_in us (n % 16)) (n / 16) e in
      rw (eq-eqb (n / 16) (use_in us (n % 16)) (sym h.1)) h.0

  pub names_life : st 16 ≡ 0 → st (slot_in us n) ≡ 1 → life_in (st (n % 16)) (use_in us (n % 16)) ≡ suc (2 * (n / 16))
  names_life z e = go (eqb (n / 16) (use_in us (n % 16))) refl e
    where
      go : (b : Bool) → eqb (n / 16) (use_in us (n % 16)) ≡ b → st (if b then n % 16 else 16) ≡ 1 → life_in (st (n % 16)) (use_in us (n % 16)) ≡ suc (2 * (n / 16))
      go true q h = rw (h, eqb-true (n / 16) (use_in us (n % 16)) q)
      go false q h = absurd (omega (arith, z, h))

-- what a create or make does to the life of the slot that its number tells
pub record Takes (before after : ℕ → ℕ) (n : ℕ) : Type 0 where
  pub was : before (n % 16) ≡ 2 * (n / 16)
  pub now : after (n % 16) ≡ suc (2 * (n / 16))

-- ── one slot
-- what becomes of what stands in a slot and of the use that is kept; g says that it is given up
pub data Becomes (g : Bool) (st u st' u' : ℕ) : Type 0 where
  as_it_was : g ≡ false → st' ≡ st → u' ≡ u → Becomes g st u st' u'
  now_taken : g ≡ false → st ≡ 0 → st' ≡ 1 → u' ≡ u → Becomes g st u st' u'
  now_empty : g ≡ true → st ≡ 1 → (last : Bool) → eqb u 65535 ≡ last → st' ≡ (if last then 2 else 0) → u' ≡ (if last then u else u + 1) → Becomes g st u st' u'

becomes_life : (g : Bool) (st u st' u' : ℕ) → Becomes g st u st' u' → u ≤ 65535 → life_in st u ≤ life_in st' u'
becomes_life g st u st' u' (as_it_was n e f) h = rw (e, f) (omega arith)
becomes_life g st u st' u' (now_taken n e f q) h = rw (e, f, q) (omega arith)
becomes_life g st u st' u' (now_empty n e true l f q) h = rw (e, f) (omega (arith, h))
becomes_life g st u st' u' (now_empty n e false l f q) h = rw (e, f, q) (omega arith)

takes_stands : (p : Place) → takes_task p ≡ true → stands p ≡ 0
takes_stands Free e = refl
takes_stands Ready e = absurd (false≢true e)
takes_stands (Delayed w) e = absurd (false≢true e)
takes_stands (Waiting o w) e = absurd (false≢true e)
takes_stands Suspended e = absurd (false≢true e)
takes_stands Spent e = absurd (false≢true e)

takes_object_lem : (x : Kind) → takes_object x ≡ true → stands_as x ≡ 0
takes_object_lem Unused e = refl
takes_object_lem SpentObject e = absurd (false≢true e)
takes_object_lem (Queue q) e = absurd (false≢true e)
takes_object_lem (Mutex s h) e = absurd (false≢true e)
takes_object_lem (Group b) e = absurd (false≢true e)

-- a number of a slot tells the slot and the use
pub number_slot : (s u : ℕ) → s < 16 → (s + 16 * u) % 16 ≡ s
number_slot s u h = omega arith

pub number_use : (s u : ℕ) → s < 16 → (s + 16 * u) / 16 ≡ u
number_use s u h = omega arith

takes_number : (before after : ℕ → ℕ) (us : List ℕ) (s : ℕ) → s < 16 → before s ≡ 2 * use_in us s → after s ≡ suc (2 * use_in us s) → Takes before after (number_in us s)
takes_number before after us s h a b =
    record { was = rw (number_slot s (use_in us s) h, number_use s (use_in us s) h) a; now = rw (number_slot s (use_in us s) h, number_use s (use_in us s) h) b }

module _ (k : State) (S : Sound k) (n : ℕ) where
  -- ── the slot that is taken
  module _ (e : eqb (free_slot k.tasks) 16 ≡ false) where
    abbrev new : TaskSlot
    new = task (free_slot k.tasks)

    new_low : free_slot k.tasks < 16
    unfolding free_slot
    new_low = omega (arith, index_most (λ (x : Task). takes_task x.place) free_task k.tasks, eqb-false (free_slot k.tasks) 16 e, S.tables.task_slots)

    new_stands : stands (task_at k.tasks new).place ≡ 0
    unfolding free_slot task_at
    new_stands = takes_stands (task_at k.tasks new).place (index_passes (λ (x : Task). takes_task x.place) free_task k.tasks (omega (arith, new_low, S.tables.task_slots)))

    abbrev more : ℕ → List Task
    more p = set k.tasks new.0 (ready_at p)

    now_stands : (p : ℕ) → stands (task_at (more p) new).place ≡ 1
    now_stands p = ap (λ (x : Task). stands x.place) (at_same k.tasks new (ready_at p) (omega (arith, new_low, S.tables.task_slots)))

    create_becomes : (p s : ℕ) → Becomes false (stands_in true k s) (kept_use true k s) (stands (task_at (more p) (task s)).place) (kept_use true k s)
    create_becomes p s = go (eqb s new.0) refl
      where
        go : (b : Bool) → eqb s new.0 ≡ b → Becomes false (stands_in true k s) (kept_use true k s) (stands (task_at (more p) (task s)).place) (kept_use true k s)
        go true q = rw (eqb-true s new.0 q) (now_taken refl new_stands (now_stands p) refl)
        go false q = as_it_was refl (ap (λ (x : Task). stands x.place) (at_other k.tasks new (ready_at p) (task s) (eqb-false s new.0 q))) refl

  module _ (e : eqb (free_object k.objects) 16 ≡ false) (y : Kind) (made : stands_as y ≡ 1) where
    abbrev slot : ObjSlot
    slot = object (free_object k.objects)

    slot_low : free_object k.objects < 16
    unfolding free_object
    slot_low = omega (arith, index_most (λ (x : Object). takes_object x.kind) unused k.objects, eqb-false (free_object k.objects) 16 e, S.tables.object_slots)

    slot_stands : stands_as (kind_at k.objects slot) ≡ 0
    unfolding free_object kind_at
    slot_stands = takes_object_lem (kind_at k.objects slot) (index_passes (λ (x : Object). takes_object x.kind) unused k.objects (omega (arith, slot_low, S.tables.object_slots)))

    slot_now : stands_as (kind_at (kinds k.objects slot y) slot) ≡ 1
    slot_now = ap stands_as (kind_same k.objects slot y (omega (arith, slot_low, S.tables.object_slots))) ∙ made

    make_becomes : (s : ℕ) → Becomes false (stands_in false k s) (kept_use false k s) (stands_as (kind_at (kinds k.objects slot y) (object s))) (kept_use false k s)
    make_becomes s = go (eqb s slot.0) refl
      where
        go : (b : Bool) → eqb s slot.0 ≡ b → Becomes false (stands_in false k s) (kept_use false k s) (stands_as (kind_at (kinds k.objects slot y) (object s))) (kept_use false k s)
        go true q = rw (eqb-true s slot.0 q) (now_taken refl slot_stands slot_now refl)
        go false q = as_it_was refl (ap stands_as (kind_other k.objects slot y (object s) (eqb-false s slot.0 q))) refl

    make_takes : (after : ℕ → ℕ) → after (free_object k.objects) ≡ life_in (stands_as (kind_at (kinds k.objects slot y) slot)) (use_in k.uses.objects (free_object k.objects))
        → Takes (life_of false k) after (number_in k.uses.objects (free_object k.objects))
    make_takes after q =
        takes_number (life_of false k) after k.uses.objects (free_object k.objects) slot_low
        (ap (λ i. life_in i (use_in k.uses.objects (free_object k.objects))) slot_stands)
        (q ∙ ap (λ i. life_in i (use_in k.uses.objects (free_object k.objects))) slot_now)

  -- ── the slot that is given up
  module _ (t : TaskSlot) (there : is_free (task_at k.tasks t).place ≡ false) where
    abbrev last : Bool
    last = last_in k.uses.tasks t.0

    abbrev fewer : List Task
    fewer = set k.tasks t.0 (if last then spent_task else free_task)

    low : t.0 < 16
    low = there_low k.tasks t S.tables.task_slots there

    left_stands : (b : Bool) → stands (if b then spent_task else free_task).place ≡ (if b then 2 else 0)
    left_stands true = refl
    left_stands false = refl

    gone_stands : stands (task_at fewer t).place ≡ (if last then 2 else 0)
    gone_stands =
        ap (λ (x : Task). stands x.place) (at_same k.tasks t (if last then spent_task else free_task) (omega (arith, low, S.tables.task_slots)))
        ∙ left_stands last

    delete_becomes : (s : ℕ) → Becomes (eqb t.0 s) (stands_in true k s) (kept_use true k s) (stands (task_at fewer (task s)).place) (use_in (given_up k.uses.tasks t.0) s)
    delete_becomes s = go (eqb t.0 s) refl
      where
        go : (b : Bool) → eqb t.0 s ≡ b → Becomes b (stands_in true k s) (kept_use true k s) (stands (task_at fewer (task s)).place) (use_in (given_up k.uses.tasks t.0) s)
        go true q =
            rw (sym (eqb-true t.0 s q))
            (now_empty refl (there_stands (task_at k.tasks t).place there) last refl gone_stands
            (get_or-set_same k.uses.tasks t.0 (next_use (use_in k.uses.tasks t.0)) 0 (omega (arith, low, S.uses.task_slots))))
        go false q =
            let d : s ≡ t.0 → ⊥ = λ e. eqb-false t.0 s q (sym e) in
            as_it_was refl (ap (λ (x : Task). stands x.place) (at_other k.tasks t (if last then spent_task else free_task) (task s) d)) (up_other k.uses.tasks t.0 s d)

  module _ (o : ObjSlot) (there : is_unused (kind_at k.objects o) ≡ false) where
    abbrev ends : Bool
    ends = last_in k.uses.objects o.0

    abbrev others : List Object
    others = kinds k.objects o (if ends then SpentObject else Unused)

    o_low : o.0 < 16
    o_low = object_low k.objects o S.tables.object_slots there

    left_as : (b : Bool) → stands_as (if b then SpentObject else Unused) ≡ (if b then 2 else 0)
    left_as true = refl
    left_as false = refl

    gone_as : stands_as (kind_at others o) ≡ (if ends then 2 else 0)
    gone_as = ap stands_as (kind_same k.objects o (if ends then SpentObject else Unused) (omega (arith, o_low, S.tables.object_slots))) ∙ left_as ends

    remove_becomes : (s : ℕ) → Becomes (eqb o.0 s) (stands_in false k s) (kept_use false k s) (stands_as (kind_at others (object s))) (use_in (given_up k.uses.objects o.0) s)
    remove_becomes s = go (eqb o.0 s) refl
      where
        go : (b : Bool) → eqb o.0 s ≡ b → Becomes b (stands_in false k s) (kept_use false k s) (stands_as (kind_at others (object s))) (use_in (given_up k.uses.objects o.0) s)
        go true q =
            rw (sym (eqb-true o.0 s q))
            (now_empty refl (used_stands (kind_at k.objects o) there) ends refl gone_as
            (get_or-set_same k.uses.objects o.0 (next_use (use_in k.uses.objects o.0)) 0 (omega (arith, o_low, S.uses.object_slots))))
        go false q =
            let d : s ≡ o.0 → ⊥ = λ e. eqb-false o.0 s q (sym e) in
            as_it_was refl (ap stands_as (kind_other k.objects o (if ends then SpentObject else Unused) (object s) d)) (up_other k.uses.objects o.0 s d)

-- ── every call
-- after the effect, with the uses that go with it
abbrev pub next : State → Call → State
next k c = with_uses (effect k (asked k.uses c)) (uses_after k.uses (asked k.uses c))

-- a queue as it is made
abbrev ring : ℕ → ℕ → Ring
ring c z = record { capacity = c; size = z; first = 0; count = 0 }

-- the call gives up the slot s
abbrev pub gives_up : Bool → Asked → ℕ → Bool
gives_up true a s = is 2 a && eqb a.task.0 s
gives_up false a s = is 12 a && eqb a.object.0 s

left_alone : (k j : State) (us : Uses) (a : Asked) → Stays k j → us ≡ k.uses → is 2 a ≡ false → is 12 a ≡ false → (b : Bool) (s : ℕ)
    → Becomes (gives_up b a s) (stands_in b k s) (kept_use b k s) (stands_in b (with_uses j us) s) (kept_use b (with_uses j us) s)
left_alone k j us a T e f g true s = as_it_was (rw f) (T.tasks (task s)) (ap (λ (v : Uses). use_in v.tasks s) e)
left_alone k j us a T e f g false s = as_it_was (rw g) (T.objects (object s)) (ap (λ (v : Uses). use_in v.objects s) e)

pub effect_becomes : (k : State) → Sound k → (n : ℕ) (c : Call) → Passed k (asked k.uses c) n → (b : Bool) (s : ℕ)
    → Becomes (gives_up b (asked k.uses c) s) (stands_in b k s) (kept_use b k s) (stands_in b (next k c) s) (kept_use b (next k c) s)
unfolding effect asked uses_after names_none none_free created deleted queue_made mutex_made group_made removed to_tail leaves
effect_becomes k S n (Create p) P true s = create_becomes k S n P.slot p s
effect_becomes k S n (Create p) P false s = as_it_was refl refl refl
effect_becomes k S n (Delete t) P true s = delete_becomes k S n (task_slot k.uses t) P.named s
effect_becomes k S n (Delete t) P false s = as_it_was refl refl refl
effect_becomes k S n (Suspend t) P b s = left_alone k _ _ _ (effect_stays k S n (Suspend t) refl P) refl refl refl b s
effect_becomes k S n (Resume t) P b s = left_alone k _ _ _ (effect_stays k S n (Resume t) refl P) refl refl refl b s
effect_becomes k S n (SetPriority t p) P b s = left_alone k _ _ _ (effect_stays k S n (SetPriority t p) refl P) refl refl refl b s
effect_becomes k S n (Delay d) P b s = left_alone k _ _ _ (effect_stays k S n (Delay d) refl P) refl refl refl b s
effect_becomes k S n Yield P b s = left_alone k _ _ _ (effect_stays k S n Yield refl P) refl refl refl b s
effect_becomes k S n Hold P b s = left_alone k _ _ _ (effect_stays k S n Hold refl P) refl refl refl b s
effect_becomes k S n Release P b s = left_alone k _ _ _ (effect_stays k S n Release refl P) refl refl refl b s
effect_becomes k S n (MakeQueue c z) P true s = as_it_was refl refl refl
effect_becomes k S n (MakeQueue c z) P false s = make_becomes k S n P.slot (Queue (ring c z)) refl s
effect_becomes k S n MakeMutex P true s = as_it_was refl refl refl
effect_becomes k S n MakeMutex P false s = make_becomes k S n P.slot (Mutex Ordinary Nobody) refl s
effect_becomes k S n (Remove o) P true s = as_it_was refl refl refl
effect_becomes k S n (Remove o) P false s = remove_becomes k S n (obj_slot k.uses o) P.named s
effect_becomes k S n (Send o w) P b s = left_alone k _ _ _ (effect_stays k S n (Send o w) refl P) refl refl refl b s
effect_becomes k S n (Receive o w) P b s = left_alone k _ _ _ (effect_stays k S n (Receive o w) refl P) refl refl refl b s
effect_becomes k S n (Take o w) P b s = left_alone k _ _ _ (effect_stays k S n (Take o w) refl P) refl refl refl b s
effect_becomes k S n (Give o) P b s = left_alone k _ _ _ (effect_stays k S n (Give o) refl P) refl refl refl b s
effect_becomes k S n Tick P b s = left_alone k _ _ _ (effect_stays k S n Tick refl P) refl refl refl b s
effect_becomes k S n MakeRecursive P true s = as_it_was refl refl refl
effect_becomes k S n MakeRecursive P false s = make_becomes k S n P.slot (Mutex (Recursive 0) Nobody) refl s
effect_becomes k S n MakeGroup P true s = as_it_was refl refl refl
effect_becomes k S n MakeGroup P false s = make_becomes k S n P.slot (Group 0) refl s
effect_becomes k S n (SetBits o m) P b s = left_alone k _ _ _ (effect_stays k S n (SetBits o m) refl P) refl refl refl b s
effect_becomes k S n (ClearBits o m) P b s = left_alone k _ _ _ (effect_stays k S n (ClearBits o m) refl P) refl refl refl b s
effect_becomes k S n (Await o m a c w) P b s = left_alone k _ _ _ (effect_stays k S n (Await o m a c w) refl P) refl refl refl b s
effect_becomes k S n (Advance d) P b s = left_alone k _ _ _ (effect_stays k S n (Advance d) refl P) refl refl refl b s

pub effect_grows : (k : State) → Sound k → (n : ℕ) (c : Call) → Passed k (asked k.uses c) n → Grows k (next k c)
effect_grows k S n c P b s = becomes_life _ _ _ _ _ (effect_becomes k S n c P b s) (range b)
  where
    range : (b : Bool) → kept_use b k s ≤ 65535
    range true = S.uses.tasks (task s)
    range false = S.uses.objects (object s)

-- a create or make takes the slot of the number that it answers
pub effect_takes : (k : State) → Sound k → (n : ℕ) (c : Call) → Passed k (asked k.uses c) n → makes (asked k.uses c) ≡ true
    → let a = asked k.uses c in Takes (life_of (is 1 a) k) (life_of (is 1 a) (next k c)) (new_number k.uses a (new_slot k a))
unfolding effect asked uses_after none_free created queue_made mutex_made group_made to_tail
effect_takes k S n (Create p) P x =
    takes_number (life_of true k) (life_of true (next k (Create p))) k.uses.tasks (free_slot k.tasks) (new_low k S n P.slot)
    (ap (λ i. life_in i (use_in k.uses.tasks (free_slot k.tasks))) (new_stands k S n P.slot))
    (ap (λ i. life_in i (use_in k.uses.tasks (free_slot k.tasks))) (now_stands k S n P.slot p))
effect_takes k S n (MakeQueue c z) P x = make_takes k S n P.slot (Queue (ring c z)) refl (life_of false (next k (MakeQueue c z))) refl
effect_takes k S n MakeMutex P x = make_takes k S n P.slot (Mutex Ordinary Nobody) refl (life_of false (next k MakeMutex)) refl
effect_takes k S n MakeRecursive P x = make_takes k S n P.slot (Mutex (Recursive 0) Nobody) refl (life_of false (next k MakeRecursive)) refl
effect_takes k S n MakeGroup P x = make_takes k S n P.slot (Group 0) refl (life_of false (next k MakeGroup)) refl
effect_takes k S n (Delete t) P x = absurd (false≢true x)
effect_takes k S n (Suspend t) P x = absurd (false≢true x)
effect_takes k S n (Resume t) P x = absurd (false≢true x)
effect_takes k S n (SetPriority t p) P x = absurd (false≢true x)
effect_takes k S n (Delay d) P x = absurd (false≢true x)
effect_takes k S n Yield P x = absurd (false≢true x)
effect_takes k S n Hold P x = absurd (false≢true x)
effect_takes k S n Release P x = absurd (false≢true x)
effect_takes k S n (Remove o) P x = absurd (false≢true x)
effect_takes k S n (Send o w) P x = absurd (false≢true x)
effect_takes k S n (Receive o w) P x = absurd (false≢true x)
effect_takes k S n (Take o w) P x = absurd (false≢true x)
effect_takes k S n (Give o) P x = absurd (false≢true x)
effect_takes k S n Tick P x = absurd (false≢true x)
effect_takes k S n (Advance d) P x = absurd (false≢true x)
effect_takes k S n (SetBits o m) P x = absurd (false≢true x)
effect_takes k S n (ClearBits o m) P x = absurd (false≢true x)
effect_takes k S n (Await o m a c w) P x = absurd (false≢true x)

-- neither the effective priorities worked out nor choose change a slot
pub end_slot : (f : ℕ → ℕ → ℕ) (b : Bool) (j : State) (us : Uses) (s : ℕ)
    → let i = chosen (worked_out j) in f (stands_in b (with_uses i us) s) (kept_use b (with_uses i us) s) ≡ f (stands_in b (with_uses j us) s) (kept_use b (with_uses j us) s)
end_slot f true j us s =
    ap (λ st. f st (use_in us.tasks s)) (ap (λ (ts : List Task). stands (task_at ts (task s)).place) (chosen_only (worked_out j)).tasks ∙ (worked_stays j).tasks (task s))
end_slot f false j us s =
    ap (λ st. f st (use_in us.objects s)) (ap (λ (os : List Object). stands_as (kind_at os (object s))) (chosen_only (worked_out j)).objects ∙ (worked_stays j).objects (object s))
