-- Hold, release, tick and advance keep soundness.
use lib.Seq.{set_out}
use lib.ListN.{length, set, get_or, length-set}
use Prim.Native.Nat.{ℕ, zero, suc, ◌+◌, ◌-◌, ◌<◌, ◌≤◌}
use mathlib.Core.Path.{◌≡◌, refl, sym, ap, ◌∙◌, subst}
use mathlib.Core.Bool.{Bool, true, false, not, ◌||◌, false≢true}
use mathlib.Core.List.{List, [], ◌∷◌}
use mathlib.Core.Logic.{◌⊎◌, inl, inr}
use native.Mathlib.Omega.{arith}
use lib.Dec.{eqb, ltb}
use borrow.Author.Tests.{eqb-true, eqb-false, eq-eqb, ltb-true, ltb-false, lt-ltb}
use Rattle.std.proofs.Common.{if◌then◌else◌}
use Rattle.lists.specs.Lists.{foldl, up_to}
use Rattle.lists.proofs.Bools.{and_left, and_intro, not_off, or_off, or_left, or_right}
use Rattle.numbers.specs.Numbers.{task, same_task}
use Rattle.calls.specs.Door.{fresh_uses}
use Rattle.calls.specs.Behind.{asked, nothing}
use Rattle.order.specs.Order.{listed}
use Rattle.order.specs.Tidy.{count}
use Rattle.order.proofs.Passing.{one_number}
use Rattle.slots.specs.Places.{is_free, is_blocked, wakes_at, outcome_due}
use Rattle.slots.specs.Values.{task_at, placed}
use Rattle.slots.specs.SoundSlots.{wakes_in_range, not_due}
use Rattle.rules.specs.Types.{TaskSlot, Place, Free, Ready, Delayed, Waiting, Suspended, Spent, Task, State, Wake, Wait}
use Rattle.rules.specs.Tables.{with_tick, with_hold, with_uses}
use Rattle.rules.specs.Lines.{begun, level, to_tail}
use Rattle.rules.specs.Sound.{no_higher}
use Rattle.rules.specs.Sentences.{Counts, Used, NoCircle, Sound, Unheld}
use Rattle.rows.specs.Applies.{no_depth, no_tick}
use Rattle.rules.specs.Waits.{later, arrives}
use Rattle.rules.specs.Loans.{for_whom, waits_for, worked_out, ruled, Reckoned}
use Rattle.rules.specs.Ticks.{woken_if_due, wakes, counted_on, one_tick, turned, turned_if, ticked, ticks, released, held, advanced}
use Rattle.rules.specs.Effects.{effect}
use Rattle.rules.proofs.TableSlots.{passes_there}
use Rattle.rules.proofs.RowPasses.{Passed, advance_free}
use Rattle.rules.proofs.SoundUses.{uses_say, fresh_fine}
use Rattle.rules.proofs.TickJumps.{OnlyTurned, turned_only, turn_only, only_reckoned, only_circles}
use Rattle.rules.proofs.KeepNearly.{Open, settled, Nearly, RunsIn}
use Rattle.rules.proofs.LoanRule.{ruled_less}
use Rattle.rules.proofs.CircleRule.{nobody_for_nobody, loosened}
use Rattle.rules.proofs.LoanWorks.{worked_same, worked_place, worked_reckoned, worked_circles, worked_nearly, worked_at, worked_many}
use Rattle.rules.proofs.KeepSlot.{at_other, moved_nearly, at_same, like_before}
use Rattle.rules.proofs.KeepChosen.{sound_with, sound_nearly, sound_reckoned, chosen_sound}
use Rattle.rules.proofs.KeepBlocks.{to_ready, arrives_nearly, arrives_same, arrives_at}
use Rattle.rules.proofs.Keeps.{Keeps, there_low, ready_low}

-- ── the counts changed, and what is open told anew
recount : {w : Open} (k : State) (h p : ℕ) → Nearly w k → Counts k.tick h p → Nearly w (with_hold k h p)
recount k h p N C = record { tables = N.tables; range = N.range; listing = N.listing; due = N.due; counts = C }

reopen : {w : Open} (v : Open) (k : State) → Nearly w k → ((t : TaskSlot) → v t (task_at k.tasks t).place ≡ true) → Nearly v k
reopen v k N D = record { tables = N.tables; range = N.range; listing = N.listing; due = D; counts = N.counts }

-- the tick count told otherwise
pub at_tick : (j : State) {n : ℕ} → j.tick ≡ n → Nearly (settled n) j → Nearly (settled j.tick) j
at_tick j e N = subst (λ (m : ℕ). Nearly (settled m) j) (sym e) N

-- ── the wakes: of those that were asked nobody is due any more
abbrev waking : ℕ → (TaskSlot → Bool) → Open
waking tick asked = λ t p. if asked t then not_due tick p else wakes_in_range p

record Woken (tick : ℕ) (asked : TaskSlot → Bool) (j : State) : Type 0 where
  nearly : Nearly (waking tick asked) j
  ticks : j.tick ≡ tick

-- who is due exists
pub due_there : (n : ℕ) (p : Place) → wakes_at n p ≡ true → is_free p ≡ false
due_there n p e = passes_there (wakes_at n) p refl refl e

-- who is due is delayed or waits, and its outcome is 1 or 2
due_outcome : (p : Place) → outcome_due p ≤ 3
due_outcome Free = omega arith
due_outcome Ready = omega arith
due_outcome (Delayed w) = omega arith
due_outcome (Waiting o w) = omega arith
due_outcome Suspended = omega arith
due_outcome Spent = omega arith

module _ (tick : ℕ) (asked : TaskSlot → Bool) (x : TaskSlot) (j : State) (W : Woken tick asked j) where
  abbrev asked_too : TaskSlot → Bool
  asked_too t = same_task t x || asked t

  in_range : (b : Bool) (p : Place) → (if b then not_due tick p else wakes_in_range p) ≡ true → wakes_in_range p ≡ true
  in_range true p e = and_left (wakes_in_range p) _ e
  in_range false p e = e

  -- every task after the step of x, if what stands in its slot then is not due
  next_due : (us : List Task) → ((t : TaskSlot) → (if asked t then not_due tick (task_at us t).place else wakes_in_range (task_at us t).place) ≡ true) → not_due tick (task_at us x).place ≡ true
      → (t : TaskSlot) → (if asked_too t then not_due tick (task_at us t).place else wakes_in_range (task_at us t).place) ≡ true
  next_due us D h t = go (same_task t x) refl
    where
      go : (b : Bool) → same_task t x ≡ b → (if b || asked t then not_due tick (task_at us t).place else wakes_in_range (task_at us t).place) ≡ true
      go true e = rw (one_number t x (eqb-true t.0 x.0 e)) h
      go false e = D t

  ready_due : (b : Bool) → (if b then not_due tick Ready else wakes_in_range Ready) ≡ true
  ready_due true = refl
  ready_due false = refl

  woken_next : Woken tick asked_too (woken_if_due j x)
  unfolding woken_if_due
  woken_next = go (wakes_at j.tick (task_at j.tasks x).place) refl
    where
      low : wakes_at j.tick (task_at j.tasks x).place ≡ true → x.0 < 16
      low e = there_low j.tasks x W.nearly.tables.task_slots (due_there j.tick (task_at j.tasks x).place e)

      ready_now : (m : ℕ) → x.0 < 16 → not_due tick (task_at (arrives j x Ready m).tasks x).place ≡ true
      ready_now m l = ap (λ (y : Task). not_due tick y.place) (arrives_at j x Ready m (omega (arith, W.nearly.tables.task_slots)))

      go : (b : Bool) → wakes_at j.tick (task_at j.tasks x).place ≡ b → Woken tick asked_too (if b then arrives j x Ready (outcome_due (task_at j.tasks x).place) else j)
      go true e =
          let m = outcome_due (task_at j.tasks x).place in
          let M = arrives_nearly j W.nearly x (low e) (to_ready (due_outcome (task_at j.tasks x).place) (ready_due (asked x))) in
          record { nearly = reopen (waking tick asked_too) (arrives j x Ready m) M (next_due _ M.due (ready_now m (low e))); ticks = (arrives_same j x Ready m).tick ∙ W.ticks }
      go false e =
          let p = (task_at j.tasks x).place in
          let h = and_intro (wakes_in_range p) _ (in_range (asked x) p (W.nearly.due x)) (not_off _ (rw W.ticks at e)) in
          record { nearly = reopen (waking tick asked_too) j W.nearly (next_due j.tasks W.nearly.due h); ticks = W.ticks }

-- those asked after the wakes of l
asked_all : (TaskSlot → Bool) → List TaskSlot → TaskSlot → Bool
asked_all asked [] = asked
asked_all asked (x ∷ l) = asked_all (λ t. same_task t x || asked t) l

woken_all : (tick : ℕ) (asked : TaskSlot → Bool) (l : List TaskSlot) (j : State) → Woken tick asked j → Woken tick (asked_all asked l) (foldl woken_if_due j l)
unfolding foldl asked_all
woken_all tick asked [] j W = W
woken_all tick asked (x ∷ l) j W = woken_all tick (λ t. same_task t x || asked t) l (woken_if_due j x) (woken_next tick asked x j W)

-- who was asked already, and who stands in the list
asked_already : (asked : TaskSlot → Bool) (l : List TaskSlot) (t : TaskSlot) → asked t ≡ true → asked_all asked l t ≡ true
unfolding asked_all
asked_already asked [] t e = e
asked_already asked (x ∷ l) t e = asked_already (λ u. same_task u x || asked u) l t (or_right (same_task t x) (asked t) e)

asked_listed : (asked : TaskSlot → Bool) (l : List TaskSlot) (t : TaskSlot) → 1 ≤ count t.0 l → asked_all asked l t ≡ true
unfolding asked_all count
asked_listed asked [] t h = absurd (omega arith)
asked_listed asked (x ∷ l) t h = go (eqb x.0 t.0) refl h (asked_listed (λ u. same_task u x || asked u) l t)
  where
    go : (b : Bool) → eqb x.0 t.0 ≡ b → 1 ≤ (if b then 1 else 0) + count t.0 l → (1 ≤ count t.0 l → asked_all (λ u. same_task u x || asked u) l t ≡ true)
        → asked_all (λ u. same_task u x || asked u) l t ≡ true
    go true e g ih = asked_already (λ u. same_task u x || asked u) l t (or_left (same_task t x) (asked t) (eq-eqb t.0 x.0 (sym (eqb-true x.0 t.0 e))))
    go false e g ih = ih (omega arith)

-- ── what the wakes leave: a task is as it was, or ready, with its priorities; the objects, the count and the uses
pub record Woke (k j : State) : Type 0 where
  pub tick : j.tick ≡ k.tick
  pub uses : j.uses ≡ k.uses
  pub objects : j.objects ≡ k.objects
  pub many : length j.tasks ≡ length k.tasks
  pub own : (t : TaskSlot) → (task_at j.tasks t).own ≡ (task_at k.tasks t).own
  pub level : (t : TaskSlot) → level j.tasks t ≡ level k.tasks t
  pub either : (t : TaskSlot) → ((task_at j.tasks t).place ≡ (task_at k.tasks t).place) ⊎ ((task_at j.tasks t).place ≡ Ready)

nobody_woke : (k : State) → Woke k k
nobody_woke k = record { tick = refl; uses = refl; objects = refl; many = refl; own = λ t. refl; level = λ t. refl; either = λ t. inl refl }

one_woke : (k : State) (t : TaskSlot) → Woke k (woken_if_due k t)
unfolding woken_if_due arrives to_tail
one_woke k t = go (wakes_at k.tick (task_at k.tasks t).place)
  where
    x : Task
    x = placed (task_at k.tasks t) Ready (outcome_due (task_at k.tasks t).place)

    moved : (u : TaskSlot) (b : Bool) → same_task u t ≡ b → (c : Bool) → ltb t.0 (length k.tasks) ≡ c
        → ((task_at (set k.tasks t.0 x) u).place ≡ (task_at k.tasks u).place) ⊎ ((task_at (set k.tasks t.0 x) u).place ≡ Ready)
    moved u true e true l = inr (ap (λ v. (task_at (set k.tasks t.0 x) v).place) (one_number u t (eqb-true u.0 t.0 e)) ∙ ap (λ (y : Task). y.place) (at_same k.tasks t x (ltb-true _ _ l)))
    moved u true e false l = inl (ap (λ ts. (task_at ts u).place) (set_out k.tasks t.0 x (ltb-false _ _ l)))
    moved u false e c l = inl (ap (λ (y : Task). y.place) (at_other k.tasks t x u (eqb-false u.0 t.0 e)))

    go : (b : Bool) → Woke k (if b then arrives k t Ready (outcome_due (task_at k.tasks t).place) else k)
    go true =
        record {
          tick = refl;
          uses = refl;
          objects = refl;
          many = length-set k.tasks t.0 x;
          own = like_before k.tasks t x (λ (y : Task). y.own) refl;
          level = like_before k.tasks t x (λ (y : Task). y.effective) refl;
          either = λ u. moved u (same_task u t) refl (ltb t.0 (length k.tasks)) refl;
        }
    go false = nobody_woke k

pub all_woke : (l : List TaskSlot) (k : State) → Woke k (foldl woken_if_due k l)
unfolding foldl
all_woke [] k = nobody_woke k
all_woke (u ∷ l) k =
    let a = one_woke k u in
    let b = all_woke l (woken_if_due k u) in
    record {
      tick = b.tick ∙ a.tick;
      uses = b.uses ∙ a.uses;
      objects = b.objects ∙ a.objects;
      many = b.many ∙ a.many;
      own = λ t. b.own t ∙ a.own t;
      level = λ t. b.level t ∙ a.level t;
      either = λ t. then_either (b.either t) (a.either t);
    }
  where
    then_either : {p q r : Place} → (r ≡ q) ⊎ (r ≡ Ready) → (q ≡ p) ⊎ (q ≡ Ready) → (r ≡ p) ⊎ (r ≡ Ready)
    then_either (inl e) (inl f) = inl (e ∙ f)
    then_either (inl e) (inr f) = inr (e ∙ f)
    then_either (inr e) f = inr e

pub count_woke : (k : State) → Woke (with_tick k (later k.tick 1)) (counted_on k)
unfolding counted_on wakes
count_woke k = all_woke (begun k.tasks (listed k.order)) (with_tick k (later k.tick 1))

-- ticks only end waits: no effective priority gets larger
pub tick_lowers : (k : State) → length k.tasks ≡ 16 → Reckoned k.tasks k.objects → (t : TaskSlot) → t.0 < 16 → level (one_tick k).tasks t ≤ level k.tasks t
unfolding one_tick
tick_lowers k l R t h =
    let j = counted_on k in
    let W = count_woke k in
    let m : length j.tasks ≡ 16 = W.many ∙ l in
    let a : level (worked_out j).tasks t ≡ get_or (ruled j.tasks j.objects) t.0 0 = ap (λ (x : Task). x.effective) (worked_at j m t h) in
    let b = ruled_less k.tasks j.tasks k.objects (λ v o w e. old v o w (W.either v) e) l m W.own t h in
    let c : get_or (ruled j.tasks j.objects) t.0 0 ≡ get_or (ruled j.tasks k.objects) t.0 0 = ap (λ os. get_or (ruled j.tasks os) t.0 0) W.objects in
    omega (arith, a, b, c, R t h)
  where
    old : (v : TaskSlot) (o : Wait) (w : Wake) → ((task_at (counted_on k).tasks v).place ≡ (task_at k.tasks v).place) ⊎ ((task_at (counted_on k).tasks v).place ≡ Ready)
        → (task_at (counted_on k).tasks v).place ≡ Waiting o w → (task_at k.tasks v).place ≡ Waiting o w
    old v o w (inl f) e = sym f ∙ e
    old v o w (inr f) e = absurd (let q : Ready ≡ Waiting o w = sym f ∙ e in let z : ◌≡◌ {A = ℕ} 0 1 = cc in omega arith)

tick_many : (k : State) → length (one_tick k).tasks ≡ length k.tasks
unfolding one_tick
tick_many k = worked_many (counted_on k) ∙ (count_woke k).many

-- nor does any circle come of them
pub tick_circles : (k : State) → length k.tasks ≡ 16 → NoCircle k.tasks k.objects → NoCircle (one_tick k).tasks (one_tick k).objects
unfolding one_tick
tick_circles k l C = worked_circles j m (loosened k.tasks j.tasks k.objects j.objects l m C (λ t. ends t (W.either t)))
  where
    j : State
    j = counted_on k

    W : Woke (with_tick k (later k.tick 1)) j
    W = count_woke k

    m : length j.tasks ≡ 16
    m = W.many ∙ l

    ends : (t : TaskSlot) → ((task_at j.tasks t).place ≡ (task_at k.tasks t).place) ⊎ ((task_at j.tasks t).place ≡ Ready)
        → (waits_for j.tasks j.objects t ≡ waits_for k.tasks k.objects t) ⊎ (waits_for j.tasks j.objects (waits_for j.tasks j.objects t) ≡ task 16)
    ends t (inl e) = inl (ap (for_whom j.objects) e ∙ ap (λ os. waits_for k.tasks os t) W.objects)
    ends t (inr e) = inr (ap (λ p. waits_for j.tasks j.objects (for_whom j.objects p)) e ∙ nobody_for_nobody j.tasks j.objects m)

-- after some ticks each effective priority is the rule's still
pub ticks_reckoned : (b : Bool) (n : ℕ) (k : State) → length k.tasks ≡ 16 → Reckoned k.tasks k.objects → (length (ticks b n k).tasks ≡ 16) × Reckoned (ticks b n k).tasks (ticks b n k).objects
unfolding ticks up_to one_tick
ticks_reckoned b zero k l R = (l, R)
ticks_reckoned b (suc n) k l R =
    let j = ticks b n k in
    let m : length (counted_on j).tasks ≡ 16 = (count_woke j).many ∙ (ticks_reckoned b n k l R).0 in
    let o = turn_only b (worked_out (counted_on j)) in
    (ap length o.tasks ∙ worked_many (counted_on j) ∙ m, only_reckoned o (worked_reckoned (counted_on j) m))

pub ticks_circles : (b : Bool) (n : ℕ) (k : State) → length k.tasks ≡ 16 → NoCircle k.tasks k.objects → (length (ticks b n k).tasks ≡ 16) × NoCircle (ticks b n k).tasks (ticks b n k).objects
unfolding ticks up_to
ticks_circles b zero k l C = (l, C)
ticks_circles b (suc n) k l C =
    let j = ticks b n k in
    let N = ticks_circles b n k l C in
    let o = turn_only b (one_tick j) in
    (ap length o.tasks ∙ tick_many j ∙ N.0, only_circles o (tick_circles j N.0 N.1))

-- ── what they leave, too: the hold, the objects, who runs, and who was ready
pub record After (k j : State) : Type 0 where
  pub objects : j.objects ≡ k.objects
  pub hold : j.hold ≡ k.hold
  pub running : j.running ≡ k.running
  pub ready : (t : TaskSlot) → (task_at k.tasks t).place ≡ Ready → (task_at j.tasks t).place ≡ Ready

after_trans : {k j i : State} → After k j → After j i → After k i
after_trans a b = record { objects = b.objects ∙ a.objects; hold = b.hold ∙ a.hold; running = b.running ∙ a.running; ready = λ t e. b.ready t (a.ready t e) }

woken_after : (j : State) (u : TaskSlot) → After j (woken_if_due j u)
unfolding woken_if_due arrives to_tail
woken_after j u = go (wakes_at j.tick (task_at j.tasks u).place) refl
  where
    go : (b : Bool) → wakes_at j.tick (task_at j.tasks u).place ≡ b → After j (if b then arrives j u Ready (outcome_due (task_at j.tasks u).place) else j)
    go true e = record { objects = refl; hold = refl; running = refl; ready = λ t q. ap (λ (x : Task). x.place) (at_other j.tasks u _ t (other t q)) ∙ q }
      where
        other : (t : TaskSlot) → (task_at j.tasks t).place ≡ Ready → t.0 ≡ u.0 → ⊥
        other t q z = false≢true (sym (ap (wakes_at j.tick) (sym (ap (λ v. (task_at j.tasks v).place) (one_number t u z)) ∙ q)) ∙ e)
    go false e = record { objects = refl; hold = refl; running = refl; ready = λ t q. q }

all_after : (l : List TaskSlot) (k : State) → After k (foldl woken_if_due k l)
unfolding foldl
all_after [] k = record { objects = refl; hold = refl; running = refl; ready = λ t e. e }
all_after (u ∷ l) k = after_trans (woken_after k u) (all_after l (woken_if_due k u))

count_after : (k : State) → After k (counted_on k)
unfolding counted_on wakes
count_after k = let A = all_after (begun k.tasks (listed k.order)) (with_tick k (later k.tick 1)) in record { objects = A.objects; hold = A.hold; running = A.running; ready = A.ready }

-- and so does working out the effective priorities
worked_after : (k : State) → After k (worked_out k)
worked_after k = record { objects = (worked_same k).objects; hold = (worked_same k).hold; running = (worked_same k).running; ready = λ t e. worked_place k t ∙ e }

pub tick_after : (k : State) → After k (one_tick k)
unfolding one_tick
tick_after k = after_trans (count_after k) (worked_after (counted_on k))

-- any number of ticks, with their turns or without, and the call of one: the objects and the hold stay
pub record Aside (k j : State) : Type 0 where
  pub objects : j.objects ≡ k.objects
  pub hold : j.hold ≡ k.hold

turned_aside : {k j : State} → After k j → (i : State) → OnlyTurned j i → Aside k i
turned_aside a i o = record { objects = o.objects ∙ a.objects; hold = o.hold ∙ a.hold }

pub ticks_aside : (turns : Bool) (n : ℕ) (k : State) → Aside k (ticks turns n k)
unfolding ticks up_to
ticks_aside turns zero k = record { objects = refl; hold = refl }
ticks_aside turns (suc n) k =
    let j = ticks turns n k in
    let A = turned_aside (tick_after j) _ (turn_only turns (one_tick j)) in
    let B = ticks_aside turns n k in
    record { objects = A.objects ∙ B.objects; hold = A.hold ∙ B.hold }

pub ticked_aside : (k : State) → Aside k (ticked k)
unfolding ticked
ticked_aside k = go (ltb 0 k.hold)
  where
    go : (b : Bool) → Aside k (if b then with_hold k k.hold (k.pended + 1) else turned (one_tick k))
    go true = record { objects = refl; hold = refl }
    go false = turned_aside (tick_after k) _ (turned_only (one_tick k))

-- ── one tick's count and wakes, and the effective priorities worked out
pub record Ticked (k j : State) : Type 0 where
  pub nearly : Nearly (settled j.tick) j
  pub reckoned : Reckoned j.tasks j.objects
  pub after : After k j

-- who is neither delayed nor waiting is not due
unblocked_due : (n : ℕ) (p : Place) → is_blocked p ≡ false → not_due n p ≡ true
unblocked_due n Free e = refl
unblocked_due n Ready e = refl
unblocked_due n (Delayed w) e = absurd (false≢true (sym e))
unblocked_due n (Waiting o w) e = absurd (false≢true (sym e))
unblocked_due n Suspended e = refl
unblocked_due n Spent e = refl

module _ (k : State) (N : Nearly (settled k.tick) k) where
  abbrev now : ℕ
  now = later k.tick 1

  abbrev next : State
  next = with_tick k now

  abbrev those_begun : List TaskSlot
  those_begun = begun k.tasks (listed k.order)

  -- before the wakes: who is neither delayed nor waiting need not be asked
  abbrev settled_already : TaskSlot → Bool
  settled_already t = not (is_blocked (task_at k.tasks t).place)

  start : Woken now settled_already next
  start =
      record {
        nearly = record {
          tables = N.tables;
          range = N.range;
          listing = N.listing;
          due = λ t. not_due_lem (task_at k.tasks t).place (is_blocked (task_at k.tasks t).place) refl (and_left (wakes_in_range (task_at k.tasks t).place) _ (N.due t));
          counts = record { tick_range = omega arith; hold_range = N.counts.hold_range; pended_range = N.counts.pended_range; pends = N.counts.pends };
        };
        ticks = refl;
      }
    where
      not_due_lem : (p : Place) (b : Bool) → is_blocked p ≡ b → wakes_in_range p ≡ true → (if not b then not_due now p else wakes_in_range p) ≡ true
      not_due_lem p true e r = r
      not_due_lem p false e r = unblocked_due now p e

  -- the others all stand in the order of those who began
  everyone : (t : TaskSlot) → asked_all settled_already those_begun t ≡ true
  everyone t = go (is_blocked (task_at k.tasks t).place) refl
    where
      go : (b : Bool) → is_blocked (task_at k.tasks t).place ≡ b → asked_all settled_already those_begun t ≡ true
      go true e =
          let once : count t.0 those_begun ≡ 1 = rw e at (N.listing.remembered t) in
          asked_listed settled_already those_begun t (omega arith)
      go false e = asked_already settled_already those_begun t (not_off _ e)

  pub counted : Nearly (settled (counted_on k).tick) (counted_on k)
  unfolding counted_on wakes
  counted =
      let j = foldl woken_if_due next those_begun in
      let W = woken_all now settled_already those_begun next start in
      at_tick j W.ticks (reopen (settled now) j W.nearly (λ t. rw (everyone t) at (W.nearly.due t)))

  pub one_tick_lem : Ticked k (one_tick k)
  unfolding one_tick
  one_tick_lem =
      let j = counted_on k in
      record {
        nearly = at_tick (worked_out j) (worked_same j).tick (worked_nearly j counted);
        reckoned = worked_reckoned j counted.tables.task_slots;
        after = tick_after k;
      }

-- ── the turn of the line, and choose
turn_keeps : (k j : State) → RunsIn k → Ticked k j → k.hold ≡ 0 → Keeps (turned j)
unfolding turned to_tail
turn_keeps k j R T z = go (no_higher j.tasks (level j.tasks j.running) (listed j.order))
  where
    runs_ready : (task_at j.tasks j.running).place ≡ Ready
    runs_ready = ap (λ v. (task_at j.tasks v).place) T.after.running ∙ T.after.ready k.running R.ready

    no_hold : 0 < j.hold → ⊥
    no_hold h = omega (arith, T.after.hold)

    go : (b : Bool) → Keeps (if b then to_tail j j.running else j)
    go true =
        record { nearly = moved_nearly j T.nearly j.running (ready_low j.tasks j.running T.nearly.tables.task_slots runs_ready) (rw runs_ready); runs = λ h. absurd (no_hold h) }
    go false = record { nearly = T.nearly; runs = λ h. absurd (no_hold h) }

pub fresh_used : Used fresh_uses
fresh_used = uses_say fresh_uses fresh_fine

pub sound_unheld : (k : State) → Sound k → k.hold ≡ 0 → Unheld k
sound_unheld k S z = record { sound = sound_with k S fresh_used; free = z }

pub unheld_nearly : (k : State) → Unheld k → Nearly (settled k.tick) k
unheld_nearly k U = let N = sound_nearly (with_uses k fresh_uses) U.sound in record { tables = N.tables; range = N.range; listing = N.listing; due = N.due; counts = N.counts }

pub unheld_keeps : (k : State) → Unheld k → Keeps k
unheld_keeps k U = record { nearly = unheld_nearly k U; runs = λ h. absurd (omega (arith, U.free)) }

-- the turn and the choose, after a tick's wakes or by themselves
module _ (k j : State) (U : Unheld k) (T : Ticked k j) (C : NoCircle j.tasks j.objects) where
  pub turned_unheld : Unheld (turned_if true j)
  turned_unheld =
      let K = turn_keeps k j U.sound.running.runs T U.free in
      record { sound = chosen_sound (turned j) K.nearly (only_reckoned (turned_only j) T.reckoned) fresh_used NoCircle (only_circles (turned_only j) C) K.runs; free = (turn_only true j).hold ∙ T.after.hold ∙ U.free }

pub tick_unheld : (k : State) → Unheld k → Unheld (turned_if true (one_tick k))
tick_unheld k U = turned_unheld k (one_tick k) U (one_tick_lem k (unheld_nearly k U)) (tick_circles k U.sound.tables.task_slots U.sound.circles)

pub turn_unheld : (k : State) → Unheld k → Unheld (turned_if true k)
turn_unheld k U =
    turned_unheld k k U (record { nearly = unheld_nearly k U; reckoned = sound_reckoned (with_uses k fresh_uses) U.sound; after = record { objects = refl; hold = refl; running = refl; ready = λ t e. e } }) U.sound.circles

pub ticks_unheld : (n : ℕ) (k : State) → Unheld k → Unheld (ticks true n k)
unfolding ticks up_to
ticks_unheld zero k U = U
ticks_unheld (suc n) k U = tick_unheld (ticks true n k) (ticks_unheld n k U)

-- ── the calls
module _ (k : State) (S : Sound k) (store : ℕ) where
  N : Nearly (settled k.tick) k
  N = sound_nearly k S

  R : RunsIn k
  R = S.running.runs

  C : Counts k.tick k.hold k.pended
  C = S.clock.counts

  -- 8: hold
  pub hold_keeps : Passed k (nothing 8 0 0 1 0) store → Keeps (effect k (nothing 8 0 0 1 0))
  unfolding effect held asked no_depth
  hold_keeps P =
      let d = eqb-false k.hold 255 (or_off (eqb k.hold 255) false P.deep).0 in
      record {
        nearly = recount k (k.hold + 1) k.pended N
            (record { tick_range = C.tick_range; hold_range = omega (arith, C.hold_range, d); pended_range = C.pended_range; pends = λ e. absurd (omega arith) });
        runs = λ h. R;
      }

  -- 17: tick
  tick_pends : Passed k (nothing 17 0 0 1 0) store → 0 < k.hold → k.pended + 1 ≤ 65535
  unfolding no_tick
  tick_pends P h =
      let f : eqb k.pended 65535 ≡ false = rw (lt-ltb 0 k.hold h) at P.ticks in
      omega (arith, eqb-false k.pended 65535 f, C.pended_range)

  pub tick_keeps : Passed k (nothing 17 0 0 1 0) store → Keeps (effect k (nothing 17 0 0 1 0))
  unfolding effect ticked
  tick_keeps P = go (ltb 0 k.hold) refl
    where
      go : (b : Bool) → ltb 0 k.hold ≡ b → Keeps (if b then with_hold k k.hold (k.pended + 1) else turned (one_tick k))
      go true e =
          let h : 0 < k.hold = ltb-true 0 k.hold e in
          record {
            nearly = recount k k.hold (k.pended + 1) N
                (record { tick_range = C.tick_range; hold_range = C.hold_range; pended_range = tick_pends P h; pends = λ z. absurd (omega arith) });
            runs = λ q. R;
          }
      go false e = turn_keeps k (one_tick k) R (one_tick_lem k N) (omega (arith, ltb-false 0 k.hold e))

  -- 9: release
  all_ticks : (n : ℕ) (j : State) → Nearly (settled j.tick) j → j.hold ≡ 0 → Keeps (up_to (λ x i. one_tick x) n j) × ((up_to (λ x i. one_tick x) n j).hold ≡ 0)
  unfolding up_to
  all_ticks zero j M z = (record { nearly = M; runs = λ h. absurd (omega arith) }, z)
  all_ticks (suc n) j M z =
      let h = all_ticks n j M z in
      let T = one_tick_lem (up_to (λ x i. one_tick x) n j) h.0.nearly in
      let e : (one_tick (up_to (λ x i. one_tick x) n j)).hold ≡ 0 = T.after.hold ∙ h.1 in
      (record { nearly = T.nearly; runs = λ q. absurd (omega (arith, e)) }, e)

  pub release_keeps : Passed k (nothing 9 0 0 1 0) store → Keeps (effect k (nothing 9 0 0 1 0))
  unfolding effect released ticks asked no_depth
  release_keeps P = go (eqb k.hold 1) refl
    where
      some : (k.hold ≡ 0 → ⊥)
      some = eqb-false k.hold 0 P.deep

      go : (b : Bool) → eqb k.hold 1 ≡ b → Keeps (if b then up_to (λ x i. one_tick x) k.pended (with_hold k 0 0) else with_hold k (k.hold - 1) k.pended)
      go true e =
          (all_ticks k.pended (with_hold k 0 0)
          (recount k 0 0 N (record { tick_range = C.tick_range; hold_range = omega arith; pended_range = omega arith; pends = λ z. refl })) refl).0
      go false e =
          let d = eqb-false k.hold 1 e in
          record {
            nearly = recount k (k.hold - 1) k.pended N
                (record { tick_range = C.tick_range; hold_range = omega (arith, C.hold_range); pended_range = C.pended_range; pends = λ z. absurd (omega (arith, some, d)) });
            runs = λ h. R;
          }

  -- 18: advance
  pub advance_keeps : (n : ℕ) → Passed k (nothing 18 0 n 1 0) store → Keeps (effect k (nothing 18 0 n 1 0))
  unfolding effect advanced
  advance_keeps n P = unheld_keeps (ticks true n k) (ticks_unheld n k (sound_unheld k S (no_hold n P)))
    where
      no_hold : (m : ℕ) → Passed k (nothing 18 0 m 1 0) store → k.hold ≡ 0
      no_hold m Q = advance_free k (nothing 18 0 m 1 0) refl Q.held
