-- Ticks on which nobody is due: only the count and the turn change. So several ticks are a jump to the next one on which somebody is due, then a plain tick, and so on.
use Prim.Native.Nat.{ℕ, zero, suc, ◌+◌, ◌%◌, ◌<◌, ◌≤◌, min}
use mathlib.Core.Path.{◌≡◌, refl, sym, ap, ◌∙◌}
use mathlib.Core.Bool.{Bool, true, false}
use mathlib.Core.List.{List, [], ◌∷◌}
use native.Mathlib.Nat.{mod-add-mod}
use native.Mathlib.Omega.{arith}
use lib.Dec.{eqb}
use lib.ListN.{get_or}
use borrow.Author.Tests.{ne_eqb}
use Rattle.std.proofs.Common.{if◌then◌else◌}
use Rattle.lists.specs.Lists.{foldl, up_to}
use Rattle.lists.proofs.Loops.{some_more}
use Rattle.order.specs.Order.{listed}
use Rattle.slots.specs.Places.{wakes_at, ahead, away}
use Rattle.slots.specs.Values.{free_task, task_at}
use Rattle.rules.specs.Sentences.{NoCircle}
use Rattle.rules.specs.Types.{TaskSlot, Never, At, Place, Free, Ready, Delayed, Waiting, Suspended, Spent, Task, all_ready, State}
use Rattle.rules.specs.Tables.{with_tick}
use Rattle.rules.specs.Lines.{begun, level, first, runs_if, chosen, to_tail}
use Rattle.rules.specs.Sound.{no_higher}
use Rattle.rules.specs.Waits.{later}
use Rattle.rules.specs.Loans.{worked_out, Reckoned}
use Rattle.rules.specs.Ticks.{woken_if_due, wakes, counted_on, one_tick, until_due, turned, turned_if, turnings, ticks}
use Rattle.rules.proofs.LoanWorks.{worked_still}

-- ── one task: it is not due before its wake tick
before_wake : (now w d i : ℕ) → now ≤ 4294967295 → d ≤ ahead now w → i < d → eqb w (later now (suc i)) ≡ false
before_wake now w d i n h l = ne_eqb w (later now (suc i)) (λ e. omega arith)

pub not_yet : (now d i : ℕ) (p : Place) → now ≤ 4294967295 → d ≤ away now p → i < d → wakes_at (later now (suc i)) p ≡ false
not_yet now d i Free n h l = refl
not_yet now d i Ready n h l = refl
not_yet now d i (Delayed w) n h l = before_wake now w d i n h l
not_yet now d i (Waiting o Never) n h l = refl
not_yet now d i (Waiting o (At w)) n h l = before_wake now w d i n h l
not_yet now d i Suspended n h l = refl
not_yet now d i Spent n h l = refl

-- ── who is not due is passed over, and where nobody is due the wakes change nothing
pub passed_over : (k : State) (t : TaskSlot) → wakes_at k.tick (task_at k.tasks t).place ≡ false → woken_if_due k t ≡ k
unfolding woken_if_due
passed_over k t e = rw e

pub none_woken : (k : State) → ((t : TaskSlot) → wakes_at k.tick (task_at k.tasks t).place ≡ false) → (l : List TaskSlot) → wakes k l ≡ k
unfolding wakes foldl
none_woken k f [] = refl
none_woken k f (t ∷ l) = ap (λ (j : State). foldl woken_if_due j l) (passed_over k t (f t)) ∙ none_woken k f l

-- within the next d ticks nobody is due, and each effective priority is the rule's
pub record NobodyDue (d : ℕ) (k : State) : Type 0 where
  pub counts : k.tick ≤ 4294967295
  pub reckoned : Reckoned k.tasks k.objects
  pub away : (t : TaskSlot) → d ≤ away k.tick (task_at k.tasks t).place

pub later_more : (now a b : ℕ) → later (later now a) b ≡ later now (a + b)
later_more now a b = mod-add-mod (now + a) 4294967296 b ∙ ap (λ x. x % 4294967296) (omega arith)

-- ── the turns alone: they change the order and who runs, and no task and no count
pub record OnlyTurned (k j : State) : Type 0 where
  pub tasks : j.tasks ≡ k.tasks
  pub objects : j.objects ≡ k.objects
  pub tick : j.tick ≡ k.tick
  pub hold : j.hold ≡ k.hold
  pub uses : j.uses ≡ k.uses

module _ (k : State) where
  pub chosen_only : OnlyTurned k (chosen k)
  unfolding chosen
  chosen_only = go (eqb k.hold 0) (first k all_ready)
    where
      go : (b : Bool) (l : List TaskSlot) → OnlyTurned k (if b then runs_if k l else k)
      go true [] = record { tasks = refl; objects = refl; tick = refl; hold = refl; uses = refl }
      go true (t ∷ l) = record { tasks = refl; objects = refl; tick = refl; hold = refl; uses = refl }
      go false l = record { tasks = refl; objects = refl; tick = refl; hold = refl; uses = refl }

  pub chosen_order : (chosen k).order ≡ k.order
  unfolding chosen
  chosen_order = go (eqb k.hold 0) (first k all_ready)
    where
      go : (b : Bool) (l : List TaskSlot) → (if b then runs_if k l else k).order ≡ k.order
      go true [] = refl
      go true (t ∷ l) = refl
      go false l = refl

  pub turned_only : OnlyTurned k (turned k)
  unfolding turned to_tail
  turned_only = go (no_higher k.tasks (level k.tasks k.running) (listed k.order))
    where
      go : (b : Bool) → OnlyTurned k (if b then to_tail k k.running else k)
      go true = record { tasks = refl; objects = refl; tick = refl; hold = refl; uses = refl }
      go false = record { tasks = refl; objects = refl; tick = refl; hold = refl; uses = refl }

-- so each effective priority is what it was, and the rule's if it was
pub only_reckoned : {k j : State} → OnlyTurned k j → Reckoned k.tasks k.objects → Reckoned j.tasks j.objects
only_reckoned o R = rw (o.tasks, o.objects) R

pub only_circles : {k j : State} → OnlyTurned k j → NoCircle k.tasks k.objects → NoCircle j.tasks j.objects
only_circles o C = rw (o.tasks, o.objects) C

pub turn_only : (b : Bool) (k : State) → OnlyTurned k (turned_if b k)
turn_only true k =
    let t = turned_only k in
    let c = chosen_only (turned k) in
    record { tasks = c.tasks ∙ t.tasks; objects = c.objects ∙ t.objects; tick = c.tick ∙ t.tick; hold = c.hold ∙ t.hold; uses = c.uses ∙ t.uses }
turn_only false k = record { tasks = refl; objects = refl; tick = refl; hold = refl; uses = refl }

pub turnings_only : (b : Bool) (n : ℕ) (k : State) → OnlyTurned k (turnings b n k)
unfolding up_to
turnings_only b zero k = record { tasks = refl; objects = refl; tick = refl; hold = refl; uses = refl }
turnings_only b (suc n) k =
    let s = turnings_only b n k in
    let t = turn_only b (turnings b n k) in
    record { tasks = t.tasks ∙ s.tasks; objects = t.objects ∙ s.objects; tick = t.tick ∙ s.tick; hold = t.hold ∙ s.hold; uses = t.uses ∙ s.uses }

-- they do not look at the count
module _ (k : State) (m : ℕ) where
  turned_at : turned (with_tick k m) ≡ with_tick (turned k) m
  unfolding turned to_tail
  turned_at = go (no_higher k.tasks (level k.tasks k.running) (listed k.order))
    where
      go : (b : Bool) → (if b then to_tail (with_tick k m) k.running else with_tick k m) ≡ with_tick (if b then to_tail k k.running else k) m
      go true = refl
      go false = refl

  chosen_at : chosen (with_tick k m) ≡ with_tick (chosen k) m
  unfolding chosen first
  chosen_at = go (eqb k.hold 0) (first k all_ready)
    where
      go : (b : Bool) (l : List TaskSlot) → (if b then runs_if (with_tick k m) l else with_tick k m) ≡ with_tick (if b then runs_if k l else k) m
      go true [] = refl
      go true (t ∷ l) = refl
      go false l = refl

turn_at : (b : Bool) (k : State) (m : ℕ) → turned_if b (with_tick k m) ≡ with_tick (turned_if b k) m
turn_at true k m = ap chosen (turned_at k m) ∙ chosen_at (turned k) m
turn_at false k m = refl

-- without the turns nothing is turned
pub no_turnings : (n : ℕ) (k : State) → turnings false n k ≡ k
unfolding up_to
no_turnings zero k = refl
no_turnings (suc n) k = no_turnings n k

-- ── "nobody is due: only the count and the turn change"
pub quiet_tick : (k : State) → ((t : TaskSlot) → wakes_at (later k.tick 1) (task_at k.tasks t).place ≡ false) → Reckoned k.tasks k.objects → one_tick k ≡ with_tick k (later k.tick 1)
unfolding one_tick counted_on
quiet_tick k f R =
    ap worked_out (none_woken (with_tick k (later k.tick 1)) f (begun k.tasks (listed k.order))) ∙ worked_still (with_tick k (later k.tick 1)) R

pub jump : (b : Bool) (d n : ℕ) (k : State) → NobodyDue d k → n ≤ d → ticks b n k ≡ with_tick (turnings b n k) (later k.tick n)
unfolding ticks up_to
jump b d zero k Q h = let e : k.tick ≡ later k.tick 0 = omega (arith, Q.counts) in ap (with_tick k) e
jump b d (suc n) k Q h =
    ap (λ (j : State). turned_if b (one_tick j)) (jump b d n k Q (omega arith))
    ∙ ap (turned_if b) (quiet_tick (with_tick j (later k.tick n)) (λ t. rw counts_on (not_due t)) (only_reckoned (turnings_only b n k) Q.reckoned) ∙ ap (with_tick j) counts_on)
    ∙ turn_at b j (later k.tick (suc n))
  where
    j : State
    j = turnings b n k

    counts_on : later (later k.tick n) 1 ≡ later k.tick (suc n)
    counts_on = later_more k.tick n 1 ∙ ap (later k.tick) (omega arith)

    not_due : (t : TaskSlot) → wakes_at (later k.tick (suc n)) (task_at j.tasks t).place ≡ false
    not_due t = rw (turnings_only b n k).tasks (not_yet k.tick d n (task_at k.tasks t).place Q.counts (Q.away t) (omega arith))

-- some ticks, and then some more
pub ticks_more : (b : Bool) (a n m : ℕ) (k : State) → m ≡ a + n → ticks b m k ≡ ticks b n (ticks b a k)
unfolding ticks
ticks_more b a n m k e = some_more (λ j. turned_if b (one_tick j)) k a n m e

-- ── how far the next wake is
pub least_kept : (now : ℕ) (ts : List Task) (b : ℕ) → foldl (λ n x. min n (away now x.place)) b ts ≤ b
unfolding foldl
least_kept now [] b = omega arith
least_kept now (x ∷ ts) b = omega (arith, least_kept now ts (min b (away now x.place)))

least_each : (now : ℕ) (ts : List Task) (b : ℕ) → b ≤ 4294967295 → (i : ℕ) → foldl (λ n x. min n (away now x.place)) b ts ≤ away now (get_or ts i free_task).place
unfolding foldl
least_each now [] b h i = omega arith
least_each now (x ∷ ts) b h zero = omega (arith, least_kept now ts (min b (away now x.place)))
least_each now (x ∷ ts) b h (suc i) = least_each now ts (min b (away now x.place)) (omega arith) i

pub until_quiet : (k : State) → k.tick ≤ 4294967295 → Reckoned k.tasks k.objects → NobodyDue (until_due k.tick k.tasks) k
unfolding until_due task_at
until_quiet k h R = record { counts = h; reckoned = R; away = λ t. least_each k.tick k.tasks 4294967295 (omega arith) t.0 }

-- ── the code's rounds
-- nobody is due within those left
pub jump_all : (b : Bool) (k : State) (d n : ℕ) → k.tick ≤ 4294967295 → Reckoned k.tasks k.objects → d ≡ until_due k.tick k.tasks → n ≤ d → with_tick (turnings b n k) (later k.tick n) ≡ ticks b n k
jump_all b k d n h R e l = sym (jump b (until_due k.tick k.tasks) n k (until_quiet k h R) (omega arith))

-- a jump, and then a tick on which somebody may be due
pub jump_tick : (b : Bool) (k next : State) (d n m : ℕ) → k.tick ≤ 4294967295 → Reckoned k.tasks k.objects → d ≡ until_due k.tick k.tasks → n ≡ d + 1 + m
    → next ≡ turned_if b (one_tick (with_tick (turnings b d k) (later k.tick d))) → ticks b m next ≡ ticks b n k
unfolding ticks up_to
jump_tick b k next d n m h R e q r =
    let j : ticks b d k ≡ with_tick (turnings b d k) (later k.tick d) = jump b (until_due k.tick k.tasks) d k (until_quiet k h R) (omega arith) in
    ap (ticks b m) (r ∙ ap (λ (i : State). turned_if b (one_tick i)) (sym j)) ∙ sym (ticks_more b (suc d) m n k (omega arith))
