-- How many ticks may be slept through: before the next one on which somebody is due no task changes, and on it somebody is made ready.
use Prim.Native.Nat.{ℕ, zero, suc, ◌+◌, ◌<◌, ◌≤◌, min}
use mathlib.Core.Path.{◌≡◌, refl, sym, ap, ◌∙◌}
use mathlib.Core.Bool.{Bool, true, false, false≢true}
use mathlib.Core.List.{List, [], ◌∷◌}
use mathlib.Core.Logic.{◌⊎◌, inl, inr}
use native.Mathlib.Omega.{arith}
use lib.Dec.{ltb}
use lib.ListN.{get_or}
use borrow.Author.Tests.{eq-eqb, ltb-true, ltb-false}
use Rattle.lists.specs.Lists.{foldl, up_to}
use Rattle.lists.proofs.Bools.{off, and_right}
use Rattle.numbers.specs.Numbers.{task}
use Rattle.slots.specs.Places.{wakes_at, away}
use Rattle.slots.specs.Values.{free_task, task_at}
use Rattle.slots.specs.SoundSlots.{wakes_in_range, not_due}
use Rattle.rules.specs.Types.{TaskSlot, Never, At, Place, Free, Ready, Delayed, Waiting, Suspended, Spent, Task, State}
use Rattle.rules.specs.Tables.{with_uses}
use Rattle.rules.specs.Sentences.{WakeFits, Unheld}
use Rattle.rules.specs.Waits.{later}
use Rattle.rules.specs.Ticks.{SomeoneWakes, one_tick, until_due, turned_if, ticks, counted_on}
use Rattle.rules.specs.Loans.{Reckoned}
use Rattle.rules.proofs.TickJumps.{turn_only, turnings_only, later_more, least_kept, until_quiet, jump, quiet_tick}
use Rattle.rules.proofs.KeepTicks.{one_tick_lem, unheld_nearly, ticks_unheld, count_woke}
use Rattle.rules.proofs.BegunCalls.{due_blocked}
use Rattle.rules.proofs.LoanWorks.{worked_same, worked_place}
use Rattle.rules.proofs.KeepChosen.{sound_reckoned}
use Rattle.calls.specs.Door.{fresh_uses}

-- ── what a tick leaves: the count that comes next and the uses; and a task is as it was, or ready
pub record Woken (k j : State) : Type 0 where
  pub tick : j.tick ≡ later k.tick 1
  pub uses : j.uses ≡ k.uses
  pub either : (t : TaskSlot) → ((task_at j.tasks t).place ≡ (task_at k.tasks t).place) ⊎ ((task_at j.tasks t).place ≡ Ready)

pub tick_woken : (k : State) → Woken k (one_tick k)
unfolding one_tick
tick_woken k =
    let a = count_woke k in
    let s = worked_same (counted_on k) in
    record { tick = s.tick ∙ a.tick; uses = s.uses ∙ a.uses; either = λ t. rw (worked_place (counted_on k) t) (a.either t) }

-- n ticks leave the uses, and who was ready
pub ticks_uses : (b : Bool) (n : ℕ) (k : State) → (ticks b n k).uses ≡ k.uses
unfolding ticks up_to
ticks_uses b zero k = refl
ticks_uses b (suc n) k = (turn_only b (one_tick (ticks b n k))).uses ∙ (tick_woken (ticks b n k)).uses ∙ ticks_uses b n k

pub ticks_ready : (b : Bool) (n : ℕ) (k : State) (t : TaskSlot) → (task_at k.tasks t).place ≡ Ready → (task_at (ticks b n k).tasks t).place ≡ Ready
unfolding ticks up_to
ticks_ready b zero k t e = e
ticks_ready b (suc n) k t e =
    let j = ticks b n k in
    ap (λ (ts : List Task). (task_at ts t).place) (turn_only b (one_tick j)).tasks ∙ go ((tick_woken j).either t) (ticks_ready b n k t e)
  where
    go : {p q : Place} → (q ≡ p) ⊎ (q ≡ Ready) → p ≡ Ready → q ≡ Ready
    go (inl f) g = f ∙ g
    go (inr f) g = f

-- ── nobody is due
module _ (b : Bool) (k : State) (R : Reckoned k.tasks k.objects) where
  -- within so many ticks
  pub none_sooner : (n : ℕ) → k.tick ≤ 4294967295 → n ≤ until_due k.tick k.tasks → (ticks b n k).tasks ≡ k.tasks
  none_sooner n h l = ap (λ (j : State). j.tasks) (jump b (until_due k.tick k.tasks) n k (until_quiet k h R) l) ∙ (turnings_only b n k).tasks

  -- ever
  ever : ((m : ℕ) (t : TaskSlot) → wakes_at m (task_at k.tasks t).place ≡ false) → (n : ℕ) → ((ticks b n k).tasks ≡ k.tasks) × ((ticks b n k).objects ≡ k.objects)
  unfolding ticks up_to
  ever f zero = (refl, refl)
  ever f (suc n) =
      let j = ticks b n k in
      let same = ever f n in
      let m = later j.tick 1 in
      let q = quiet_tick j (λ t. ap (λ (ts : List Task). wakes_at m (task_at ts t).place) same.0 ∙ f m t) (rw (same.0, same.1) R) in
      ((turn_only b (one_tick j)).tasks ∙ ap (λ (i : State). i.tasks) q ∙ same.0, (turn_only b (one_tick j)).objects ∙ ap (λ (i : State). i.objects) q ∙ same.1)

  pub none_ever : ((m : ℕ) (t : TaskSlot) → wakes_at m (task_at k.tasks t).place ≡ false) → (n : ℕ) → (ticks b n k).tasks ≡ k.tasks
  none_ever f n = (ever f n).0

-- who is not due within 4,294,967,295 ticks has no wake tick, since that is not the count
pub never_due : (now m : ℕ) (p : Place) → now ≤ 4294967295 → WakeFits now p → 4294967295 ≤ away now p → wakes_at m p ≡ false
never_due now m Free n F h = refl
never_due now m Ready n F h = refl
never_due now m (Delayed w) n F h = absurd (F.delay_ahead w refl (omega (arith, F.delay_range w refl)))
never_due now m (Waiting o Never) n F h = refl
never_due now m (Waiting o (At w)) n F h = absurd (F.wait_ahead o w refl (omega (arith, F.wait_range o w refl)))
never_due now m Suspended n F h = refl
never_due now m Spent n F h = refl

-- ── somebody is due
due_then : (now d : ℕ) (p : Place) → now ≤ 4294967295 → WakeFits now p → away now p ≡ d → d < 4294967295 → wakes_at (later now (d + 1)) p ≡ true
due_then now d Free n F e h = absurd (omega arith)
due_then now d Ready n F e h = absurd (omega arith)
due_then now d (Delayed w) n F e h = eq-eqb w (later now (d + 1)) (omega (arith, F.delay_range w refl))
due_then now d (Waiting o Never) n F e h = absurd (omega arith)
due_then now d (Waiting o (At w)) n F e h = eq-eqb w (later now (d + 1)) (omega (arith, F.wait_range o w refl))
due_then now d Suspended n F e h = absurd (omega arith)
due_then now d Spent n F e h = absurd (omega arith)

-- the least distance is somebody's
record Nearest (now : ℕ) (ts : List Task) (d : ℕ) : Type 0 where
  slot : ℕ
  away_so : away now (get_or ts slot free_task).place ≡ d

nearest : (now : ℕ) (ts : List Task) (b : ℕ) → foldl (λ n x. min n (away now x.place)) b ts < b → Nearest now ts (foldl (λ n x. min n (away now x.place)) b ts)
unfolding foldl
nearest now [] b h = absurd (omega arith)
nearest now (x ∷ ts) b h = go (ltb d (min b (away now x.place))) refl (nearest now ts (min b (away now x.place)))
  where
    d : ℕ
    d = foldl (λ n y. min n (away now y.place)) (min b (away now x.place)) ts

    go : (c : Bool) → ltb d (min b (away now x.place)) ≡ c → (d < min b (away now x.place) → Nearest now ts d) → Nearest now (x ∷ ts) d
    go true e ih = let r = ih (ltb-true d (min b (away now x.place)) e) in record { slot = suc r.slot; away_so = r.away_so }
    go false e ih = record { slot = 0; away_so = omega (arith, ltb-false d (min b (away now x.place)) e, least_kept now ts (min b (away now x.place))) }

module _ (k : State) (U : Unheld k) where
  abbrev until : ℕ
  until = until_due k.tick k.tasks

  small : k.tick ≤ 4294967295
  small = U.sound.clock.counts.tick_range

  reckoned : Reckoned k.tasks k.objects
  reckoned = sound_reckoned (with_uses k fresh_uses) U.sound

  pub someone_then : until < 4294967295 → SomeoneWakes k (ticks true (suc until) k)
  unfolding ticks up_to until_due task_at
  someone_then h =
      let r = nearest k.tick k.tasks 4294967295 h in
      let t = task r.slot in
      let due = due_then k.tick until (task_at k.tasks t).place small (U.sound.clock.wakes t) r.away_so h in
      record { who = t; began = due_blocked (later k.tick (until + 1)) (task_at k.tasks t).place due; ready = now_ready t due }
    where
      j : State
      j = ticks true until k

      same : j.tasks ≡ k.tasks
      same = none_sooner true k reckoned until small (omega arith)

      counts_to : (one_tick j).tick ≡ later k.tick (until + 1)
      counts_to =
          (tick_woken j).tick ∙ ap (λ (i : State). later i.tick 1) (jump true until until k (until_quiet k small reckoned) (omega arith)) ∙ later_more k.tick until 1

      now_ready : (t : TaskSlot) → wakes_at (later k.tick (until + 1)) (task_at k.tasks t).place ≡ true → (task_at (turned_if true (one_tick j)).tasks t).place ≡ Ready
      now_ready t d = ap (λ (ts : List Task). (task_at ts t).place) (turn_only true (one_tick j)).tasks ∙ go ((tick_woken j).either t)
        where
          go : ((task_at (one_tick j).tasks t).place ≡ (task_at j.tasks t).place) ⊎ ((task_at (one_tick j).tasks t).place ≡ Ready) → (task_at (one_tick j).tasks t).place ≡ Ready
          go (inr e) = e
          go (inl e) =
              let T = one_tick_lem j (unheld_nearly j (ticks_unheld until k U)) in
              let f : not_due (one_tick j).tick (task_at (one_tick j).tasks t).place ≡ true = T.nearly.due t in
              let p : (task_at (one_tick j).tasks t).place ≡ (task_at k.tasks t).place = e ∙ ap (λ (ts : List Task). (task_at ts t).place) same in
              absurd (false≢true (sym (off (wakes_at (one_tick j).tick (task_at (one_tick j).tasks t).place) (and_right (wakes_in_range (task_at (one_tick j).tasks t).place) _ f)) ∙ rw (counts_to, p) d))
