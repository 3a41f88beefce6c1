-- An advance by n is n ticks one by one; and how long the board may sleep.
use Prim.Native.Nat.{ℕ, zero, suc, ◌+◌, ◌-◌, ◌<◌, ◌≤◌}
use mathlib.Core.Path.{◌≡◌, refl, sym, ap, subst, ◌∙◌}
use mathlib.Core.Bool.{Bool, true, false}
use mathlib.Core.List.{List, [], ◌∷◌}
use native.Mathlib.Omega.{arith}
use lib.Dec.{eqb, ltb, leb}
use lib.ListN.{length}
use borrow.Author.Tests.{eqb-true, lt-ltb, le-ltb, ltb-true, ltb-false, lt-leb}
use Rattle.std.proofs.Common.{if◌then◌else◌}
use Rattle.lists.specs.Lists.{up_to}
use Rattle.lists.proofs.Loops.{some_more}
use Rattle.calls.specs.Behind.{asked}
use Rattle.rows.specs.Applies.{out_of_range, names_none, wrong_size, not_for_idle, not_with_hold, none_free, not_his, his_already, count_full, not_suspended, must_wait, no_depth, no_tick, table}
use Rattle.slots.specs.Values.{task_at}
use Rattle.rules.specs.Tables.{with_uses, with_hold}
use Rattle.rules.specs.Lines.{chosen}
use Rattle.rules.specs.Sound.{sound}
use Rattle.rules.specs.Sentences.{Sound, Unheld}
use Rattle.rules.specs.Loans.{worked_out}
use Rattle.rules.specs.Ticks.{SomeoneWakes, one_tick, until_due, turned, turned_if, ticked, ticks, released, advanced, sleeps}
use Rattle.rules.specs.Circles.{closes_circle}
use Rattle.rules.specs.Refusals.{in_use, later_row, refusal}
use Rattle.rules.specs.Effects.{effect}
use Rattle.rules.specs.Steps.{Stepped, stored, answered, uses_after, after, accepted, turned_away, step}
use Rattle.rules.proofs.SoundSays.{sound_says}
use Rattle.rules.proofs.RowPasses.{above_0, passed, advance_free}
use Rattle.rules.proofs.TickJumps.{chosen_only, until_quiet}
use Rattle.rules.proofs.LoanWorks.{worked_still}
use Rattle.rules.proofs.LoanStill.{ticked_reckoned, advanced_reckoned}
use Rattle.rules.proofs.KeepChosen.{sound_reckoned}
use Rattle.rules.proofs.KeepTicks.{sound_unheld, ticks_unheld}
use Rattle.rules.proofs.KeepEvery.{step_kept}
use Rattle.rules.proofs.LineTurns.{chosen_again}
use Rattle.rules.proofs.TickSleeps.{ticks_uses, ticks_ready, none_sooner, none_ever, never_due, someone_then}
use Rattle.promises.specs.Types.{Asked, Call, Advance, Tick, Ready, State}
use Rattle.promises.proofs.AlikeSteps.{not_refused}
use Rattle.promises.specs.Advance.{singly, done_with, AsTicks, AdvanceRefused, SleepsSo}

-- ── which row applies
module _ (k : State) (item store : ℕ) (whole : store ≡ 9216) where
  tick_passes : k.hold ≡ 0 → later_row k (asked k.uses Tick) item store ≡ 0
  unfolding asked later_row table out_of_range names_none wrong_size not_for_idle not_with_hold none_free in_use not_his his_already count_full not_suspended closes_circle must_wait no_depth no_tick
  tick_passes z = rw (z, whole)

  advance_passes : k.hold ≡ 0 → (n : ℕ) → 1 ≤ n → n ≤ 65535 → later_row k (asked k.uses (Advance n)) item store ≡ 0
  unfolding asked later_row table out_of_range names_none wrong_size not_for_idle not_with_hold none_free in_use not_his his_already count_full not_suspended closes_circle must_wait no_depth no_tick
  advance_passes z n l m = rw (z, whole, lt-leb 4294967295 n (omega arith), le-ltb n 1 l, le-ltb 65535 n m)

  too_many : (n : ℕ) (b : Bool) → leb 4294967295 n ≡ b → 65535 < n → later_row k (asked k.uses (Advance n)) item store ≡ 4
  unfolding asked later_row table out_of_range
  too_many n true e l = rw (whole, e)
  too_many n false e l = rw (whole, e, le-ltb n 1 (omega arith), lt-ltb 65535 n l)

pub advance_refused : (k : State) (item s : List ℕ) (n : ℕ) → sound k ≡ true → length s ≡ 9216 → AdvanceRefused k item s n
unfolding asked refusal later_row table out_of_range names_none wrong_size not_for_idle not_with_hold
advance_refused k item s n e whole =
    record {
      none = λ l. rw (e, whole, lt-leb 4294967295 n (omega arith), lt-ltb n 1 l);
      too_many = λ l. rw e (too_many k (length item) (length s) whole n (leb 4294967295 n) refl l);
      held = λ l m h. rw (e, whole, lt-leb 4294967295 n (omega arith), le-ltb n 1 l, le-ltb 65535 n m, lt-ltb 0 k.hold h);
    }

ticked_free : (k : State) → k.hold ≡ 0 → ticked k ≡ turned (one_tick k)
unfolding ticked
ticked_free k z = rw (le-ltb 0 k.hold (omega arith))

-- ── one tick, and an advance, where nothing is held
module _ (k : State) (s : List ℕ) (e : sound k ≡ true) (z : k.hold ≡ 0) (whole : length s ≡ 9216) where
  U : Unheld k
  U = sound_unheld k (sound_says k e) z

  still : (n : ℕ) → (task_at (ticks true n k).tasks k.running).place ≡ Ready
  still n = ticks_ready true n k k.running (sound_says k e).running.runs.ready

  advance_step : (item : List ℕ) (n : ℕ) → 1 ≤ n → n ≤ 65535 → step k (Advance n) item s ≡ done_with (ticks true n k) s
  unfolding step refusal accepted after answered stored uses_after effect advanced asked
  advance_step item n l m =
      rw (e, advance_passes k (length item) (length s) whole z n l m, worked_still (ticks true n k) (advanced_reckoned k (sound_says k e) n))
      (rw (chosen_again (ticks true n k) (ticks_unheld n k U), still n)
      (ap (λ us. done_with (with_uses (ticks true n k) us) s) (sym (ticks_uses true n k))))

  tick_step : step k Tick [] s ≡ done_with (turned_if true (one_tick k)) s
  unfolding step refusal accepted after answered stored uses_after effect asked ticks up_to
  tick_step =
      rw (e, tick_passes k 0 (length s) whole z, worked_still (ticked k) (ticked_reckoned k (sound_says k e)), ticked_free k z, still 1)
      (ap (λ us. done_with (with_uses (turned_if true (one_tick k)) us) s) (sym (ticks_uses true 1 k)))

-- so n ticks are
module _ (k : State) (s : List ℕ) (e : sound k ≡ true) (z : k.hold ≡ 0) (whole : length s ≡ 9216) where
  record Singly (n : ℕ) : Type 0 where
    is : singly n (done_with k s) ≡ done_with (ticks true n k) s
    sound_then : sound (ticks true n k) ≡ true

  singly_is : (n : ℕ) → Singly n
  unfolding singly ticks up_to
  singly_is zero = record { is = refl; sound_then = e }
  singly_is (suc n) =
      let T = singly_is n in
      let j = ticks true n k in
      let one = tick_step j s T.sound_then (ticks_unheld n k (sound_unheld k (sound_says k e) z)).free whole in
      record {
        is = ap (λ (d : Stepped). step d.kernel Tick [] d.store) T.is ∙ one;
        sound_then = subst (λ (d : Stepped). sound d.kernel ≡ true) one (step_kept j Tick [] s T.sound_then);
      }

-- ── with a store of another length, or a kernel that is not sound, nothing changes
module _ (k : State) (s : List ℕ) (m : ℕ) (no : (c : Call) (item : List ℕ) → step k c item s ≡ turned_away k m s) where
  pub none_changed : (n : ℕ) → singly (suc n) (done_with k s) ≡ turned_away k m s
  unfolding singly up_to
  none_changed zero = no Tick []
  none_changed (suc n) = ap (λ (d : Stepped). step d.kernel Tick [] d.store) (none_changed n) ∙ no Tick []

turned_away_2 : (k : State) (s : List ℕ) → sound k ≡ true → eqb (length s) 9216 ≡ false → (c : Call) (item : List ℕ) → step k c item s ≡ turned_away k 2 s
unfolding step refusal later_row table
turned_away_2 k s e f c item = rw (e, f)

turned_away_1 : (k : State) (s : List ℕ) → sound k ≡ false → (c : Call) (item : List ℕ) → step k c item s ≡ turned_away k 1 s
unfolding step refusal
turned_away_1 k s e c item = rw e

-- ── "the result must equal n single ticks one by one"
module _ (k : State) (item : List ℕ) (e : sound k ≡ true) (z : k.hold ≡ 0) where
  same_step : (s : List ℕ) (n : ℕ) → 1 ≤ n → n ≤ 65535 → step k (Advance n) item s ≡ singly n (done_with k s)
  same_step s n l m = go (eqb (length s) 9216) refl n l m
    where
      go : (b : Bool) → eqb (length s) 9216 ≡ b → (n : ℕ) → 1 ≤ n → n ≤ 65535 → step k (Advance n) item s ≡ singly n (done_with k s)
      go b q zero l m = absurd (omega arith)
      go true q (suc i) l m = let w = eqb-true (length s) 9216 q in advance_step k s e z w item (suc i) l m ∙ sym (singly_is k s e z w (suc i)).is
      go false q (suc i) l m = turned_away_2 k s e q (Advance (suc i)) item ∙ sym (none_changed k s 2 (turned_away_2 k s e q) i)

-- what the answer was does not tell in the next step
from_there : (d : Stepped) (n : ℕ) → singly (suc n) (done_with d.kernel d.store) ≡ singly (suc n) d
unfolding singly up_to
from_there d zero = refl
from_there d (suc n) = ap (λ (x : Stepped). step x.kernel Tick [] x.store) (from_there d n)

module _ (k : State) (item s : List ℕ) (e : sound k ≡ true) (z : k.hold ≡ 0) where
  still_free : (n : ℕ) → 1 ≤ n → n ≤ 65535 → (step k (Advance n) item s).kernel.hold ≡ 0
  still_free n l m = go (eqb (length s) 9216) refl
    where
      go : (b : Bool) → eqb (length s) 9216 ≡ b → (step k (Advance n) item s).kernel.hold ≡ 0
      go true q =
          ap (λ (d : Stepped). d.kernel.hold) (advance_step k s e z (eqb-true (length s) 9216 q) item n l m) ∙ (ticks_unheld n k (sound_unheld k (sound_says k e) z)).free
      go false q = ap (λ (d : Stepped). d.kernel.hold) (turned_away_2 k s e q (Advance n) item) ∙ z

  in_two : (a b n : ℕ) → 1 ≤ a → 1 ≤ b → n ≤ 65535 → n ≡ a + b → let d = step k (Advance a) item s in step d.kernel (Advance b) item d.store ≡ step k (Advance n) item s
  unfolding singly
  in_two a zero n p q m r = absurd (omega arith)
  in_two a (suc b) n p q m r =
      let d = step k (Advance a) item s in
      same_step d.kernel item (step_kept k (Advance a) item s e) (still_free a p (omega arith)) d.store (suc b) q (omega arith)
      ∙ from_there d b
      ∙ ap (singly (suc b)) (same_step k item e z s a p (omega arith))
      ∙ sym (some_more (λ (x : Stepped). step x.kernel Tick [] x.store) (done_with k s) a (suc b) n r)
      ∙ sym (same_step k item e z s n (omega arith) m)

pub advance_is_ticks : (k : State) → sound k ≡ true → k.hold ≡ 0 → (item s : List ℕ) (n : ℕ) → 1 ≤ n → n ≤ 65535 → AsTicks k item s n
advance_is_ticks k e z item s n l m = record { same = same_step k item e z s n l m; prefix = λ a b p q r. in_two k item s e z a b n p q m r }

-- ── how long the board may sleep
at_first : (k : State) (s : List ℕ) → (singly 0 (done_with k s)).kernel.tasks ≡ k.tasks
unfolding singly up_to
at_first k s = refl

-- with a hold ticks are pended, or refused
record Pends (k : State) (s : List ℕ) (d : Stepped) : Type 0 where
  tasks : d.kernel.tasks ≡ k.tasks
  hold : 0 < d.kernel.hold
  store : d.store ≡ s

pended_step : (k : State) (s : List ℕ) → 0 < k.hold → Pends k s (step k Tick [] s)
unfolding step accepted after stored effect ticked asked
pended_step k s h = go (eqb no 0) refl
  where
    no : ℕ
    no = refusal k (asked k.uses Tick) 0 (length s)

    j : State
    j = with_hold k k.hold (k.pended + 1)

    next : Sound k → worked_out (ticked k) ≡ j
    next S = worked_still (ticked k) (ticked_reckoned k S) ∙ rw (lt-ltb 0 k.hold h)

    go : (b : Bool) → eqb no 0 ≡ b → Pends k s (if b then accepted k (asked k.uses Tick) [] s else turned_away k no s)
    go true q =
        let e = next (sound_says k (not_refused k (asked k.uses Tick) 0 (length s) (eqb-true _ 0 q)).0) in
        record { tasks = ap (λ (i : State). (chosen i).tasks) e ∙ (chosen_only j).tasks; hold = rw (e, (chosen_only j).hold) h; store = refl }
    go false q = record { tasks = refl; hold = h; store = refl }

pends : (k : State) (s : List ℕ) → 0 < k.hold → (n : ℕ) → Pends k s (singly n (done_with k s))
unfolding singly up_to
pends k s h zero = record { tasks = refl; hold = h; store = refl }
pends k s h (suc n) =
    let p = pends k s h n in
    let d = singly n (done_with k s) in
    let q = pended_step d.kernel d.store p.hold in
    record { tasks = q.tasks ∙ p.tasks; hold = q.hold; store = q.store ∙ p.store }

-- where no tick changes a task, none does in single steps and none in an advance, whatever refuses them
abbrev Quiet : State → ℕ → Type 0
Quiet k n = sound k ≡ true → k.hold ≡ 0 → (ticks true n k).tasks ≡ k.tasks

module _ (k : State) (s : List ℕ) where
  singly_quiet : (n : ℕ) → Quiet k n → (singly n (done_with k s)).kernel.tasks ≡ k.tasks
  singly_quiet n f = go (sound k) refl (eqb k.hold 0) refl (eqb (length s) 9216) refl n f
    where
      go : (a : Bool) → sound k ≡ a → (b : Bool) → eqb k.hold 0 ≡ b → (c : Bool) → eqb (length s) 9216 ≡ c → (m : ℕ) → Quiet k m → (singly m (done_with k s)).kernel.tasks ≡ k.tasks
      go true e true z true w m g =
          let y = eqb-true k.hold 0 z in
          ap (λ (d : Stepped). d.kernel.tasks) (singly_is k s e y (eqb-true (length s) 9216 w) m).is ∙ g e y
      go a e false z c w m g = (pends k s (above_0 k.hold z) m).tasks
      go true e true z false w zero g = at_first k s
      go true e true z false w (suc m) g = ap (λ (d : Stepped). d.kernel.tasks) (none_changed k s 2 (turned_away_2 k s e w) m)
      go false e true z c w zero g = at_first k s
      go false e true z c w (suc m) g = ap (λ (d : Stepped). d.kernel.tasks) (none_changed k s 1 (turned_away_1 k s e) m)

  advance_quiet : (item : List ℕ) (n : ℕ) → Quiet k n → (step k (Advance n) item s).kernel.tasks ≡ k.tasks
  unfolding step accepted after effect advanced asked
  advance_quiet item n f = go (eqb (refusal k a (length item) (length s)) 0) refl
    where
      a : Asked
      a = asked k.uses (Advance n)

      go : (b : Bool) → eqb (refusal k a (length item) (length s)) 0 ≡ b
          → (if b then accepted k a item s else turned_away k (refusal k a (length item) (length s)) s).kernel.tasks ≡ k.tasks
      go true q =
          let r = not_refused k a (length item) (length s) (eqb-true _ 0 q) in
          ap (λ (j : State). (chosen j).tasks) (worked_still (ticks true n k) (advanced_reckoned k (sound_says k r.0) n))
          ∙ (chosen_only (ticks true n k)).tasks
          ∙ f r.0 (advance_free k a refl (passed k a (length item) (length s) r.1).held)
      go false q = refl

-- what the answer says of the distance
record Until (k : State) (d : ℕ) : Type 0 where
  is_sound : sound k ≡ true
  due_at : until_due k.tick k.tasks + 1 ≡ d
  some : until_due k.tick k.tasks < 4294967295

no_list : (d : ℕ) → [] ≡ d ∷ [] → ⊥
no_list d e = let z : ◌≡◌ {A = ℕ} 0 1 = cc in omega arith

module _ (k : State) where
  abbrev until : ℕ
  until = until_due k.tick k.tasks

  until_is : (d : ℕ) → sleeps k ≡ d ∷ [] → Until k d
  unfolding sleeps
  until_is d e = go (sound k) refl (ltb until 4294967295) refl e
    where
      go : (a : Bool) → sound k ≡ a → (b : Bool) → ltb until 4294967295 ≡ b → (if a then (if b then (until + 1) ∷ [] else []) else []) ≡ d ∷ [] → Until k d
      go true f true g h = record { is_sound = f; due_at = cc; some = ltb-true until 4294967295 g }
      go true f false g h = absurd (no_list d h)
      go false f b g h = absurd (no_list d h)

  never : sleeps k ≡ [] → sound k ≡ true → 4294967295 ≤ until
  unfolding sleeps
  never e f = go (ltb until 4294967295) refl (rw f at e)
    where
      go : (b : Bool) → ltb until 4294967295 ≡ b → (if b then (until + 1) ∷ [] else []) ≡ [] → 4294967295 ≤ until
      go true g h = absurd (no_list (until + 1) (sym h))
      go false g h = ltb-false until 4294967295 g

  sooner_quiet : (d n : ℕ) → sleeps k ≡ d ∷ [] → n < d → Quiet k n
  sooner_quiet d n h l e z = let u = until_is d h in none_sooner true k (sound_reckoned k (sound_says k e)) n (sound_says k e).clock.counts.tick_range (omega (arith, u.due_at))

  ever_quiet : (n : ℕ) → sleeps k ≡ [] → Quiet k n
  ever_quiet n h e z =
      let C = (sound_says k e).clock in
      let R = sound_reckoned k (sound_says k e) in
      let small = C.counts.tick_range in
      none_ever true k R (λ m t. never_due k.tick m (task_at k.tasks t).place small (C.wakes t) (omega (arith, never h e, (until_quiet k small R).away t))) n

  released_quiet : (d : ℕ) → sleeps k ≡ d ∷ [] → k.pended < d → (released k).tasks ≡ k.tasks
  unfolding released
  released_quiet d h l = go (eqb k.hold 1)
    where
      u : Until k d
      u = until_is d h

      go : (b : Bool) → (if b then ticks false k.pended (with_hold k 0 0) else with_hold k (k.hold - 1) k.pended).tasks ≡ k.tasks
      go true = none_sooner false (with_hold k 0 0) (sound_reckoned k (sound_says k u.is_sound)) k.pended (sound_says k u.is_sound).clock.counts.tick_range (omega (arith, u.due_at))
      go false = refl

  someone : (d : ℕ) → sleeps k ≡ d ∷ [] → k.hold ≡ 0 → SomeoneWakes k (ticks true d k)
  someone d h z =
      let u = until_is d h in
      let q : suc until ≡ d = omega (arith, u.due_at) in
      subst (λ (n : ℕ). SomeoneWakes k (ticks true n k)) q (someone_then k (sound_unheld k (sound_says k u.is_sound) z) u.some)

  pub sleeps_so : SleepsSo k
  sleeps_so =
      record {
        fewer = λ s d n h l. singly_quiet k s n (sooner_quiet d n h l);
        for_ever = λ s n h. singly_quiet k s n (ever_quiet n h);
        fewer_advanced = λ item s d n h l. advance_quiet k s item n (sooner_quiet d n h l);
        advanced_for_ever = λ item s n h. advance_quiet k s item n (ever_quiet n h);
        fewer_released = released_quiet;
        that_many = λ s d h z w. subst (λ (r : Stepped). SomeoneWakes k r.kernel) (sym (singly_is k s (until_is d h).is_sound z w d).is) (someone d h z);
        that_many_advanced = λ item s d h z w m.
            let u = until_is d h in
            subst (λ (r : Stepped). SomeoneWakes k r.kernel) (sym (advance_step k s u.is_sound z w item d (omega (arith, u.due_at)) m)) (someone d h z);
      }
