-- Of two tasks due on the same tick the one that began earlier is made ready first, by a tick, by a release and by an advance, and stands ahead where both join the line of the
-- effective priority that they had.
use Prim.Native.Nat.{ℕ, suc, ◌<◌}
use mathlib.Core.Path.{◌≡◌, sym, ap, subst, ◌∙◌}
use mathlib.Core.Bool.{true, false, false≢true}
use mathlib.Core.List.{List, [], ◌∷◌, ◌++◌}
use mathlib.Core.Logic.{◌⊎◌, inl, inr}
use native.Mathlib.Omega.{arith}
use Rattle.lists.specs.Lists.{foldl, up_to}
use borrow.Author.Tests.{eqb-true}
use Rattle.lists.proofs.Bools.{and_left, and_right}
use Rattle.calls.specs.Behind.{asked}
use Rattle.order.specs.Order.{listed}
use Rattle.order.proofs.Passing.{one_number}
use Rattle.slots.specs.Places.{is_ready, is_blocked, wakes_at}
use Rattle.slots.specs.Values.{in_line, task_at}
use Rattle.rules.specs.Tables.{fresh, with_tick, with_hold}
use Rattle.rules.specs.Lines.{line, has_begun, begun, Ahead, level, chosen}
use Rattle.rules.specs.Sentences.{Sound, Unheld}
use Rattle.rules.specs.Waits.{later}
use Rattle.rules.specs.Ticks.{ReadyFirst, one_tick, turned, ticks}
use Rattle.rules.specs.Steps.{after, accepted}
use Rattle.rules.specs.Trace.{trace, CallMade, step_made}
use Rattle.rules.proofs.TableSlots.{is_ready_lem}
use Rattle.rules.proofs.SoundSays.{sound_says}
use Rattle.rules.proofs.Traces.{more_calls}
use Rattle.rules.proofs.TickJumps.{chosen_only, chosen_order}
use Rattle.rules.proofs.TickSleeps.{ticks_uses}
use Rattle.rules.proofs.KeepChosen.{sound_reckoned}
use Rattle.rules.proofs.KeepTicks.{sound_unheld, ticks_unheld}
use Rattle.rules.proofs.BegunCalls.{due_blocked, roomy_in}
use Rattle.rules.proofs.BegunPairs.{BothDue, ReadyThen, among_begun, among_line, tick_first, begins_together, ticks_together, ticks_due, due_low}
use Rattle.rules.proofs.BegunEnds.{turned_ahead, after_ahead}
use Rattle.promises.specs.History.{reached}
use Rattle.promises.proofs.Histories.{reached-sound}
use Rattle.histories.specs.Types.{TaskSlot, Ready, State}
use Rattle.histories.specs.Moments.{moments}
use Rattle.histories.specs.Earlier.{began_at, Earlier, WakesFirst, AheadIfBoth, advances, WokenInOrder}
use Rattle.histories.proofs.NeverAgain.{step_cases}
use Rattle.histories.proofs.EarlierSteps.{earlier_ahead}

module _ (ms : List CallMade) (w : ℕ) (t u : TaskSlot) (E : Earlier ms w t u) where
  abbrev k : State
  k = reached ms

  differ : t.0 ≡ u.0 → ⊥
  differ z = omega (arith, E.sooner, ap (λ v. began_at v (moments ms)) (one_number t u z))

  t_begun : has_begun k.tasks t ≡ true
  t_begun = due_blocked w (task_at k.tasks t).place E.first_due

  u_begun : has_begun k.tasks u ≡ true
  u_begun = due_blocked w (task_at k.tasks u).place E.second_due

  S : Sound k
  S = sound_says k (reached-sound ms)

  ahead : Ahead t u (begun k.tasks (listed k.order))
  ahead = earlier_ahead ms t u t_begun u_begun E.sooner

  D : BothDue t u differ w k
  D = record { roomy = roomy_in k S; first = E.first_due; second = E.second_due; ahead = sym (among_begun t u differ k.tasks t_begun u_begun (listed k.order)) ∙ ahead }

  -- ── a tick, and the pended ticks of a release
  tick_wakes : (j : State) → BothDue t u differ w j → later j.tick 1 ≡ w → ReadyFirst t u (with_tick j w) (begun j.tasks (listed j.order))
  tick_wakes j X e = subst (λ n. ReadyFirst t u (with_tick j n) (begun j.tasks (listed j.order))) e (tick_first t u differ w j X e)

  -- both have a slot
  low : (t.0 < 16) × (u.0 < 16)
  low = due_low t u differ D

  at_release : (i : ℕ) → WakesFirst w t u (ticks false i (with_hold k 0 0))
  at_release i e b = go (ticks_together t u differ _ w i (with_hold k 0 0) (begins_together t u differ w (with_hold k 0 0) held (sound_reckoned k S)) low.0 low.1).so
    where
      held : BothDue t u differ w (with_hold k 0 0)
      held = record { roomy = D.roomy; first = D.first; second = D.second; ahead = D.ahead }

      j : State
      j = ticks false i (with_hold k 0 0)

      go : {p : ℕ} → BothDue t u differ w j ⊎ ReadyThen t u differ p j → ReadyFirst t u (with_tick j w) (begun j.tasks (listed j.order))
      go (inl X) = tick_wakes j X e
      go (inr B) = absurd (false≢true (sym (ap is_blocked B.second) ∙ b))

  -- ── a line: where both stand in that of p, both are ready and have p
  abbrev AheadThen : ℕ → State → Type 0
  AheadThen p j =
      (task_at j.tasks t).place ≡ Ready → (task_at j.tasks u).place ≡ Ready → level j.tasks t ≡ p → level j.tasks u ≡ p → Ahead t u (listed j.order)

  abbrev AheadInLine : ℕ → State → Type 0
  AheadInLine p j = in_line p (task_at j.tasks t) ≡ true → in_line p (task_at j.tasks u) ≡ true → Ahead t u (line j.tasks p (listed j.order))

  line_ahead : (p : ℕ) (j : State) → AheadThen p j → AheadInLine p j
  line_ahead p j f a b = among_line t u differ j.tasks p a b (listed j.order) ∙ f (ready t a) (ready u b) (has t a) (has u b)
    where
      ready : (v : TaskSlot) → in_line p (task_at j.tasks v) ≡ true → (task_at j.tasks v).place ≡ Ready
      ready v c = is_ready_lem (task_at j.tasks v).place (and_left (is_ready (task_at j.tasks v).place) _ c)

      has : (v : TaskSlot) → in_line p (task_at j.tasks v) ≡ true → level j.tasks v ≡ p
      has v c = eqb-true (level j.tasks v) p (and_right (is_ready (task_at j.tasks v).place) _ c)

  -- choose changes neither a task nor the order
  chosen_ahead : (p : ℕ) (j : State) → AheadThen p j → AheadInLine p (chosen j)
  chosen_ahead p j f = rw ((chosen_only j).tasks, chosen_order j) (line_ahead p j f)

  -- after any call but an advance
  step_ahead : (m : CallMade) (p : ℕ) → advances m.call ≡ false → AheadIfBoth p t u k (step_made k [] m).kernel
  unfolding accepted
  step_ahead m p c lt lu =
      step_cases k (reached-sound ms) m (λ d. AheadInLine p d.kernel)
      (λ P. chosen_ahead p (after k (asked k.uses m.call))
      (λ x y a b. after_ahead t u differ k S w D p lt lu m.call c record { first = x; second = y; first_level = a; second_level = b }))
      (line_ahead p k (λ x y a b. absurd (false≢true (ap (wakes_at w) (sym x) ∙ E.first_due))))

  one_call_more : (m : CallMade) → reached (ms ++ (m ∷ [])) ≡ (step_made k [] m).kernel
  unfolding foldl trace
  one_call_more m = more_calls fresh [] [] ms (m ∷ [])

  -- ── an advance
  module _ (i : ℕ) (z : k.hold ≡ 0) (b : has_begun (ticks true i k).tasks u ≡ true) where
    U : Unheld k
    U = sound_unheld k S z

    abbrev j : State
    j = ticks true i k

    still_due : BothDue t u differ w j
    still_due = ticks_due t u differ w i k U D b

    -- ticks change no use
    still_sound : Sound j
    still_sound =
        let H = (ticks_unheld i k U).sound in
        record { tables = H.tables; levels = H.levels; listing = H.listing; clock = H.clock; running = H.running; uses = rw (ticks_uses true i k) S.uses; circles = H.circles }

    in_advance : (p : ℕ) → AheadIfBoth p t u j (ticks true (suc i) k)
    unfolding ticks up_to
    in_advance p lt lu =
        chosen_ahead p (turned (one_tick j))
        (λ x y a b. turned_ahead t u differ j still_sound w still_due p lt lu record { first = x; second = y; first_level = a; second_level = b })

  pub woken_in_order : WokenInOrder ms w t u
  woken_in_order = record {
    remembered = ahead;
    at_tick = tick_wakes k D;
    at_release = at_release;
    at_advance = λ i z e b. tick_wakes (ticks true i k) (still_due i z b) e;
    in_line = λ m p c. subst (λ j. AheadIfBoth p t u k j) (sym (one_call_more m)) (step_ahead m p c);
    in_advance = λ i p z b. in_advance i z b p;
  }
