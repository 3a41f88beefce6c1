-- After any calls from the fresh kernel the order of those who began is the order of the moments at which they began.
use Prim.Native.Nat.{ℕ, zero, suc, ◌<◌}
use mathlib.Core.Path.{◌≡◌, refl, sym, ap, ◌∙◌}
use mathlib.Core.Bool.{Bool, true, false, not, ◌&&◌, ◌||◌, false≢true}
use mathlib.Core.List.{List, [], ◌∷◌, ◌++◌}
use native.Mathlib.Omega.{arith}
use lib.Dec.{eqb}
use lib.ListN.{length, get_or, replicate}
use borrow.Author.Tests.{eq-eqb, ne_eqb}
use Rattle.std.proofs.Common.{if◌then◌else◌}
use Rattle.lists.specs.Lists.{foldl, any, kept}
use Rattle.lists.proofs.Bools.{and_off, or_right}
use Rattle.calls.specs.Behind.{asked}
use Rattle.calls.specs.declared.Uses.{Uses}
use Rattle.order.specs.Order.{listed}
use Rattle.order.specs.Tidy.{count}
use Rattle.order.proofs.Passing.{kept_append, one_number}
use Rattle.slots.specs.Places.{is_blocked}
use Rattle.slots.specs.Values.{free_task, ready_at, task_at}
use Rattle.rules.specs.Tables.{fresh, with_uses}
use Rattle.rules.specs.Lines.{has_begun, begun, is_one_of, Ahead, first, runs_if, chosen}
use Rattle.rules.specs.Sound.{sound}
use Rattle.rules.specs.Sentences.{Sound}
use Rattle.rules.specs.Steps.{uses_after, after, accepted}
use Rattle.rules.specs.Trace.{Moment, moment_of, trace, state_after, CallMade, step_made}
use Rattle.rules.proofs.SoundSays.{sound_says}
use Rattle.rules.proofs.KeepEvery.{fresh-sound, step_kept}
use Rattle.rules.proofs.Begun.{Remember, none_begins, stays}
use Rattle.rules.proofs.BegunCalls.{roomy_in, caller_ready, after_remembers}
use Rattle.rules.proofs.BegunPairs.{ahead_among, one_alone}
use Rattle.promises.specs.History.{reached}
use Rattle.histories.specs.Types.{TaskSlot, all_ready, State}
use Rattle.histories.specs.Moments.{onto, moments}
use Rattle.histories.specs.Earlier.{begins, began_at, EachBegan}
use Rattle.histories.proofs.NeverAgain.{step_cases}

-- ── a step
-- choose changes who runs, and neither a task nor the order; nor do other uses
chosen_remembers : (k j : State) (us : Uses) → Remember k j → Remember k (with_uses (chosen j) us)
unfolding chosen
chosen_remembers k j us M = go (eqb j.hold 0) (first j all_ready)
  where
    go : (b : Bool) (l : List TaskSlot) → Remember k (with_uses (if b then runs_if j l else j) us)
    go true [] = M
    go true (t ∷ l) = M
    go false l = M

step_remembers : (k : State) → sound k ≡ true → (m : CallMade) → Remember k (step_made k [] m).kernel
unfolding accepted
step_remembers k e m =
    step_cases k e m (λ d. Remember k d.kernel)
    (λ P. chosen_remembers k (after k (asked k.uses m.call)) (uses_after k.uses (asked k.uses m.call)) (after_remembers k S (length m.store) m.call P))
    (none_begins (caller_ready k S) (stays (roomy_in k S)))
  where
    S : Sound k
    S = sound_says k e

-- ── what the moments so far tell
record ByMoments (k : State) (past : List (Moment CallMade)) : Type 0 where
  fine : sound k ≡ true
  some : (t : TaskSlot) → has_begun k.tasks t ≡ true → any (begins t) past ≡ true
  ahead : (t u : TaskSlot) → has_begun k.tasks t ≡ true → has_begun k.tasks u ≡ true → began_at t past < began_at u past → Ahead t u (begun k.tasks (listed k.order))
  apart : (t u : TaskSlot) → has_begun k.tasks t ≡ true → has_begun k.tasks u ≡ true → began_at t past ≡ began_at u past → t ≡ u

-- a moment that is found is one of them
within : (t : TaskSlot) (past : List (Moment CallMade)) → any (begins t) past ≡ true → began_at t past < length past
unfolding any began_at
within t [] e = absurd (false≢true e)
within t (m ∷ past) e = go (begins t m) e (within t past)
  where
    go : (b : Bool) → (b || any (begins t) past) ≡ true → (any (begins t) past ≡ true → began_at t past < length past) → (if b then length past else began_at t past) < length (m ∷ past)
    go true f ih = omega arith
    go false f ih = omega (arith, ih f)

module _ (k : State) (past : List (Moment CallMade)) (s : List ℕ) (m : CallMade) (A : ByMoments k past) where
  abbrev now : Moment CallMade
  now = moment_of step_made k s m

  abbrev j : State
  j = now.gave.kernel

  M : Remember k j
  M = step_remembers k A.fine m

  S : Sound k
  S = sound_says k A.fine

  -- who began before, and who begins now
  before_same : (t : TaskSlot) → has_begun k.tasks t ≡ true → began_at t (now ∷ past) ≡ began_at t past
  unfolding began_at
  before_same t e = rw (sym (and_off (has_begun j.tasks t) (not (has_begun k.tasks t)) (ap not e)))

  now_last : (t : TaskSlot) → has_begun j.tasks t ≡ true → has_begun k.tasks t ≡ false → began_at t (now ∷ past) ≡ length past
  unfolding began_at
  now_last t e f = rw (e, f)

  some_now : (t : TaskSlot) → has_begun j.tasks t ≡ true → any (begins t) (now ∷ past) ≡ true
  unfolding any
  some_now t e = go (has_begun k.tasks t) refl
    where
      go : (b : Bool) → has_begun k.tasks t ≡ b → ((has_begun j.tasks t && not (has_begun k.tasks t)) || any (begins t) past) ≡ true
      go true f = or_right (has_begun j.tasks t && not (has_begun k.tasks t)) (any (begins t) past) (A.some t f)
      go false f = rw (e, f)

  before_now : (t : TaskSlot) → has_begun k.tasks t ≡ true → began_at t (now ∷ past) < length past
  before_now t g = omega (arith, before_same t g, within t past (A.some t g))

  -- of two, by whether each began before
  module _ (t u : TaskSlot) (e : has_begun j.tasks t ≡ true) (f : has_begun j.tasks u ≡ true) where
    apart_now : began_at t (now ∷ past) ≡ began_at u (now ∷ past) → t ≡ u
    apart_now q = go (has_begun k.tasks t) refl (has_begun k.tasks u) refl
      where
        go : (a : Bool) → has_begun k.tasks t ≡ a → (b : Bool) → has_begun k.tasks u ≡ b → t ≡ u
        go true g true h = A.apart t u g h (sym (before_same t g) ∙ q ∙ before_same u h)
        go true g false h = absurd (omega (arith, before_now t g, now_last u f h))
        go false g true h = absurd (omega (arith, before_now u h, now_last t e g))
        go false g false h = M.began t e g ∙ sym (M.began u f h)

    module _ (q : began_at t (now ∷ past) < began_at u (now ∷ past)) where
      differ : t.0 ≡ u.0 → ⊥
      differ z = omega (arith, q, ap (λ v. began_at v (now ∷ past)) (one_number t u z))

      abbrev pair : List TaskSlot → List TaskSlot
      pair l = kept (is_one_of t u) l

      -- those two, where the caller may have come last
      pair_now : pair (begun j.tasks (listed j.order)) ≡ pair (begun k.tasks (listed k.order)) ++ pair (if has_begun j.tasks k.running then k.running ∷ [] else [])
      pair_now =
          ap pair M.stand
          ∙ kept_append (is_one_of t u) (kept (has_begun j.tasks) (begun k.tasks (listed k.order))) _
          ∙ ap (λ (l : List TaskSlot). l ++ pair (if has_begun j.tasks k.running then k.running ∷ [] else []))
          (ahead_among t u differ (has_begun j.tasks) e f (begun k.tasks (listed k.order)))

      -- a caller that is neither of them
      none_last : has_begun k.tasks t ≡ true → has_begun k.tasks u ≡ true → (b : Bool) → pair (if b then k.running ∷ [] else []) ≡ []
      unfolding kept
      none_last g h true = rw (ne_eqb k.running.0 t.0 (λ z. not_caller t g z), ne_eqb k.running.0 u.0 (λ z. not_caller u h z))
        where
          not_caller : (v : TaskSlot) → has_begun k.tasks v ≡ true → k.running.0 ≡ v.0 → ⊥
          not_caller v c z = false≢true (sym (caller_ready k S) ∙ ap (has_begun k.tasks) (one_number k.running v z) ∙ c)
      none_last g h false = refl

      -- how often each stands among those who had begun
      stood : (v : TaskSlot) {b : Bool} → has_begun k.tasks v ≡ b → count v.0 (begun k.tasks (listed k.order)) ≡ (if b then 1 else 0)
      stood v c = S.listing.remembered v ∙ rw c

      ahead_now : Ahead t u (begun j.tasks (listed j.order))
      unfolding kept
      ahead_now = go (has_begun k.tasks t) refl (has_begun k.tasks u) refl
        where
          go : (a : Bool) → has_begun k.tasks t ≡ a → (b : Bool) → has_begun k.tasks u ≡ b → Ahead t u (begun j.tasks (listed j.order))
          go true g true h =
              pair_now ∙ rw (A.ahead t u g h (omega (arith, q, before_same t g, before_same u h)), none_last g h (has_begun j.tasks k.running))
          go true g false h =
              let r : u ≡ k.running = M.began u f h in
              let b : has_begun j.tasks k.running ≡ true = ap (has_begun j.tasks) (sym r) ∙ f in
              pair_now ∙ rw (b, one_alone t u differ (begun k.tasks (listed k.order)) (stood t g) (stood u h), ← r, ne_eqb u.0 t.0 (λ z. differ (sym z)), eq-eqb u.0 u.0 refl)
          go false g true h = absurd (omega (arith, q, before_now u h, now_last t e g))
          go false g false h = absurd (omega (arith, q, now_last t e g, now_last u f h))

  one_more : ByMoments j (now ∷ past)
  one_more = record { fine = step_kept k m.call m.item m.store A.fine; some = some_now; ahead = ahead_now; apart = apart_now }

-- ── any calls
starts : ByMoments fresh []
unfolding fresh task_at
starts = record { fine = fresh-sound; some = λ t e. absurd (nobody t e); ahead = λ t u e f q. absurd (nobody t e); apart = λ t u e f q. absurd (nobody t e) }
  where
    free : (n i : ℕ) → is_blocked (get_or (replicate n free_task) i free_task).place ≡ false
    free zero i = refl
    free (suc n) zero = refl
    free (suc n) (suc i) = free n i

    fresh_at : (n : ℕ) → is_blocked (get_or (ready_at 0 ∷ replicate 15 free_task) n free_task).place ≡ false
    fresh_at zero = refl
    fresh_at (suc n) = free 15 n

    nobody : (t : TaskSlot) → has_begun fresh.tasks t ≡ true → ⊥
    nobody t e = false≢true (sym (fresh_at t.0) ∙ e)

by_moments : (k : State) (past : List (Moment CallMade)) (s : List ℕ) (ms : List CallMade) → ByMoments k past → ByMoments (state_after k (trace step_made k s ms)) (onto past (trace step_made k s ms))
unfolding foldl trace
by_moments k past s [] A = A
by_moments k past s (m ∷ ms) A = by_moments (step_made k s m).kernel _ _ ms (one_more k past s m A)

module _ (ms : List CallMade) where
  all_told : ByMoments (reached ms) (moments ms)
  all_told = by_moments fresh [] [] ms starts

  pub each_began : EachBegan ms
  each_began = record { some = all_told.some; apart = all_told.apart }

  pub earlier_ahead : (t u : TaskSlot) → has_begun (reached ms).tasks t ≡ true → has_begun (reached ms).tasks u ≡ true → began_at t (moments ms) < began_at u (moments ms)
      → Ahead t u (begun (reached ms).tasks (listed (reached ms).order))
  earlier_ahead = all_told.ahead
