-- What a call's effect has to keep, and how it makes the step keep soundness.
use Prim.Native.Nat.{ℕ, suc, ◌<◌, ◌≤◌}
use mathlib.Core.Path.{◌≡◌, refl, sym, ap, ◌∙◌}
use mathlib.Core.Bool.{Bool, true, false, not, ◌&&◌, ◌||◌, false≢true}
use mathlib.Core.List.{List, [], ◌∷◌}
use native.Mathlib.Omega.{arith}
use lib.Dec.{eqb, ltb}
use lib.ListN.{length, get_or}
use borrow.Author.Tests.{ltb-true, ltb-false, lt-ltb, eqb-true, eqb-false}
use Rattle.std.proofs.Common.{if◌then◌else◌}
use Rattle.lists.specs.Lists.{index}
use Rattle.lists.proofs.Bools.{off, or_off, or_left, or_right}
use Rattle.numbers.specs.Numbers.{same_task, is_idle}
use Rattle.calls.specs.Behind.{asked}
use Rattle.slots.specs.Places.{is_free}
use Rattle.slots.specs.Values.{free_task, task_at}
use Rattle.rules.specs.Types.{TaskSlot, Place, Ready, Task, Asked, Call, State}
use Rattle.slots.specs.Kinds.{kind_at}
use Rattle.rules.specs.Tables.{with_uses}
use Rattle.rules.specs.Lines.{chosen}
use Rattle.rules.specs.Sound.{sound}
use Rattle.rules.specs.Sentences.{Exists, Used, NoCircle, Sound}
use Rattle.rows.specs.Asking.{is, stops, waits}
use Rattle.rows.specs.Applies.{not_for_idle, not_with_hold, stops_at, must_wait}
use Rattle.rules.specs.Refusals.{seen, later_row, refusal}
use Rattle.rules.specs.Effects.{effect}
use Rattle.rules.specs.Steps.{uses_after, after, accepted, turned_away, step}
use Rattle.rules.proofs.TableSlots.{past_tasks}
use Rattle.rules.proofs.SoundSays.{sound_says, says_sound}
use Rattle.rules.proofs.RowPasses.{Passed, passed}
use Rattle.rules.proofs.KeepNearly.{settled, Nearly, RunsIn}
use Rattle.rules.proofs.LoanWorks.{worked_circles}
use Rattle.rules.proofs.KeepChosen.{worked_sound}

-- after its effect the kernel is nearly sound, and with a hold the running task still heads its line
pub record Keeps (j : State) : Type 0 where
  pub nearly : Nearly (settled j.tick) j
  pub runs : 0 < j.hold → RunsIn j

-- so the step keeps soundness, whether the call is accepted or not
pub effect_kept : (k : State) (c : Call) (item s : List ℕ) → sound k ≡ true
    → (Sound k → Passed k (asked k.uses c) (length s) → Keeps (effect k (asked k.uses c)))
    → (Sound k → Passed k (asked k.uses c) (length s) → NoCircle (effect k (asked k.uses c)).tasks (effect k (asked k.uses c)).objects)
    → (Sound k → Passed k (asked k.uses c) (length s) → Used (uses_after k.uses (asked k.uses c))) → sound (step k c item s).kernel ≡ true
unfolding step refusal accepted after
effect_kept k c item s e f x g = rw e (go (eqb (later_row k a (length item) (length s)) 0) refl)
  where
    a : Asked
    a = asked k.uses c

    go : (b : Bool) → eqb (later_row k a (length item) (length s)) 0 ≡ b → sound (if b then accepted k a item s else turned_away k (later_row k a (length item) (length s)) s).kernel ≡ true
    go true q =
        let P = passed k a (length item) (length s) (eqb-true _ 0 q) in
        let h = f (sound_says k e) P in
        says_sound (with_uses (chosen (after k a)) (uses_after k.uses a)) (worked_sound (effect k a) h.nearly NoCircle (worked_circles (effect k a) h.nearly.tables.task_slots (x (sound_says k e) P)) (g (sound_says k e) P) h.runs)
    go false q = e

-- ── small laws that the calls share
-- a call with a wait is not idle's, and not made with a hold
pub wait_busy : (k : State) (a : Asked) → not_for_idle (seen k a) a ≡ false → waits a ≡ true → k.running.0 ≡ 0 → ⊥
unfolding not_for_idle
wait_busy k a e w =
    let f : ((is 6 a || (is 15 a || waits a)) && is_idle k.running) ≡ false = (or_off (is 5 a && (is_idle a.task && not (eqb a.priority 0))) _ (or_off (stops a && is_idle a.task) _ e).1).1 in
    let g : (is 6 a || (is 15 a || waits a)) ≡ true = or_right (is 6 a) (is 15 a || waits a) (or_right (is 15 a) (waits a) w) in
    eqb-false k.running.0 0 (rw g at f)

pub wait_free : (k : State) (a : Asked) → not_with_hold (seen k a) a ≡ false → waits a ≡ true → 0 < k.hold → ⊥
unfolding not_with_hold
wait_free k a e w h =
    let f : (is 6 a || (is 7 a || (is 18 a || (waits a || (stops a && same_task a.task k.running))))) ≡ false = rw (lt-ltb 0 k.hold h) at e in
    false≢true (sym (or_off (waits a) _ (or_off (is 18 a) _ (or_off (is 7 a) _ (or_off (is 6 a) _ f).1).1).1).0 ∙ w)

-- where the caller would have to wait, the wait is not 0
pub must_wait_lem : (k : State) (a : Asked) → must_wait (seen k a) a ≡ false → stops_at a k.running (kind_at k.objects a.object) ≡ true → waits a ≡ true
unfolding must_wait
must_wait_lem k a e s = go (waits a) (rw s at e)
  where
    go : (b : Bool) → (not b && true) ≡ false → b ≡ true
    go true q = refl
    go false q = absurd (false≢true (sym q))

pub some_wait : (a : Asked) → waits a ≡ true → 0 < a.wait
some_wait a e = omega (arith, eqb-false a.wait 0 (off (eqb a.wait 0) e))

-- a task that exists has a slot
pub there_low : (ts : List Task) (t : TaskSlot) → length ts ≡ 16 → Exists ts t → t.0 < 16
there_low ts t l e = go (ltb t.0 16) refl
  where
    go : (b : Bool) → ltb t.0 16 ≡ b → t.0 < 16
    go true q = ltb-true t.0 16 q
    go false q = let past : length ts ≤ t.0 = omega (arith, ltb-false t.0 16 q) in absurd (false≢true (sym e ∙ ap (λ (x : Task). is_free x.place) (past_tasks ts t past)))

pub ready_low : (ts : List Task) (t : TaskSlot) → length ts ≡ 16 → (task_at ts t).place ≡ Ready → t.0 < 16
ready_low ts t l e = there_low ts t l (ap is_free e)

-- two tasks that stand in different places are not the same
pub apart : (ts : List Task) (t u : TaskSlot) (p : Place → Bool) → p (task_at ts t).place ≡ true → p (task_at ts u).place ≡ false → t.0 ≡ u.0 → ⊥
unfolding task_at
apart ts t u p a b e = false≢true (sym b ∙ ap (λ (n : ℕ). p (get_or ts n free_task).place) (sym e) ∙ a)

-- the first that passes, if one does
module _ {ℓ} {A : Type ℓ} (p : A → Bool) (d : A) where
  pub index_most : (xs : List A) → index p xs ≤ length xs
  unfolding index
  index_most [] = omega arith
  index_most (x ∷ xs) = go (p x) (index_most xs)
    where
      go : (b : Bool) → index p xs ≤ length xs → (if b then 0 else suc (index p xs)) ≤ suc (length xs)
      go true h = omega arith
      go false h = omega arith

  pub index_passes : (xs : List A) → index p xs < length xs → p (get_or xs (index p xs) d) ≡ true
  unfolding index
  index_passes [] h = absurd (omega arith)
  index_passes (x ∷ xs) h = go (p x) refl (index_passes xs) h
    where
      go : (b : Bool) → p x ≡ b → (index p xs < length xs → p (get_or xs (index p xs) d) ≡ true) → (if b then 0 else suc (index p xs)) < suc (length xs)
          → p (get_or (x ∷ xs) (if b then 0 else suc (index p xs)) d) ≡ true
      go true e ih m = e
      go false e ih m = ih (omega arith)

-- a delete that no row turns away is not idle's
pub delete_not_idle : (k : State) (a : Asked) (store : ℕ) → Passed k a store → is 2 a ≡ true → a.task.0 ≡ 0 → ⊥
unfolding not_for_idle
delete_not_idle k a store P e =
    eqb-false a.task.0 0 (rw (or_left (is 2 a) (is 3 a) e) at (or_off (stops a && is_idle a.task) _ P.idle).0)
