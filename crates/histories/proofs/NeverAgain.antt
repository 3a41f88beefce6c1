-- Over any history from the fresh kernel a number that was given up names nothing ever after, and no number is made twice.
use Prim.Native.Nat.{ℕ, suc, ◌*◌, ◌/◌, ◌%◌, ◌≤◌}
use mathlib.Core.Path.{◌≡◌, refl, sym, ap, subst, ◌∙◌}
use mathlib.Core.Bool.{Bool, true, false, not, ◌&&◌, false≢true}
use mathlib.Core.List.{List, [], ◌∷◌, ◌++◌}
use native.Mathlib.Omega.{arith}
use lib.Dec.{eqb}
use lib.ListN.{length}
use borrow.Author.Tests.{eqb-true}
use Rattle.std.proofs.Common.{if◌then◌else◌}
use Rattle.lists.specs.Lists.{foldl}
use Rattle.lists.proofs.Bools.{off, and_left, and_right, or_left, or_right}
use Rattle.numbers.specs.Numbers.{task, object}
use Rattle.calls.specs.Named.{task_of, object_of}
use Rattle.calls.specs.Door.{task_slot, obj_slot}
use Rattle.calls.specs.declared.Asked.{Asked}
use Rattle.calls.specs.Behind.{asked}
use Rattle.calls.specs.Said.{says, done, made, waiting}
use Rattle.slots.specs.Places.{is_blocked}
use Rattle.slots.specs.Values.{task_at}
use Rattle.slots.specs.Kinds.{kind_at}
use Rattle.rules.specs.Tables.{fresh}
use Rattle.rules.specs.Sound.{sound}
use Rattle.rows.specs.Asking.{is, makes_object, makes}
use Rattle.rules.specs.Refusals.{new_slot, later_row, refusal}
use Rattle.rules.specs.Effects.{effect}
use Rattle.rules.specs.Steps.{Stepped, new_number, answered, uses_after, after as worked, accepted, turned_away, stepped_by, step}
use Rattle.rules.specs.Trace.{trace, CallMade, step_made}
use Rattle.rules.proofs.TableSlots.{past_tasks, past_objects}
use Rattle.rules.proofs.SoundSays.{sound_says}
use Rattle.rules.proofs.RowPasses.{Passed, passed}
use Rattle.rules.proofs.Traces.{trace_keeps, more_calls}
use Rattle.rules.proofs.KeepEvery.{step_kept}
use Rattle.rules.proofs.KeepTaken.{stands, stands_as, there_stands, stands_there, used_stands, stands_used}
use Rattle.promises.specs.History.{after, reached}
use Rattle.promises.proofs.Histories.{reached-sound}
use Rattle.histories.specs.Types.{Call, Task, State}
use Rattle.histories.specs.Moments.{is_refusal}
use Rattle.histories.specs.Again.{names_task, names_object, moment_from, is_made, answers_made, made_task, made_object}
use Rattle.histories.proofs.Lives.{life_in, life_of, Grows, life_names, names_life, Takes, effect_grows, effect_takes, end_slot}

-- ── a step
module _ (k : State) (e : sound k ≡ true) (m : CallMade) where
  abbrev a : Asked
  a = asked k.uses m.call

  abbrev row : ℕ
  row = later_row k a (length m.item) (length m.store)

  -- accepted or turned away
  pub step_cases : (P : Stepped → Type 0) → (Passed k a (length m.store) → P (accepted k a m.item m.store)) → P (turned_away k row m.store) → P (step_made k [] m)
  unfolding step refusal
  step_cases P f g = subst (λ b. P (stepped_by (if b then row else 1) k a m.item m.store)) (sym e) (go (eqb row 0) refl)
    where
      go : (b : Bool) → eqb row 0 ≡ b → P (if b then accepted k a m.item m.store else turned_away k row m.store)
      go true q = f (passed k a (length m.item) (length m.store) (eqb-true row 0 q))
      go false q = g

  step_grows : Grows k (step_made k [] m).kernel
  unfolding accepted worked
  step_grows =
      step_cases (λ d. Grows k d.kernel)
      (λ P b s. subst (λ x. life_of b k s ≤ x) (sym (end_slot life_in b (effect k a) (uses_after k.uses a) s)) (effect_grows k (sound_says k e) (length m.store) m.call P b s))
      (λ b s. omega arith)

  step_takes : (n : ℕ) → makes a ≡ true → answers_made (moment_from k m) n ≡ true → Takes (life_of (is 1 a) k) (life_of (is 1 a) (step_made k [] m).kernel) n
  unfolding accepted worked answered
  step_takes n x =
      step_cases (λ d. (is_made d.answer.word && eqb d.answer.number n) ≡ true → Takes (life_of (is 1 a) k) (life_of (is 1 a) d.kernel) n)
      (λ P y. taken P (eqb-true (new_number k.uses a (new_slot k a)) n (rw x at y)))
      (λ y. absurd (false≢true y))
    where
      taken : Passed k a (length m.store) → new_number k.uses a (new_slot k a) ≡ n → Takes (life_of (is 1 a) k) (life_of (is 1 a) (accepted k a m.item m.store).kernel) n
      taken P q =
          let T = effect_takes k (sound_says k e) (length m.store) m.call P x in
          subst (λ i. Takes (life_of (is 1 a) k) (life_of (is 1 a) (accepted k a m.item m.store).kernel) i) q
          (record { was = T.was; now = end_slot life_in (is 1 a) (effect k a) (uses_after k.uses a) _ ∙ T.now })

-- the answer to an accepted call is no refusal
pub answered_accepts : (k : State) (c : Call) (j : State) → is_refusal (answered k (asked k.uses c) j).word ≡ false
unfolding answered
answered_accepts k c j = go (makes (asked k.uses c)) (is_blocked (task_at j.tasks k.running).place)
  where
    go : (x z : Bool) → is_refusal (if x then says made (new_number k.uses (asked k.uses c) (new_slot k (asked k.uses c))) else if z then says waiting 0 else says done 0).word ≡ false
    go true z = refl
    go false true = refl
    go false false = refl

-- ── any calls
grows_refl : (k : State) → Grows k k
grows_refl k b s = omega arith

grows_on : (k j i : State) → Grows k j → Grows j i → Grows k i
grows_on k j i f g b s = omega (arith, f b s, g b s)

after_grows : (k : State) → sound k ≡ true → (ms : List CallMade) → Grows k (after k ms)
after_grows k e ms =
    (trace_keeps step_made (λ j. (sound j ≡ true) × Grows k j)
    (λ j s m p. (step_kept j m.call m.item m.store p.0, grows_on k j (step_made j s m).kernel p.1 (step_grows j p.0 m))) k [] ms
    (e, grows_refl k)).1

-- from one history to a longer one
reached_more : (ms ns : List CallMade) → reached (ms ++ ns) ≡ after (reached ms) ns
reached_more ms ns = more_calls fresh [] [] ms ns

reached_next : (ms : List CallMade) (m : CallMade) → reached (ms ++ (m ∷ [])) ≡ (step_made (reached ms) [] m).kernel
unfolding foldl trace
reached_next ms m = reached_more ms (m ∷ [])

reached_grows : (ms ns : List CallMade) → Grows (reached ms) (reached (ms ++ ns))
reached_grows ms ns = subst (λ j. Grows (reached ms) j) (sym (reached_more ms ns)) (after_grows (reached ms) (reached-sound ms) ns)

-- ── a number names something exactly while its slot has that life
task_life : (k : State) → sound k ≡ true → (n : ℕ) → names_task k n ≡ true → life_of true k (n % 16) ≡ suc (2 * (n / 16))
task_life k e n h =
    names_life k.uses.tasks (λ s. stands (task_at k.tasks (task s)).place) n
    (ap (λ (x : Task). stands x.place) (past_tasks k.tasks (task 16) (omega (arith, (sound_says k e).tables.task_slots))))
    (there_stands (task_at k.tasks (task_slot k.uses (task_of n))).place (off _ h))

life_task : (k : State) (n : ℕ) → life_of true k (n % 16) ≡ suc (2 * (n / 16)) → names_task k n ≡ true
life_task k n h =
    ap not (stands_there (task_at k.tasks (task_slot k.uses (task_of n))).place (life_names k.uses.tasks (λ s. stands (task_at k.tasks (task s)).place) n h))

object_life : (k : State) → sound k ≡ true → (n : ℕ) → names_object k n ≡ true → life_of false k (n % 16) ≡ suc (2 * (n / 16))
object_life k e n h =
    names_life k.uses.objects (λ s. stands_as (kind_at k.objects (object s))) n
    (ap stands_as (past_objects k.objects (object 16) (omega (arith, (sound_says k e).tables.object_slots))))
    (used_stands (kind_at k.objects (obj_slot k.uses (object_of n))) (off _ h))

life_object : (k : State) (n : ℕ) → life_of false k (n % 16) ≡ suc (2 * (n / 16)) → names_object k n ≡ true
life_object k n h =
    ap not (stands_used (kind_at k.objects (obj_slot k.uses (object_of n))) (life_names k.uses.objects (λ s. stands_as (kind_at k.objects (object s))) n h))

-- ── a call that made a number took the slot
task_taken : (k : State) → sound k ≡ true → (m : CallMade) (n : ℕ) → made_task (moment_from k m) n ≡ true → Takes (life_of true k) (life_of true (step_made k [] m).kernel) n
task_taken k e m n h =
    let x = and_left (is 1 (asked k.uses m.call)) (answers_made (moment_from k m) n) h in
    let y = and_right (is 1 (asked k.uses m.call)) (answers_made (moment_from k m) n) h in
    subst (λ b. Takes (life_of b k) (life_of b (step_made k [] m).kernel) n) x (step_takes k e m n (or_left (is 1 (asked k.uses m.call)) _ x) y)

no_create : (a : Asked) → makes_object a ≡ true → is 1 a ≡ false
no_create a x = go (is 1 a) refl x
  where
    go : (b : Bool) → is 1 a ≡ b → makes_object a ≡ true → b ≡ false
    go false p y = refl
    go true p y = absurd (false≢true (rw (eqb-true a.number 1 p) at y))

object_taken : (k : State) → sound k ≡ true → (m : CallMade) (n : ℕ) → made_object (moment_from k m) n ≡ true → Takes (life_of false k) (life_of false (step_made k [] m).kernel) n
object_taken k e m n h =
    let a = asked k.uses m.call in
    let x = and_left (makes_object a) (answers_made (moment_from k m) n) h in
    let y = and_right (makes_object a) (answers_made (moment_from k m) n) h in
    subst (λ b. Takes (life_of b k) (life_of b (step_made k [] m).kernel) n) (no_create a x) (step_takes k e m n (or_right (is 1 a) (makes_object a) x) y)

-- ── of tasks and of objects alike
module _ (b : Bool) (names : State → ℕ → Bool) (made : State → CallMade → ℕ → Bool)
    (to : (k : State) → sound k ≡ true → (n : ℕ) → names k n ≡ true → life_of b k (n % 16) ≡ suc (2 * (n / 16)))
    (from : (k : State) (n : ℕ) → life_of b k (n % 16) ≡ suc (2 * (n / 16)) → names k n ≡ true)
    (takes : (k : State) → sound k ≡ true → (m : CallMade) (n : ℕ) → made k m n ≡ true → Takes (life_of b k) (life_of b (step_made k [] m).kernel) n)
  where
    never : (ms ls ns : List CallMade) (n : ℕ) → names (reached ms) n ≡ true → names (reached (ms ++ ls)) n ≡ false → names (reached (ms ++ ls ++ ns)) n ≡ false
    never ms ls ns n x y = go (names (reached (ms ++ ls ++ ns)) n) refl
      where
        go : (c : Bool) → names (reached (ms ++ ls ++ ns)) n ≡ c → c ≡ false
        go false q = refl
        go true q =
            let was = to (reached ms) (reached-sound ms) n x in
            let now = to (reached (ms ++ ls ++ ns)) (reached-sound (ms ++ ls ++ ns)) n q in
            let up = reached_grows ms ls b (n % 16) in
            let on = reached_grows (ms ++ ls) ns b (n % 16) in
            absurd (false≢true (sym y ∙ from (reached (ms ++ ls)) n (omega (arith, was, now, up, on))))

    not_made : (ms ns : List CallMade) (l : CallMade) (n : ℕ) → names (reached ms) n ≡ true → made (reached (ms ++ ns)) l n ≡ false
    not_made ms ns l n x = go (made (reached (ms ++ ns)) l n) refl
      where
        go : (c : Bool) → made (reached (ms ++ ns)) l n ≡ c → c ≡ false
        go false q = refl
        go true q =
            let was = to (reached ms) (reached-sound ms) n x in
            let now = (takes (reached (ms ++ ns)) (reached-sound (ms ++ ns)) l n q).was in
            let up = reached_grows ms ns b (n % 16) in
            absurd (omega (arith, was, now, up))

    made_names : (ms : List CallMade) (m : CallMade) (n : ℕ) → made (reached ms) m n ≡ true → names (reached (ms ++ (m ∷ []))) n ≡ true
    made_names ms m n x = subst (λ j. names j n ≡ true) (sym (reached_next ms m)) (from (step_made (reached ms) [] m).kernel n (takes (reached ms) (reached-sound ms) m n x).now)

-- ── tasks
-- a number that named a task and was given up by a call names none ever after
pub never_again_task : (ms ns : List CallMade) (m : CallMade) (n : ℕ) → names_task (reached ms) n ≡ true → names_task (reached (ms ++ (m ∷ []))) n ≡ false
    → names_task (reached (ms ++ (m ∷ []) ++ ns)) n ≡ false
never_again_task ms ns m n = never true names_task (λ k m n. made_task (moment_from k m) n) task_life life_task task_taken ms (m ∷ []) ns n

-- a create that answers made n gives n to a task that is then there
pub made_names_task : (ms : List CallMade) (m : CallMade) (n : ℕ) → made_task (moment_from (reached ms) m) n ≡ true → names_task (reached (ms ++ (m ∷ []))) n ≡ true
made_names_task = made_names true names_task (λ k m n. made_task (moment_from k m) n) task_life life_task task_taken

-- a number that named a task, idle's among them, is made by no create from then on
pub not_made_task : (ms ns : List CallMade) (l : CallMade) (n : ℕ) → names_task (reached ms) n ≡ true → made_task (moment_from (reached (ms ++ ns)) l) n ≡ false
not_made_task = not_made true names_task (λ k m n. made_task (moment_from k m) n) task_life life_task task_taken

-- no number is made twice
pub made_once_task : (ms ns : List CallMade) (m l : CallMade) (n : ℕ) → made_task (moment_from (reached ms) m) n ≡ true → made_task (moment_from (reached (ms ++ (m ∷ []) ++ ns)) l) n ≡ false
made_once_task ms ns m l n x = not_made_task (ms ++ (m ∷ [])) ns l n (made_names_task ms m n x)

-- ── objects
pub never_again_object : (ms ns : List CallMade) (m : CallMade) (n : ℕ) → names_object (reached ms) n ≡ true → names_object (reached (ms ++ (m ∷ []))) n ≡ false
    → names_object (reached (ms ++ (m ∷ []) ++ ns)) n ≡ false
never_again_object ms ns m n = never false names_object (λ k m n. made_object (moment_from k m) n) object_life life_object object_taken ms (m ∷ []) ns n

pub made_names_object : (ms : List CallMade) (m : CallMade) (n : ℕ) → made_object (moment_from (reached ms) m) n ≡ true → names_object (reached (ms ++ (m ∷ []))) n ≡ true
made_names_object = made_names false names_object (λ k m n. made_object (moment_from k m) n) object_life life_object object_taken

pub not_made_object : (ms ns : List CallMade) (l : CallMade) (n : ℕ) → names_object (reached ms) n ≡ true → made_object (moment_from (reached (ms ++ ns)) l) n ≡ false
not_made_object = not_made false names_object (λ k m n. made_object (moment_from k m) n) object_life life_object object_taken

pub made_once_object : (ms ns : List CallMade) (m l : CallMade) (n : ℕ) → made_object (moment_from (reached ms) m) n ≡ true → made_object (moment_from (reached (ms ++ (m ∷ []) ++ ns)) l) n ≡ false
made_once_object ms ns m l n x = not_made_object (ms ++ (m ∷ [])) ns l n (made_names_object ms m n x)
