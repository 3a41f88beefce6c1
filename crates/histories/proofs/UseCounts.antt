-- "where a slot's use starts at 0 and goes up by one at each delete or remove": after any calls from the fresh kernel a slot's use is the number of times that it was given up.
use Prim.Native.Nat.{ℕ, zero, suc, ◌+◌, ◌*◌, ◌≤◌}
use mathlib.Core.Path.{◌≡◌, refl, sym, ap, subst, ◌∙◌}
use mathlib.Core.Bool.{Bool, true, false, not, ◌&&◌}
use mathlib.Core.List.{List, [], ◌∷◌}
use native.Mathlib.Omega.{arith}
use lib.ListN.{length, get_or, replicate}
use borrow.Author.Tests.{eqb-true}
use Rattle.std.proofs.Common.{if◌then◌else◌}
use Rattle.lists.specs.Lists.{foldl, kept}
use Rattle.lists.proofs.Bools.{off}
use Rattle.calls.specs.Door.{use_in, fresh_uses}
use Rattle.calls.specs.Behind.{asked}
use Rattle.slots.specs.Places.{is_free, takes_task}
use Rattle.slots.specs.Values.{free_task, task_at}
use Rattle.slots.specs.Kinds.{unused, is_unused, takes_object, kind_at}
use Rattle.rules.specs.Tables.{fresh}
use Rattle.rules.specs.Lines.{chosen}
use Rattle.rules.specs.Sound.{sound}
use Rattle.rules.specs.Sentences.{Used}
use Rattle.rules.specs.Effects.{effect}
use Rattle.rules.specs.Steps.{uses_after, after, accepted}
use Rattle.rules.specs.Trace.{Moment, moment_of, trace, state_after, CallMade, step_made}
use Rattle.rules.proofs.SoundSays.{sound_says}
use Rattle.rules.proofs.KeepTaken.{stands, stands_as}
use Rattle.rules.proofs.KeepEvery.{fresh-sound, step_kept}
use Rattle.promises.specs.History.{reached}
use Rattle.promises.proofs.Histories.{reached-sound}
use Rattle.histories.specs.Types.{TaskSlot, ObjSlot, Place, Free, Ready, Delayed, Waiting, Suspended, Spent, Kind, Unused, SpentObject, Queue, Mutex, Group, State}
use Rattle.histories.specs.Moments.{onto, moments, is_refusal}
use Rattle.histories.specs.Uses.{use_of, task_use, object_use, times, UsesCount}
use Rattle.histories.proofs.Lives.{stands_in, kept_use, Becomes, as_it_was, now_taken, now_empty, gives_up, effect_becomes, end_slot}
use Rattle.histories.proofs.NeverAgain.{step_cases, answered_accepts}

-- ── the use of one slot, by what stands in it
abbrev use_by : ℕ → ℕ → ℕ
use_by zero u = use_of true true u
use_by (suc zero) u = use_of false false u
use_by (suc (suc n)) u = use_of true false u

task_by : (p : Place) (u : ℕ) → use_of (is_free p) (takes_task p) u ≡ use_by (stands p) u
task_by Free u = refl
task_by Ready u = refl
task_by (Delayed w) u = refl
task_by (Waiting o w) u = refl
task_by Suspended u = refl
task_by Spent u = refl

object_by : (x : Kind) (u : ℕ) → use_of (is_unused x) (takes_object x) u ≡ use_by (stands_as x) u
object_by Unused u = refl
object_by SpentObject u = refl
object_by (Queue q) u = refl
object_by (Mutex s h) u = refl
object_by (Group b) u = refl

abbrev pub one : Bool → ℕ
one b = if b then 1 else 0

becomes_use : (g : Bool) (st u st' u' : ℕ) → Becomes g st u st' u' → use_by st' u' ≡ one g + use_by st u
becomes_use g st u st' u' (as_it_was n e f) = rw (n, e, f) (omega arith)
becomes_use g st u st' u' (now_taken n e f q) = rw (n, e, f, q) (omega arith)
becomes_use g st u st' u' (now_empty n e true l f q) = rw (n, e, f) (omega (arith, eqb-true u 65535 l))
becomes_use g st u st' u' (now_empty n e false l f q) = rw (n, e, f, q) (omega arith)

-- ── a step: true for a task slot, false for an object slot
abbrev use_at : Bool → State → ℕ → ℕ
use_at b k s = use_by (stands_in b k s) (kept_use b k s)

abbrev gives : Bool → ℕ → Moment CallMade → Bool
gives b s m = not (is_refusal m.gave.answer.word) && gives_up b (asked m.before.uses m.made.call) s

step_use : (k : State) → sound k ≡ true → (m : CallMade) (b : Bool) (s : ℕ) → use_at b (step_made k [] m).kernel s ≡ one (gives b s (moment_of step_made k [] m)) + use_at b k s
unfolding accepted after
step_use k e m b s =
    step_cases k e m (λ d. use_at b d.kernel s ≡ one (not (is_refusal d.answer.word) && gives_up b (asked k.uses m.call) s) + use_at b k s)
    (λ P.
    end_slot use_by b (effect k (asked k.uses m.call)) (uses_after k.uses (asked k.uses m.call)) s
    ∙ becomes_use _ _ _ _ _ (effect_becomes k (sound_says k e) (length m.store) m.call P b s)
    ∙ ap (λ r. one (not r && gives_up b (asked k.uses m.call) s) + use_at b k s) (sym (answered_accepts k m.call (chosen (after k (asked k.uses m.call))))))
    (omega arith)

-- ── any calls
record Counts (k : State) (past : List (Moment CallMade)) : Type 0 where
  fine : sound k ≡ true
  used : (b : Bool) (s : ℕ) → use_at b k s ≡ times (gives b s) past

pub same_all : {A : Type 0} (m n : ℕ) (x : A) → get_or (replicate m x) n x ≡ x
same_all zero n x = refl
same_all (suc m) zero x = refl
same_all (suc m) (suc n) x = same_all m n x

starts : Counts fresh []
unfolding fresh fresh_uses task_at kind_at kept
starts = record { fine = fresh-sound; used = none }
  where
    none : (b : Bool) (s : ℕ) → use_at b fresh s ≡ 0
    none true zero = refl
    none true (suc s) = rw (same_all 15 s free_task, same_all {A = ℕ} 15 s 0)
    none false s = rw (same_all 16 s unused, same_all {A = ℕ} 16 s 0)

pub times_more : (p : Moment CallMade → Bool) (m : Moment CallMade) (ms : List (Moment CallMade)) → times p (m ∷ ms) ≡ one (p m) + times p ms
unfolding kept
times_more p m ms = go (p m)
  where
    go : (b : Bool) → length (if b then m ∷ kept p ms else kept p ms) ≡ one b + length (kept p ms)
    go true = omega arith
    go false = omega arith

counts : (k : State) (past : List (Moment CallMade)) (s : List ℕ) (ms : List CallMade) → Counts k past
    → Counts (state_after k (trace step_made k s ms)) (onto past (trace step_made k s ms))
unfolding foldl trace
counts k past s [] C = C
counts k past s (m ∷ ms) C = counts (step_made k s m).kernel _ _ ms (record { fine = step_kept k m.call m.item m.store C.fine; used = use_now })
  where
    use_now : (b : Bool) (i : ℕ) → use_at b (step_made k s m).kernel i ≡ times (gives b i) (moment_of step_made k s m ∷ past)
    use_now b i =
        step_use k C.fine m b i
        ∙ ap (λ n. one (gives b i (moment_of step_made k s m)) + n) (C.used b i)
        ∙ sym (times_more (gives b i) (moment_of step_made k s m) past)

-- ── in the request's words
most : (empty takes : Bool) (u : ℕ) → u ≤ 65535 → use_of empty takes u ≤ 65536
most true true u h = omega (arith, h)
most true false u h = omega arith
most false takes u h = omega (arith, h)

-- a slot with something in it has the use that is kept
in_use : (empty takes : Bool) (u : ℕ) → empty ≡ false → use_of empty takes u ≡ u
in_use empty takes u e = rw e

module _ (ms : List CallMade) where
  abbrev k : State
  k = reached ms

  C : Counts k (moments ms)
  C = counts fresh [] [] ms starts

  U : Used k.uses
  U = (sound_says k (reached-sound ms)).uses

  task_in : (t : TaskSlot) → is_free (task_at k.tasks t).place ≡ false → task_use k t ≡ use_in k.uses.tasks t.0
  task_in t e = in_use (is_free (task_at k.tasks t).place) (takes_task (task_at k.tasks t).place) (use_in k.uses.tasks t.0) e

  object_in : (o : ObjSlot) → is_unused (kind_at k.objects o) ≡ false → object_use k o ≡ use_in k.uses.objects o.0
  object_in o e = in_use (is_unused (kind_at k.objects o)) (takes_object (kind_at k.objects o)) (use_in k.uses.objects o.0) e

  pub uses_count : UsesCount ms
  uses_count =
      record {
        tasks = λ t. task_by (task_at k.tasks t).place (use_in k.uses.tasks t.0) ∙ C.used true t.0;
        objects = λ o. object_by (kind_at k.objects o) (use_in k.uses.objects o.0) ∙ C.used false o.0;
        task_most = λ t. most (is_free (task_at k.tasks t).place) (takes_task (task_at k.tasks t).place) (use_in k.uses.tasks t.0) (U.tasks t);
        object_most = λ o. most (is_unused (kind_at k.objects o)) (takes_object (kind_at k.objects o)) (use_in k.uses.objects o.0) (U.objects o);
        task_taken = λ t x. subst (λ u. u ≤ 65535) (sym (task_in t (off _ x))) (U.tasks t);
        object_taken = λ o x. subst (λ u. u ≤ 65535) (sym (object_in o x)) (U.objects o);
        task_number = λ t x. ap (λ u. t.0 + 16 * u) (sym (task_in t (off _ x)));
        object_number = λ o x. ap (λ u. o.0 + 16 * u) (sym (object_in o x));
      }
