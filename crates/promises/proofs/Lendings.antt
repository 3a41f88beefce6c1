-- The rule of effective priorities holds, nothing else matters, and only some calls change one.
use Prim.Native.Nat.{ℕ, ◌<◌, ◌≤◌}
use mathlib.Core.Path.{◌≡◌, refl, sym, ap, ◌∙◌}
use mathlib.Core.Bool.{Bool, true, false, false≢true}
use mathlib.Core.List.{List, [], ◌∷◌}
use native.Mathlib.Omega.{arith}
use lib.Dec.{eqb, ltb}
use lib.ListN.{length, get_or}
use lib.Bits.{bit_or}
use borrow.Author.Tests.{eqb-true, ltb-true, ltb-false}
use Rattle.std.proofs.Common.{if◌then◌else◌}
use Rattle.lists.proofs.Bools.{or_off}
use Rattle.numbers.specs.Numbers.{task}
use Rattle.order.proofs.Passing.{one_number}
use Rattle.calls.specs.Door.{task_slot, obj_slot}
use Rattle.calls.specs.Behind.{nothing, asked}
use Rattle.slots.specs.declared.Object.{Object}
use Rattle.slots.specs.Places.{is_free}
use Rattle.slots.specs.Values.{ready_at, placed, task_at, levelled}
use Rattle.slots.specs.Kinds.{kind_at}
use Rattle.rules.specs.Tables.{free_slot}
use Rattle.rules.specs.Lines.{level, first, to_tail}
use Rattle.rules.specs.Loans.{ruled, worked_out}
use Rattle.rules.specs.Sound.{sound}
use Rattle.rules.specs.Sentences.{Sound, Exists, Reaches}
use Rattle.rules.specs.Waits.{later, arrives, wait_for}
use Rattle.rules.specs.Rings.{one_less}
use Rattle.rules.specs.Queues.{sent_by, sent, sent_to, refilled_by, received, received_from}
use Rattle.rules.specs.Ticks.{held}
use Rattle.rules.specs.Events.{group_made, set_on, cleared_on, awaited_on}
use Rattle.rules.specs.Refusals.{refusal}
use Rattle.rules.specs.Effects.{created, resumed, yielded, delayed, queue_made, mutex_made, removed, effect}
use Rattle.rules.specs.Steps.{may_lend, after, accepted, turned_away, step}
use Rattle.rules.specs.Trace.{CallMade}
use Rattle.rules.proofs.TableSlots.{past_tasks}
use Rattle.rules.proofs.TableWithin.{by_outlet}
use Rattle.rules.proofs.LoanRule.{ruled_rule, ruled_same, largest_one}
use Rattle.rules.proofs.LoanWorks.{worked_at, worked_still}
use Rattle.rules.proofs.LoanStill.{settles}
use Rattle.rules.proofs.EventCases.{by_bits, by_set, by_clear, by_await}
use Rattle.rules.proofs.SoundSays.{sound_says}
use Rattle.rules.proofs.RowPasses.{Passed, passed}
use Rattle.rules.proofs.TickJumps.{chosen_only}
use Rattle.rules.proofs.KeepSlot.{at_other, like_before}
use Rattle.rules.proofs.KeepTasks.{is_free_lem}
use Rattle.rules.proofs.KeepChosen.{sound_reckoned}
use Rattle.rules.proofs.KeepEvery.{step_kept}
use Rattle.rules.proofs.Keeps.{ready_low}
use Rattle.promises.specs.Types.{TaskSlot, ObjSlot, Call, Create, Delete, Suspend, Resume, SetPriority, Delay, Yield, Hold, Release, MakeQueue, MakeMutex, Remove, Send, Ready}
use Rattle.promises.specs.Types.{Receive, Take, Give, Tick, Advance, MakeRecursive, MakeGroup, SetBits, ClearBits, Await}
use Rattle.promises.specs.Types.{Want, OwnTurn, Place, Delayed, waiters_of, Kind, Unused, SpentObject, Queue, Mutex, Group, Task, Asked, State}
use Rattle.promises.specs.History.{reached}
use Rattle.promises.specs.Lending.{RuleHolds, Afresh, SameLoans, SameLevels, may_change, NotSlow}
use Rattle.promises.proofs.AlikeSteps.{not_refused}
use Rattle.promises.proofs.Histories.{reached-sound, after_any_calls}

-- ── the rule, of any sixteen tasks and any objects, sound or not, with circles or without
pub rule_holds : (ts : List Task) (os : List Object) → length ts ≡ 16 → RuleHolds ts os
rule_holds ts os l = record { largest = ruled_rule ts os l; no_second = largest_one ts os }

pub worked_afresh : (k : State) → length k.tasks ≡ 16 → Afresh k (worked_out k)
worked_afresh k l =
    record {
      rule = λ t h. rw (effective t h) (ruled_rule k.tasks k.objects l t h);
      but_for_it = λ t h. worked_at k l t h ∙ ap (levelled (task_at k.tasks t)) (sym (effective t h));
    }
  where
    effective : (t : TaskSlot) → t.0 < 16 → level (worked_out k).tasks t ≡ get_or (ruled k.tasks k.objects) t.0 0
    effective t h = ap (λ (x : Task). x.effective) (worked_at k l t h)

-- ── nothing but the rule matters
pub only_the_rule : (k j : State) → sound k ≡ true → sound j ≡ true → SameLoans k j → SameLevels k j
only_the_rule k j e f L t = go (ltb t.0 16) refl
  where
    S : Sound k
    S = sound_says k e

    T : Sound j
    T = sound_says j f

    go : (b : Bool) → ltb t.0 16 ≡ b → level k.tasks t ≡ level j.tasks t
    go true q =
        let h = ltb-true t.0 16 q in
        sound_reckoned k S t h
        ∙ ap (λ ls. get_or ls t.0 0) (ruled_same k.tasks j.tasks k.objects j.objects (λ u l. L.owns u) (λ u l. L.waits u))
        ∙ sym (sound_reckoned j T t h)
    go false q =
        let h = ltb-false t.0 16 q in
        ap (λ (x : Task). x.effective) (past_tasks k.tasks t (omega (arith, S.tables.task_slots)) ∙ sym (past_tasks j.tasks t (omega (arith, T.tables.task_slots))))

-- "a step that changes no own priority, holder or wait on a mutex changes no effective one"
pub none_lent : (k : State) (c : Call) (item s : List ℕ) → sound k ≡ true → SameLoans k (step k c item s).kernel → SameLevels k (step k c item s).kernel
none_lent k c item s e = only_the_rule k (step k c item s).kernel e (step_kept k c item s e)

-- ── the calls after which no task has another
-- made ready, or begins to wait
arrives_stays : (k : State) (t u : TaskSlot) (p : Place) (n : ℕ) → level (arrives k u p n).tasks t ≡ level k.tasks t
unfolding arrives to_tail
arrives_stays k t u p n = like_before k.tasks u (placed (task_at k.tasks u) p n) (λ (x : Task). x.effective) refl t

module _ (k : State) (S : Sound k) (t : TaskSlot) where
  created_stays : (n p : ℕ) → Passed k (nothing 1 p 0 1 0) n → Exists k.tasks t → level (created k p).tasks t ≡ level k.tasks t
  unfolding created to_tail
  created_stays n p P e =
      let new = task (free_slot k.tasks) in
      let other : t.0 ≡ new.0 → ⊥ = λ z. false≢true (sym e ∙ ap (λ u. is_free (task_at k.tasks u).place) (one_number t new z) ∙ is_free_lem k S n p P) in
      ap (λ (x : Task). x.effective) (at_other k.tasks new (ready_at p) t other)

  delayed_stays : (n : ℕ) → level (delayed k n).tasks t ≡ level k.tasks t
  unfolding delayed yielded to_tail
  delayed_stays n = go (eqb n 0)
    where
      go : (b : Bool) → level (if b then yielded k else arrives k k.running (Delayed (later k.tick n)) 0).tasks t ≡ level k.tasks t
      go true = refl
      go false = arrives_stays k t k.running (Delayed (later k.tick n)) 0

  waits_stays : (o : ObjSlot) (x : Want) (w : ℕ) → level (wait_for k o x w).tasks t ≡ level k.tasks t
  unfolding wait_for
  waits_stays o x w = arrives_stays k t k.running _ 0

  sent_stays : (o : ObjSlot) (x : Kind) (w : ℕ) → level (sent_to k o x w).tasks t ≡ level k.tasks t
  unfolding sent
  sent_stays o Unused w = refl
  sent_stays o SpentObject w = refl
  sent_stays o (Queue q) w = by_outlet k o q (λ x. level (sent_by k o q w x).tasks t ≡ level k.tasks t) (λ u e. arrives_stays k t u Ready 1) refl (waits_stays o OwnTurn w)
  sent_stays o (Mutex s h) w = refl
  sent_stays o (Group b) w = refl

  received_stays : (o : ObjSlot) (x : Kind) (w : ℕ) → level (received_from k o x w).tasks t ≡ level k.tasks t
  unfolding received
  received_stays o Unused w = refl
  received_stays o SpentObject w = refl
  received_stays o (Queue q) w = go (eqb q.count 0) (first k (waiters_of o))
    where
      go : (b : Bool) (l : List TaskSlot) → level (if b then wait_for k o OwnTurn w else refilled_by k o (one_less q) l).tasks t ≡ level k.tasks t
      go true l = waits_stays o OwnTurn w
      go false [] = refl
      go false (u ∷ l) = arrives_stays _ t u Ready 1
  received_stays o (Mutex s h) w = refl
  received_stays o (Group b) w = refl

  set_stays : (o : ObjSlot) (m : ℕ) → level (set_on k o (kind_at k.objects o) m).tasks t ≡ level k.tasks t
  set_stays o m =
      let P : State → Type 0 = λ j. level j.tasks t ≡ level k.tasks t in
      by_set k o P (λ e. refl) m (λ b e. by_bits o (bit_or b m) P (λ j u h f. arrives_stays j t u Ready 1 ∙ h) (λ j c h. h) k refl)

  clear_stays : (o : ObjSlot) (m : ℕ) → level (cleared_on k o (kind_at k.objects o) m).tasks t ≡ level k.tasks t
  clear_stays o m = by_clear k o (λ j. level j.tasks t ≡ level k.tasks t) (λ e. refl) m (λ b e. refl)

  await_stays : (o : ObjSlot) (x : Want) (w : ℕ) → level (awaited_on k o (kind_at k.objects o) x w).tasks t ≡ level k.tasks t
  await_stays o x w = by_await k o (λ j. level j.tasks t ≡ level k.tasks t) (λ e. refl) x w (λ b e q. refl) (λ b e q. waits_stays o x w)

  effect_stays : (n : ℕ) (c : Call) → Passed k (asked k.uses c) n → may_change (asked k.uses c) ≡ false → Exists k.tasks t → level (effect k (asked k.uses c)).tasks t ≡ level k.tasks t
  unfolding effect asked may_change may_lend resumed yielded to_tail held queue_made mutex_made group_made removed
  effect_stays n (Create p) P e x = created_stays n p P x
  effect_stays n (Delete u) P e x = absurd (false≢true (sym e))
  effect_stays n (Suspend u) P e x = absurd (false≢true (sym e))
  effect_stays n (Resume u) P e x = arrives_stays k t (task_slot k.uses u) Ready _
  effect_stays n (SetPriority u p) P e x = absurd (false≢true (sym e))
  effect_stays n (Delay d) P e x = delayed_stays d
  effect_stays n Yield P e x = refl
  effect_stays n Hold P e x = refl
  effect_stays n Release P e x = absurd (false≢true (sym e))
  effect_stays n (MakeQueue c z) P e x = refl
  effect_stays n MakeMutex P e x = refl
  effect_stays n (Remove o) P e x = refl
  effect_stays n (Send o w) P e x = sent_stays (obj_slot k.uses o) (kind_at k.objects (obj_slot k.uses o)) w
  effect_stays n (Receive o w) P e x = received_stays (obj_slot k.uses o) (kind_at k.objects (obj_slot k.uses o)) w
  effect_stays n (Take o w) P e x = absurd (false≢true (sym e))
  effect_stays n (Give o) P e x = absurd (false≢true (sym e))
  effect_stays n Tick P e x = absurd (false≢true (sym e))
  effect_stays n (Advance d) P e x = absurd (false≢true (sym e))
  effect_stays n MakeRecursive P e x = refl
  effect_stays n MakeGroup P e x = refl
  effect_stays n (SetBits o m) P e x = set_stays (obj_slot k.uses o) m
  effect_stays n (ClearBits o m) P e x = clear_stays (obj_slot k.uses o) m
  effect_stays n (Await o m a c w) P e x = await_stays (obj_slot k.uses o) _ w

-- of the five alone the effective priorities are to be worked out: after any other call's effect they are the rule's
pub nothing_to_work_out : (k : State) → Sound k → (n : ℕ) (c : Call) → Passed k (asked k.uses c) n → may_lend (asked k.uses c) ≡ false → after k (asked k.uses c) ≡ effect k (asked k.uses c)
unfolding after
nothing_to_work_out k S n c P e = worked_still (effect k (asked k.uses c)) (settles k S n c P e)

-- and, where no tick passes, those that each task had
pub few_change : (k : State) (c : Call) (item s : List ℕ) → sound k ≡ true → may_change (asked k.uses c) ≡ false
    → (t : TaskSlot) → Exists k.tasks t → level (step k c item s).kernel.tasks t ≡ level k.tasks t
unfolding step accepted may_change
few_change k c item s e f t x = go (eqb no 0) refl
  where
    a : Asked
    a = asked k.uses c

    no : ℕ
    no = refusal k a (length item) (length s)

    go : (b : Bool) → eqb no 0 ≡ b → level (if b then accepted k a item s else turned_away k no s).kernel.tasks t ≡ level k.tasks t
    go true q =
        let S = sound_says k e in
        let P = passed k a (length item) (length s) (not_refused k a (length item) (length s) (eqb-true no 0 q)).1 in
        ap (λ ts. level ts t) (chosen_only (after k a)).tasks
        ∙ ap (λ (j : State). level j.tasks t) (nothing_to_work_out k S (length s) c P (or_off (may_lend a) _ f).0)
        ∙ effect_stays k S t (length s) c P f x
    go false q = refl

-- ── no one whom others wait for stays slow, after any calls
pub nobody_slow : (ms : List CallMade) → NotSlow (reached ms)
nobody_slow ms = record { holder = lends; runner = λ z s t r e. omega (arith, lends s t r e, (after_any_calls ms).not_outranked z t e) }
  where
    k : State
    k = reached ms

    S : Sound k
    S = sound_says k (reached-sound ms)

    lends : (s t : TaskSlot) → Reaches k.tasks k.objects s t → (task_at k.tasks t).place ≡ Ready → (task_at k.tasks s).own ≤ level k.tasks t
    lends s t r e = (S.levels.rule t (ready_low k.tasks t S.tables.task_slots e)).at_least s r
