-- After any calls from the fresh kernel each task's own priority is the one last given to its number, and its effective one is the rule's.
use Prim.Native.Nat.{ℕ, zero, suc, ◌+◌, ◌*◌, ◌<◌}
use mathlib.Core.Path.{◌≡◌, refl, sym, ap, subst, ◌∙◌}
use mathlib.Core.Bool.{Bool, true, false, not, ◌&&◌, ◌||◌, false≢true}
use mathlib.Core.List.{List, [], ◌∷◌}
use native.Mathlib.Omega.{arith}
use lib.Dec.{eqb}
use lib.ListN.{length, get_or, set, replicate}
use borrow.Author.Tests.{eqb-true, eqb-false}
use Rattle.std.proofs.Common.{if◌then◌else◌}
use Rattle.lists.specs.Lists.{foldl}
use Rattle.lists.proofs.Bools.{off}
use Rattle.numbers.specs.Numbers.{task}
use Rattle.calls.specs.declared.Asked.{Asked}
use Rattle.calls.specs.Door.{number_in, slot_in, task_slot}
use Rattle.calls.specs.Behind.{asked}
use Rattle.calls.specs.Said.{Saying}
use Rattle.order.proofs.Passing.{one_number}
use Rattle.slots.specs.Places.{is_free}
use Rattle.slots.specs.Values.{free_task, spent_task, ready_at, owned, task_at}
use Rattle.rows.specs.Asking.{is}
use Rattle.rules.specs.Tables.{fresh, free_slot}
use Rattle.rules.specs.Lines.{chosen, to_tail, leaves}
use Rattle.rules.specs.Sound.{sound}
use Rattle.rules.specs.Sentences.{Sound}
use Rattle.rules.specs.Loans.{new_priority, worked_out}
use Rattle.rules.specs.Events.{group_made}
use Rattle.rules.specs.Effects.{created, deleted, queue_made, mutex_made, removed, effect}
use Rattle.rules.specs.Steps.{Stepped, answered, uses_after, after, accepted, turned_away}
use Rattle.rules.specs.Trace.{Moment, moment_of, trace, state_after, CallMade, step_made}
use Rattle.rules.proofs.SoundSays.{sound_says}
use Rattle.rules.proofs.RowPasses.{Passed}
use Rattle.rules.proofs.Keeps.{there_low}
use Rattle.rules.proofs.KeepSlot.{at_same, at_other}
use Rattle.rules.proofs.KeepTasks.{has_slot}
use Rattle.rules.proofs.KeepTaken.{stands, there_stands, stands_there, effect_stays}
use Rattle.rules.proofs.KeepEvery.{fresh-sound, step_kept}
use Rattle.rules.proofs.TickJumps.{chosen_only}
use Rattle.rules.proofs.LoanWorks.{worked_place, worked_own}
use Rattle.promises.specs.History.{reached}
use Rattle.promises.specs.Program.{lines_of, answering}
use Rattle.promises.specs.Turns.{Turn, after_turns, at_start}
use Rattle.promises.specs.Reached.{program_calls}
use Rattle.promises.proofs.Reaches.{program_reached, session_so_far}
use Rattle.histories.specs.Types.{TaskNo, TaskSlot, Task, State}
use Rattle.histories.specs.Types.{Call, Create, Delete, Suspend, Resume, SetPriority, Delay, Yield, Hold, Release, MakeQueue, MakeMutex, Remove, Send, Receive, Take, Give, Tick, Advance, MakeRecursive}
use Rattle.histories.specs.Types.{MakeGroup, SetBits, ClearBits, Await}
use Rattle.histories.specs.Moments.{onto, moments, is_refusal}
use Rattle.histories.specs.Again.{names_task, is_made}
use Rattle.histories.specs.ByFullNumber.{slot_of}
use Rattle.histories.specs.Given.{sets_priority_of, given_to, last_of, last_given_to, LentByRule}
use Rattle.histories.proofs.Lives.{Becomes, as_it_was, now_taken, now_empty, effect_becomes}
use Rattle.histories.proofs.NeverAgain.{step_cases, answered_accepts}
use Rattle.histories.proofs.ByFullNumber.{slot_number, number_slot_in, number_names}
use Rattle.histories.proofs.Owns.{changes_owns, effect_owns}

-- ── a call
-- what `given_to` says of a call that got the answer
abbrev given_by : ℕ → State → Call → Saying → List ℕ
given_by n k c w =
    let a = asked k.uses c in
    if (is 1 a && (is_made w.word && eqb w.number n)) || (sets_priority_of n c && not (is_refusal w.word)) then a.priority ∷ [] else []

-- from k to j: the own priority of t is the one given then, or the one before; and who is given none was there before
record Gives (t : TaskSlot) (k j : State) (g : List ℕ) : Type 0 where
  own : (task_at j.tasks t).own ≡ last_of g (task_at k.tasks t).own
  there : g ≡ [] → is_free (task_at k.tasks t).place ≡ false

some_given : {p : ℕ} {l : List ℕ} → p ∷ l ≡ [] → ⊥
some_given e = let z : ◌≡◌ {A = ℕ} 0 1 = cc in omega arith

module _ (k : State) (S : Sound k) (i : ℕ) (t : TaskSlot) (n : ℕ) (low : t.0 < 16) (num : n ≡ number_in k.uses.tasks t.0) where
  -- nothing is given, and t stands as it stood
  none_gives : (j : State) → (task_at j.tasks t).own ≡ (task_at k.tasks t).own → stands (task_at j.tasks t).place ≡ stands (task_at k.tasks t).place
      → is_free (task_at j.tasks t).place ≡ false → Gives t k j []
  none_gives j own s f = record { own = own; there = λ e. stands_there (task_at k.tasks t).place (sym s ∙ there_stands (task_at j.tasks t).place f) }

  -- another slot is set
  other_gives : (j : State) (u : TaskSlot) (x : Task) → j.tasks ≡ set k.tasks u.0 x → (t.0 ≡ u.0 → ⊥) → is_free (task_at j.tasks t).place ≡ false → Gives t k j []
  other_gives j u x e d f =
      let same : task_at j.tasks t ≡ task_at k.tasks t = ap (λ ts. task_at ts t) e ∙ at_other k.tasks u x t d in
      none_gives j (ap (λ (y : Task). y.own) same) (ap (λ (y : Task). stands y.place) same) f

  -- 1: create, of the number of the slot that is taken
  module _ (p : ℕ) (P : Passed k (asked k.uses (Create p)) i) where
    abbrev new : TaskSlot
    new = task (free_slot k.tasks)

    create_gives : is_free (task_at (created k p).tasks t).place ≡ false
        → Gives t k (created k p) (if eqb (number_in k.uses.tasks (free_slot k.tasks)) n || false then p ∷ [] else [])
    unfolding asked created to_tail
    create_gives f = go (eqb (number_in k.uses.tasks (free_slot k.tasks)) n) refl
      where
        there : new.0 < length k.tasks
        there = has_slot k S i p P

        go : (b : Bool) → eqb (number_in k.uses.tasks (free_slot k.tasks)) n ≡ b → Gives t k (created k p) (if b || false then p ∷ [] else [])
        go true e =
            let q : t ≡ new =
            one_number t new (sym (number_names k.uses.tasks t.0 _ low (eqb-true _ n e ∙ num)) ∙ number_slot_in k.uses.tasks new.0 (omega (arith, there, S.tables.task_slots))) in
            record {
              own = ap (λ v. (task_at (created k p).tasks v).own) q ∙ ap (λ (x : Task). x.own) (at_same k.tasks new (ready_at p) there);
              there = λ z. absurd (some_given z);
            }
        go false e = other_gives (created k p) new (ready_at p) refl (λ q. eqb-false _ n e (ap (number_in k.uses.tasks) (sym q) ∙ sym num)) f

  -- 2: delete, of another task than t, which is there afterwards
  left_gone : (last : Bool) → is_free (if last then spent_task else free_task).place ≡ true
  left_gone true = refl
  left_gone false = refl

  delete_gives : (u : TaskSlot) (last : Bool) → is_free (task_at (deleted k u last).tasks t).place ≡ false → Gives t k (deleted k u last) []
  unfolding deleted leaves
  delete_gives u last f = other_gives (deleted k u last) u x refl not_gone f
    where
      x : Task
      x = if last then spent_task else free_task

      not_gone : t.0 ≡ u.0 → ⊥
      not_gone q =
          let here : task_at (set k.tasks u.0 x) t ≡ x =
          ap (λ v. task_at (set k.tasks u.0 x) v) (one_number t u q) ∙ at_same k.tasks u x (omega (arith, low, q, S.tables.task_slots)) in
          false≢true (sym f ∙ ap (λ (y : Task). is_free y.place) here ∙ left_gone last)

  -- 5: set priority, of a number that names t exactly if it is n
  change_gives : (u : TaskNo) (p : ℕ) (r : Bool) → r ≡ false → is_free (task_at (new_priority k (task_slot k.uses u) p).tasks t).place ≡ false
      → Gives t k (new_priority k (task_slot k.uses u) p) (if eqb u.0 n && not r then p ∷ [] else [])
  unfolding new_priority
  change_gives u p r ok f = rw ok (go (eqb u.0 n) refl)
    where
      s : TaskSlot
      s = task_slot k.uses u

      j : State
      j = new_priority k s p

      x : Task
      x = owned (task_at k.tasks s) p

      go : (b : Bool) → eqb u.0 n ≡ b → Gives t k j (if b && true then p ∷ [] else [])
      go true e =
          let q : s.0 ≡ t.0 = number_names k.uses.tasks t.0 u.0 low (eqb-true u.0 n e ∙ num) in
          record {
            own = ap (λ v. (task_at j.tasks v).own) (one_number t s (sym q)) ∙ ap (λ (y : Task). y.own) (at_same k.tasks s x (omega (arith, low, q, S.tables.task_slots)));
            there = λ z. absurd (some_given z);
          }
      go false e = other_gives j s x refl (λ q. eqb-false u.0 n e (slot_number k.uses.tasks t.0 u.0 low (sym q) ∙ sym num)) f

  -- every other call
  module _ (c : Call) (keeps : changes_owns (asked k.uses c) ≡ false) where
    abbrev j : State
    j = effect k (asked k.uses c)

    quiet_gives : stands (task_at j.tasks t).place ≡ stands (task_at k.tasks t).place → is_free (task_at j.tasks t).place ≡ false → Gives t k j []
    quiet_gives s f = none_gives j (effect_owns k c keeps t) s f

  call_gives : (x : State) (c : Call) → Passed k (asked k.uses c) i → is_free (task_at (effect k (asked k.uses c)).tasks t).place ≡ false
      → Gives t k (effect k (asked k.uses c)) (given_by n k c (answered k (asked k.uses c) x))
  unfolding effect asked answered queue_made mutex_made group_made removed
  call_gives x (Create p) P f = create_gives p P f
  call_gives x (Delete u) P f = delete_gives (task_slot k.uses u) _ f
  call_gives x (Suspend u) P f = quiet_gives (Suspend u) refl ((effect_stays k S i (Suspend u) refl P).tasks t) f
  call_gives x (Resume u) P f = quiet_gives (Resume u) refl ((effect_stays k S i (Resume u) refl P).tasks t) f
  call_gives x (SetPriority u p) P f = change_gives u p _ (answered_accepts k (SetPriority u p) x) f
  call_gives x (Delay d) P f = quiet_gives (Delay d) refl ((effect_stays k S i (Delay d) refl P).tasks t) f
  call_gives x Yield P f = quiet_gives Yield refl ((effect_stays k S i Yield refl P).tasks t) f
  call_gives x Hold P f = quiet_gives Hold refl ((effect_stays k S i Hold refl P).tasks t) f
  call_gives x Release P f = quiet_gives Release refl ((effect_stays k S i Release refl P).tasks t) f
  call_gives x (MakeQueue c z) P f = quiet_gives (MakeQueue c z) refl refl f
  call_gives x MakeMutex P f = quiet_gives MakeMutex refl refl f
  call_gives x (Remove o) P f = quiet_gives (Remove o) refl refl f
  call_gives x (Send o w) P f = quiet_gives (Send o w) refl ((effect_stays k S i (Send o w) refl P).tasks t) f
  call_gives x (Receive o w) P f = quiet_gives (Receive o w) refl ((effect_stays k S i (Receive o w) refl P).tasks t) f
  call_gives x (Take o w) P f = quiet_gives (Take o w) refl ((effect_stays k S i (Take o w) refl P).tasks t) f
  call_gives x (Give o) P f = quiet_gives (Give o) refl ((effect_stays k S i (Give o) refl P).tasks t) f
  call_gives x Tick P f = quiet_gives Tick refl ((effect_stays k S i Tick refl P).tasks t) f
  call_gives x MakeRecursive P f = quiet_gives MakeRecursive refl refl f
  call_gives x MakeGroup P f = quiet_gives MakeGroup refl refl f
  call_gives x (SetBits o m) P f = quiet_gives (SetBits o m) refl ((effect_stays k S i (SetBits o m) refl P).tasks t) f
  call_gives x (ClearBits o m) P f = quiet_gives (ClearBits o m) refl ((effect_stays k S i (ClearBits o m) refl P).tasks t) f
  call_gives x (Await o m a c w) P f = quiet_gives (Await o m a c w) refl ((effect_stays k S i (Await o m a c w) refl P).tasks t) f
  call_gives x (Advance d) P f = quiet_gives (Advance d) refl ((effect_stays k S i (Advance d) refl P).tasks t) f

-- ── a moment
-- the moment of what a step gave
abbrev giving : State → List ℕ → CallMade → Stepped → Moment CallMade
giving k s m d = record { before = k; store = s; made = m; gave = d }

-- n named the slot before, and what is given to n is given to the task in it
record Tells (t : TaskSlot) (n : ℕ) (m : Moment CallMade) : Type 0 where
  slot : slot_in m.before.uses.tasks n ≡ t.0
  gives : Gives t m.before m.gave.kernel (given_to n m)

-- where n names the slot of a task afterwards
abbrev TellsIf : TaskSlot → ℕ → Moment CallMade → Type 0
TellsIf t n m = slot_in m.gave.kernel.uses.tasks n ≡ t.0 → is_free (task_at m.gave.kernel.tasks t).place ≡ false → Tells t n m

-- the use of a slot with a task afterwards stays
use_kept : {g : Bool} {st u st' u' : ℕ} → Becomes g st u st' u' → st' ≡ 1 → u' ≡ u
use_kept (as_it_was n e f) h = f
use_kept (now_taken n e f q) h = q
use_kept (now_empty n e true l f q) h = absurd (omega arith)
use_kept (now_empty n e false l f q) h = absurd (omega arith)

module _ (k : State) (e : sound k ≡ true) (s : List ℕ) (m : CallMade) (t : TaskSlot) (n : ℕ) (low : t.0 < 16) where
  abbrev a : Asked
  a = asked k.uses m.call

  -- the effective priorities worked out, and choose
  abbrev end : State
  end = chosen (worked_out (effect k a))

  end_place : (task_at end.tasks t).place ≡ (task_at (effect k a).tasks t).place
  end_place = ap (λ ts. (task_at ts t).place) (chosen_only (worked_out (effect k a))).tasks ∙ worked_place (effect k a) t

  end_own : (task_at end.tasks t).own ≡ (task_at (effect k a).tasks t).own
  end_own = ap (λ ts. (task_at ts t).own) (chosen_only (worked_out (effect k a))).tasks ∙ worked_own (effect k a) t

  accepted_tells : Passed k a (length m.store) → TellsIf t n (giving k s m (accepted k a m.item m.store))
  unfolding accepted after given_to
  accepted_tells P x f =
      let S = sound_says k e in
      let there : is_free (task_at (effect k a).tasks t).place ≡ false = sym (ap is_free end_place) ∙ f in
      let same = use_kept (effect_becomes k S (length m.store) m.call P true t.0) (there_stands (task_at (effect k a).tasks t).place there) in
      let num : n ≡ number_in k.uses.tasks t.0 = slot_number (uses_after k.uses a).tasks t.0 n low x ∙ ap (λ v. t.0 + 16 * v) same in
      let G = call_gives k S (length m.store) t n low num end m.call P there in
      record { slot = number_names k.uses.tasks t.0 n low num; gives = record { own = end_own ∙ G.own; there = G.there } }

  refused_tells : (row : ℕ) → TellsIf t n (giving k s m (turned_away k row m.store))
  unfolding given_to
  refused_tells row x f = record { slot = x; gives = rw (none_given (is 1 a) (sets_priority_of n m.call)) (record { own = refl; there = λ z. f }) }
    where
      none_given : (x y : Bool) → ((x && false) || (y && false)) ≡ false
      none_given true true = refl
      none_given true false = refl
      none_given false true = refl
      none_given false false = refl

  step_tells : TellsIf t n (moment_of step_made k s m)
  step_tells = step_cases k e m (λ d. TellsIf t n (giving k s m d)) accepted_tells (refused_tells _)

-- ── the history
record Told (k : State) (past : List (Moment CallMade)) : Type 0 where
  fine : sound k ≡ true
  own : (n : ℕ) → names_task k n ≡ true → (task_at k.tasks (slot_of k n)).own ≡ last_given_to n past

-- the fresh kernel: idle alone, with 0
fresh_own : (t : TaskSlot) → (task_at fresh.tasks t).own ≡ 0
unfolding fresh task_at
fresh_own t = go t.0
  where
    rest : (m n : ℕ) → (get_or (replicate m free_task) n free_task).own ≡ 0
    rest zero n = refl
    rest (suc m) zero = refl
    rest (suc m) (suc n) = rest m n

    go : (n : ℕ) → (get_or (ready_at 0 ∷ replicate 15 free_task) n free_task).own ≡ 0
    go zero = refl
    go (suc n) = rest 15 n

starts : Told fresh []
unfolding last_given_to
starts = record { fine = fresh-sound; own = λ n h. fresh_own (slot_of fresh n) }

-- one call more
module _ (k : State) (past : List (Moment CallMade)) (s : List ℕ) (m : CallMade) (T : Told k past) where
  abbrev now : Moment CallMade
  now = moment_of step_made k s m

  abbrev next : State
  next = now.gave.kernel

  still_fine : sound next ≡ true
  still_fine = step_kept k m.call m.item m.store T.fine

  own_now : (n : ℕ) → names_task next n ≡ true → (task_at next.tasks (slot_of next n)).own ≡ last_given_to n (now ∷ past)
  unfolding last_given_to
  own_now n h = tells.gives.own ∙ go (given_to n now) refl
    where
      t : TaskSlot
      t = slot_of next n

      there : is_free (task_at next.tasks t).place ≡ false
      there = off _ h

      tells : Tells t n now
      tells = step_tells k T.fine s m t n (there_low next.tasks t (sound_says next still_fine).tables.task_slots there) refl there

      was : slot_of k n ≡ t
      was = ap task tells.slot

      go : (g : List ℕ) → given_to n now ≡ g → last_of g (task_at k.tasks t).own ≡ last_of g (last_given_to n past)
      go [] q = ap (λ (v : TaskSlot). (task_at k.tasks v).own) (sym was) ∙ T.own n (ap not (ap (λ (v : TaskSlot). is_free (task_at k.tasks v).place) was ∙ tells.gives.there q))
      go (p ∷ ps) q = refl

  one_more : Told next (now ∷ past)
  one_more = record { fine = still_fine; own = own_now }

told : (k : State) (past : List (Moment CallMade)) (s : List ℕ) (ms : List CallMade) → Told k past → Told (state_after k (trace step_made k s ms)) (onto past (trace step_made k s ms))
unfolding foldl trace
told k past s [] T = T
told k past s (m ∷ ms) T = told (step_made k s m).kernel _ _ ms (one_more k past s m T)

-- of the task that a number names
pub by_the_rule : (ms : List CallMade) (n : ℕ) → LentByRule ms (reached ms) n
by_the_rule ms n h =
    let T : Told (reached ms) (moments ms) = told fresh [] [] ms starts in
    let S = sound_says (reached ms) T.fine in
    record { own = T.own n h; effective = S.levels.rule (slot_of (reached ms) n) (there_low (reached ms).tasks (slot_of (reached ms) n) S.tables.task_slots (off _ h)) }

-- ── of the program: the calls are those of its lines
pub program_by_the_rule : (ls : List (List ℕ)) (n : ℕ) → LentByRule (program_calls ls) (answering fresh (replicate 9216 0) ls).kernel n
program_by_the_rule ls n = subst (λ (k : State). LentByRule (program_calls ls) k n) (sym (program_reached ls)) (by_the_rule (program_calls ls) n)

-- however the input is cut, at any time
pub session_by_the_rule : (ts : List Turn) (n : ℕ) → LentByRule (program_calls (lines_of (session_so_far ts).taken)) (after_turns at_start ts).kernel n
session_by_the_rule ts n =
    let h = session_so_far ts in
    subst (λ (k : State). LentByRule (program_calls (lines_of h.taken)) k n) (sym h.kernel) (program_by_the_rule (lines_of h.taken) n)
