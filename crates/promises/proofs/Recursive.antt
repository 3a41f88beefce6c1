-- What call 19 makes, and the holder's take and give of a mutex, as equations of the whole step.
use Prim.Native.Nat.{ℕ, ◌+◌, ◌-◌, ◌<◌, ◌≤◌}
use mathlib.Core.Path.{◌≡◌, refl, sym, ap, subst, ◌∙◌}
use mathlib.Core.Logic.{◌⊎◌, inl, inr}
use mathlib.Core.Bool.{Bool, true, false, not, false≢true, and-false}
use mathlib.Core.List.{List, [], ◌∷◌}
use native.Mathlib.Omega.{arith}
use lib.Dec.{eqb, ltb}
use lib.ListN.{length}
use borrow.Author.Tests.{eqb-true, eq-eqb, ne_eqb, lt-ltb, le-ltb}
use Rattle.std.proofs.Common.{if◌then◌else◌}
use Rattle.lists.proofs.Tests.{below_or}
use Rattle.numbers.specs.Numbers.{object, idle, is_idle}
use Rattle.calls.specs.declared.ObjNo.{ObjNo}
use Rattle.calls.specs.Door.{obj_no, obj_slot}
use Rattle.calls.specs.Behind.{asked}
use Rattle.calls.specs.Said.{says, made}
use Rattle.order.proofs.Passing.{one_number}
use Rattle.slots.specs.Places.{is_blocked, waits_on}
use Rattle.slots.specs.Values.{task_at}
use Rattle.slots.specs.declared.Object.{Object}
use Rattle.slots.specs.Kinds.{hands, holder_of, held_by, kind_at}
use Rattle.rows.specs.Applies.{out_of_range, names_none, wrong_size, not_for_idle, not_with_hold, none_free, not_his, his_already, count_full, not_suspended, must_wait, no_depth, no_tick, table}
use Rattle.rules.specs.Tables.{free_object, with_object, with_running, with_uses}
use Rattle.rules.specs.Lines.{first, runs_if, chosen, to_tail}
use Rattle.rules.specs.Waits.{arrives}
use Rattle.rules.specs.Loans.{worked_out}
use Rattle.rules.specs.Circles.{closes_circle}
use Rattle.rules.specs.Sound.{sound}
use Rattle.rules.specs.Sentences.{KindFits, vacant, held_recursive, Sound}
use Rattle.rules.specs.Refusals.{seen, in_use, later_row, refusal}
use Rattle.rules.specs.Effects.{mutex_made, taken, given, effect}
use Rattle.rules.specs.Steps.{Stepped, stored, answered, uses_after, after, accepted, turned_away, step}
use Rattle.rules.proofs.SoundSays.{sound_says}
use Rattle.rules.proofs.TableWithin.{first_meant, first_single}
use Rattle.rules.proofs.MutexCases.{takes_again}
use Rattle.rules.proofs.TickJumps.{chosen_only}
use Rattle.rules.proofs.LineTurns.{chosen_again}
use Rattle.rules.proofs.LoanWorks.{worked_still, worked_same, worked_place}
use Rattle.rules.proofs.LoanStill.{object_reckoned}
use Rattle.rules.proofs.Keeps.{apart}
use Rattle.rules.proofs.KeepSlot.{at_other}
use Rattle.rules.proofs.KeepObject.{kind_same}
use Rattle.rules.proofs.KeepObjects.{object_low, free_kind}
use Rattle.rules.proofs.KeepChosen.{sound_reckoned}
use Rattle.rules.proofs.KeepTicks.{sound_unheld}
use Rattle.promises.specs.Types.{TaskSlot, ObjSlot, Asked, MakeRecursive, Take, Give, Ready, all_ready, waiters_of, Task, Nobody, By, Sort, Ordinary, Recursive, Kind, Mutex, State}
use Rattle.promises.specs.Advance.{done_with}
use Rattle.promises.specs.Recursive.{MakesRecursive, HasOf, Has, having, HoldAllows, HoldForbids, TakesAgain, KeepsTwelve, ends_with, GivesBack}

-- who has it has it once at least
pub once_at_least : {n : ℕ} {t : TaskSlot} → KindFits (Mutex (Recursive n) (By t)) → 1 ≤ n
once_at_least (vacant e) = absurd (false≢true e)
once_at_least (held_recursive a b) = a

-- ── an object changed, its holder the same, and all else as it was: nothing is to be worked out, and the caller runs on
module _ (k : State) (e : sound k ≡ true) (p : ObjSlot) (x : Kind) (h : holder_of x ≡ holder_of (kind_at k.objects p)) where
  abbrev j : State
  j = with_object k p x

  worked_on : worked_out j ≡ j
  worked_on = worked_still j (object_reckoned k (sound_reckoned k (sound_says k e)) p x h)

  runs_on : chosen j ≡ j
  unfolding chosen first
  runs_on = go (eqb k.hold 0) refl
    where
      same : (f : List TaskSlot) → runs_if k f ≡ k → runs_if j f ≡ j
      same [] q = refl
      same (t ∷ l) q = ap (λ u. with_running j u) (ap (λ (i : State). i.running) q)

      go : (b : Bool) → eqb k.hold 0 ≡ b → (if b then runs_if j (first j all_ready) else j) ≡ j
      go true z = same (first k all_ready) (rw z at (chosen_again k (sound_unheld k (sound_says k e) (eqb-true k.hold 0 z))))
      go false z = refl

  nothing_else : chosen (worked_out j) ≡ j
  nothing_else = ap chosen worked_on ∙ runs_on

-- ── call 19
module _ (k : State) (e : sound k ≡ true) (item s : List ℕ) (whole : length s ≡ 9216) where
  make_row : later_row k (asked k.uses MakeRecursive) (length item) (length s) ≡ (if eqb (free_object k.objects) 16 then 9 else 0)
  unfolding asked later_row table out_of_range names_none wrong_size not_for_idle not_with_hold none_free in_use not_his his_already count_full not_suspended closes_circle must_wait no_depth no_tick
  make_row = rw whole (rw (and-false (ltb 0 k.hold)))

  pub makes_recursive_so : MakesRecursive k s (step k MakeRecursive item s)
  unfolding step refusal accepted after answered stored uses_after effect asked mutex_made
  makes_recursive_so =
      record {
        makes = λ l.
            rw (e, make_row, ne_eqb (free_object k.objects) 16 (λ z. omega arith))
            (ap (λ i. record { kernel = with_uses i k.uses; answer = says made (obj_no k.uses (object (free_object k.objects))).0; store = s })
            (nothing_else k e (object (free_object k.objects)) (Mutex (Recursive 0) Nobody) (sym (ap holder_of (free_kind k (sound_says k e) 0 l)))));
        none_left = λ z. rw (e, make_row, eq-eqb (free_object k.objects) 16 z);
      }

-- ── the caller has a mutex, of whatever sort
module _ (k : State) (e : sound k ≡ true) (n : ObjNo) (p : Sort) (H : HasOf k n p) (item s : List ℕ) (whole : length s ≡ 9216) where
  abbrev o : ObjSlot
  o = obj_slot k.uses n

  S : Sound k
  S = sound_says k e

  self : eqb k.running.0 k.running.0 ≡ true
  self = eq-eqb k.running.0 k.running.0 refl

  not_idle : is_idle k.running ≡ false
  not_idle = ne_eqb k.running.0 0 (λ z. S.tables.idle_holds o (ap hands H ∙ ap By (one_number k.running idle z)))

  -- ── its take
  module _ (w : ℕ) where
    abbrev take : Asked
    take = asked k.uses (Take n w)

    unheld : HoldAllows k w → not_with_hold (seen k take) take ≡ false
    unfolding not_with_hold asked
    unheld (inl z) = rw z
    unheld (inr z) = rw z (and-false (ltb 0 k.hold))

    held_so : HoldForbids k w → step k (Take n w) item s ≡ turned_away k 8 s
    unfolding step refusal asked later_row table out_of_range names_none wrong_size not_for_idle not_with_hold
    held_so (h, l) = rw (e, whole, H, not_idle, lt-ltb 0 k.hold h, ne_eqb w 0 (λ z. omega arith))

  -- ── a take or a give that no row turns away, and after which the caller is ready
  ends_ready : (j : State) → (task_at j.tasks k.running).place ≡ Ready → is_blocked (task_at (chosen (worked_out j)).tasks k.running).place ≡ false
  ends_ready j r = ap is_blocked (ap (λ ts. (task_at ts k.running).place) (chosen_only (worked_out j)).tasks ∙ worked_place j k.running ∙ r)

  same_uses : (j : State) → j.uses ≡ k.uses → with_uses (chosen (worked_out j)) k.uses ≡ chosen (worked_out j)
  same_uses j q = ap (with_uses (chosen (worked_out j))) (sym ((chosen_only (worked_out j)).uses ∙ (worked_same j).uses ∙ q))

  take_ends : (w : ℕ) (j : State) → later_row k (take w) (length item) (length s) ≡ 0 → taken k o w ≡ j → j.uses ≡ k.uses → (task_at j.tasks k.running).place ≡ Ready
      → step k (Take n w) item s ≡ ends_with j s
  unfolding step refusal accepted after answered stored uses_after effect asked
  take_ends w j r q u y = rw (e, r, q, ends_ready j y) (ap (λ i. done_with i s) (same_uses j u))

  give_row : later_row k (asked k.uses (Give n)) (length item) (length s) ≡ 0
  unfolding asked later_row table out_of_range names_none wrong_size not_for_idle not_with_hold none_free in_use not_his his_already count_full not_suspended closes_circle must_wait no_depth no_tick
  give_row = rw (whole, H, self) (rw (and-false (ltb 0 k.hold)))

  give_ends : (j : State) → given k o ≡ j → j.uses ≡ k.uses → (task_at j.tasks k.running).place ≡ Ready → step k (Give n) item s ≡ ends_with j s
  unfolding step refusal accepted after answered stored uses_after effect asked
  give_ends j q u y = rw (e, give_row, q, ends_ready j y) (ap (λ i. done_with i s) (same_uses j u))

-- ── an ordinary one
pub keeps_twelve : (k : State) → sound k ≡ true → (n : ObjNo) → HasOf k n Ordinary → (w : ℕ) (item s : List ℕ) → length s ≡ 9216 → KeepsTwelve k w s (step k (Take n w) item s)
unfolding step refusal asked later_row table out_of_range names_none wrong_size not_for_idle none_free in_use not_his his_already
keeps_twelve k e n H w item s whole =
    record {
      twelve = λ f. rw (e, whole, unheld k e n Ordinary H item s whole w f, H, eq-eqb k.running.0 k.running.0 refl, not_idle k e n Ordinary H item s whole);
      forbidden = held_so k e n Ordinary H item s whole w;
    }

-- ── a recursive one
module _ (k : State) (e : sound k ≡ true) (n : ObjNo) (c : ℕ) (H : Has k n c) (item s : List ℕ) (whole : length s ≡ 9216) where
  abbrev it : ObjSlot
  it = obj_slot k.uses n

  sentences : Sound k
  sentences = sound_says k e

  only_counted : (d : ℕ) → ends_with (having k n d) s ≡ done_with (having k n d) s
  only_counted d = ap (λ i. done_with i s) (nothing_else k e it (Mutex (Recursive d) (By k.running)) (sym (ap holder_of H)))

  need_not_wait : (w : ℕ) → let a = asked k.uses (Take n w) in must_wait (seen k a) a ≡ false
  unfolding must_wait asked
  need_not_wait w = rw (H, eq-eqb k.running.0 k.running.0 refl) (and-false (not (not (eqb w 0))))

  take_row : (w : ℕ) → HoldAllows k w → later_row k (asked k.uses (Take n w)) (length item) (length s) ≡ (if eqb c 255 then 18 else 0)
  unfolding asked later_row table out_of_range names_none wrong_size not_for_idle none_free in_use not_his his_already count_full not_suspended closes_circle no_depth no_tick
  take_row w f =
      rw (whole, unheld k e n (Recursive c) H item s whole w f, need_not_wait w, H, eq-eqb k.running.0 k.running.0 refl, not_idle k e n (Recursive c) H item s whole)

  pub takes_again_so : (w : ℕ) → TakesAgain k n c w s (step k (Take n w) item s)
  unfolding step refusal taken
  takes_again_so w =
      record {
        again = λ f l.
            take_ends k e n (Recursive c) H item s whole w (having k n (c + 1)) (take_row w f ∙ rw (ne_eqb c 255 (λ z. omega arith)))
            (rw H (takes_again k it (Recursive c) w (By k.running) (eq-eqb k.running.0 k.running.0 refl))) refl sentences.running.runs.ready
            ∙ only_counted (c + 1);
        full = λ f z. rw (e, take_row w f, eq-eqb c 255 z);
        forbidden = held_so k e n (Recursive c) H item s whole w;
      }

  -- ── its give
  one_less : 1 < c → step k (Give n) item s ≡ done_with (having k n (c - 1)) s
  unfolding given
  one_less l = give_ends k e n (Recursive c) H item s whole (having k n (c - 1)) (rw (H, lt-ltb 1 c l)) refl sentences.running.runs.ready ∙ only_counted (c - 1)

  -- the last: whoever waited first has it, or nobody
  abbrev handing : TaskSlot → State
  handing t = with_object (arrives k t Ready 1) it (Mutex (Recursive 1) (By t))

  abbrev freeing : State
  freeing = with_object k it (Mutex (Recursive 0) Nobody)

  -- who waits is not the caller
  other : (t : TaskSlot) (l : List TaskSlot) → first k (waiters_of it) ≡ t ∷ l → t.0 ≡ k.running.0 → ⊥
  other t l q =
      apart k.tasks t k.running (waits_on it) (first_meant k (waiters_of it) t (first_single k (waiters_of it) t l q)) (ap (waits_on it) sentences.running.runs.ready)

  handed_so : c ≡ 1 → (t : TaskSlot) (l : List TaskSlot) → first k (waiters_of it) ≡ t ∷ l → step k (Give n) item s ≡ ends_with (handing t) s
  unfolding given arrives to_tail
  handed_so z t l q =
      give_ends k e n (Recursive c) H item s whole (handing t) (rw (H, le-ltb 1 c (omega arith), q)) refl
      (ap (λ (x : Task). x.place) (at_other k.tasks t _ k.running (λ y. other t l q (sym y))) ∙ sentences.running.runs.ready)

  freed_so : c ≡ 1 → first k (waiters_of it) ≡ [] → step k (Give n) item s ≡ ends_with freeing s
  unfolding given
  freed_so z q = give_ends k e n (Recursive c) H item s whole freeing (rw (H, le-ltb 1 c (omega arith), q)) refl sentences.running.runs.ready

  -- what the mutex is where it ends with the object changed
  changed_to : (j : State) (x : Kind) → j.objects ≡ k.objects → kind_at (ends_with (with_object j it x) s).kernel.objects it ≡ x
  changed_to j x q =
      ap (λ os. kind_at os it) ((chosen_only _).objects ∙ (worked_same _).objects)
      ∙ kind_same j.objects it x (omega (arith, ap (length {A = Object}) q, object_low k.objects it sentences.tables.object_slots (rw H refl), sentences.tables.object_slots))

  abbrev still_has : Stepped → Bool
  still_has d = held_by k.running (kind_at d.kernel.objects it)

  gone_so : c ≡ 1 → still_has (step k (Give n) item s) ≡ false
  unfolding arrives to_tail
  gone_so z = go (first k (waiters_of it)) refl
    where
      go : (l : List TaskSlot) → first k (waiters_of it) ≡ l → still_has (step k (Give n) item s) ≡ false
      go [] q = ap still_has (freed_so z q) ∙ ap (held_by k.running) (changed_to k (Mutex (Recursive 0) Nobody) refl)
      go (t ∷ l) q =
          ap still_has (handed_so z t l q) ∙ ap (held_by k.running) (changed_to (arrives k t Ready 1) (Mutex (Recursive 1) (By t)) refl)
          ∙ ne_eqb t.0 k.running.0 (other t l q)

  kept_so : 1 < c → still_has (step k (Give n) item s) ≡ true
  kept_so l =
      ap still_has (one_less l ∙ sym (only_counted (c - 1))) ∙ ap (held_by k.running) (changed_to k (Mutex (Recursive (c - 1)) (By k.running)) refl)
      ∙ eq-eqb k.running.0 k.running.0 refl

  only_last : (c < 2) ⊎ (2 ≤ c) → still_has (step k (Give n) item s) ≡ false → c ≡ 1
  only_last (inl l) q = omega (arith, l, once_at_least (subst KindFits H (sentences.tables.ranges it)))
  only_last (inr l) q = absurd (false≢true (sym q ∙ kept_so l))

  pub gives_back_so : GivesBack k n c s (step k (Give n) item s)
  gives_back_so = record { less = one_less; handed = λ z t q. handed_so z t [] q; freed = freed_so; gone = gone_so; only = only_last (below_or c 2) }
