-- 255 takes, the 256th refused 18, 255 gives, and the same by the waiter who gets it at count 1: what is computed, and between it so many takes or gives, by the equations of one.
use Prim.Native.Nat.{ℕ, ◌<◌, zero, suc, ◌+◌, ◌-◌, ◌≤◌}
use mathlib.Core.Path.{◌≡◌, refl, sym, ap, ◌∙◌, subst}
use mathlib.Core.Bool.{true, false}
use mathlib.Core.List.{List, [], ◌∷◌, ◌++◌, map, append-nil, append_assoc}
use native.Mathlib.Omega.{arith}
use lib.ListN.{length, replicate}
use lib.Seq.{set-set}
use Rattle.lists.specs.Lists.{every, all_below, foldl, up_to, values, index, any, kept}
use Rattle.calls.specs.declared.ObjNo.{ObjNo}
use Rattle.calls.specs.Named.{object_of}
use Rattle.calls.specs.Door.{fresh_uses, task_no, obj_slot}
use Rattle.calls.specs.Behind.{asked}
use Rattle.order.specs.Order.{ordered, without}
use Rattle.order.specs.Tidy.{count}
use Rattle.promises.specs.Types.{Asked, Call, Create, MakeRecursive, Take, Give, OwnTurn, Ready, Waiting, Never, By, Recursive, Unused, Mutex, State}
use Rattle.chains.specs.Columns.{raised}
use Rattle.chains.specs.Lent.{goes_on, levels}
use Rattle.rules.specs.Effects.{created, mutex_made, taken, given, effect}
use Rattle.rules.specs.Lines.{line, those, begun, highest, leader, first, chosen, to_tail, to_head, leaves}
use Rattle.rules.specs.Loans.{moved, moved_if, ruled, prioritized, relevelled, worked_out}
use Rattle.rows.specs.Applies.{out_of_range, names_none, wrong_size, not_for_idle, not_with_hold, none_free, not_his, his_already, count_full, not_suspended, must_wait, no_depth, no_tick, table}
use Rattle.chains.specs.Chains.{within}
use Rattle.rules.specs.Circles.{leads_to, closes_circle}
use Rattle.rules.specs.Refusals.{in_use, later_row, refusal}
use Rattle.rules.specs.Sound.{sound}
use Rattle.calls.specs.Said.{Saying, says, done, made, waiting, refused}
use Rattle.rules.specs.Steps.{Stepped, stored, answered, uses_after, may_lend, after, accepted, stepped_by, step}
use Rattle.rules.proofs.KeepEvery.{fresh-sound, step_kept}
use Rattle.rules.specs.Trace.{trace, lending}
use Rattle.slots.specs.Wants.{wait_on}
use Rattle.slots.specs.Values.{task_at}
use Rattle.slots.specs.Kinds.{kind_at}
use Rattle.numbers.specs.Numbers.{task, object, idle}
use Rattle.rules.specs.Tables.{with_uses, fresh, holds, free_slot, free_object}
use Rattle.rules.specs.Waits.{arrives, wait_for}
use Rattle.promises.specs.Cases.{for_ever, View, ran, ok, ok_new, wait, refuses, view_of}
use Rattle.promises.specs.Recursive.{Has, having}
use Rattle.rules.proofs.SoundSays.{sound_says}
use Rattle.rules.proofs.RowPasses.{passed}
use Rattle.promises.proofs.Lendings.{nothing_to_work_out}
use mathlib.Core.Logic.{inl, inr}
use Rattle.rules.proofs.KeepObject.{kind_same}
use Rattle.promises.specs.Advance.{done_with}
use Rattle.promises.specs.WholeRound.{once_taken, takes254, then_waits, gives254, hands_on, full_again, frees, whole_round, with_mutex, task_in, alone, joined, waited_for, handed_on, not_made, not_taken, given_up}
use Rattle.promises.proofs.Recursive.{takes_again_so, gives_back_so}

-- ── some calls, and then some more: what is seen of each, and which kernel they lead to
abbrev seen_from : State → List ℕ → List Call → List View
seen_from k s cs = map (λ m. view_of (λ d. []) m.gave) (trace (lending step []) k s cs)

record Goes (s : List ℕ) (k : State) (cs : List Call) (vs : List View) (j : State) : Type 0 where
  seen : sound k ≡ true → (rest : List Call) → seen_from k s (cs ++ rest) ≡ vs ++ seen_from j s rest
  fine : sound k ≡ true → sound j ≡ true

-- what a step leaves: this kernel, this answer, this store
abbrev leaving : State → Saying → List ℕ → Stepped
leaving k a s = record { kernel = k; answer = a; store = s }

one_goes : (s : List ℕ) (k : State) (c : Call) (a : Saying) (j : State) → (sound k ≡ true → step k c [] s ≡ leaving j a s) → Goes s k (c ∷ []) (view_of (λ d. []) (leaving j a s) ∷ []) j
unfolding trace
one_goes s k c a j f =
    record {
      seen = λ e rest. ap (λ (d : Stepped). view_of (λ x. []) d ∷ seen_from d.kernel d.store rest) (f e);
      fine = λ e. subst (λ (d : Stepped). sound d.kernel ≡ true) (f e) (step_kept k c [] s e);
    }

both_go : {s : List ℕ} {k j i : State} {cs ds : List Call} {vs ws : List View} → Goes s k cs vs j → Goes s j ds ws i → Goes s k (cs ++ ds) (vs ++ ws) i
both_go {s} {k} {j} {i} {cs} {ds} {vs} {ws} g h =
    record {
      seen = λ e rest.
          ap (seen_from k s) (append_assoc cs ds rest) ∙ g.seen e (ds ++ rest) ∙ ap (λ xs. vs ++ xs) (h.seen (g.fine e) rest) ∙ sym (append_assoc vs ws (seen_from i s rest));
      fine = λ e. h.fine (g.fine e);
    }

-- ── so many takes, so many gives
module _ (k : State) (n : ObjNo) (low : (obj_slot k.uses n).0 < length k.objects) (s : List ℕ) (whole : length s ≡ 9216) where
  having_again : (c d : ℕ) → having (having k n c) n d ≡ having k n d
  having_again c d =
      ap (λ os. record { tasks = k.tasks; objects = os; order = k.order; running = k.running; tick = k.tick; hold = k.hold; pended = k.pended; uses = k.uses })
      (set-set k.objects (obj_slot k.uses n).0 _ _)

  has_it : (c : ℕ) → Has (having k n c) n c
  has_it c = kind_same k.objects (obj_slot k.uses n) (Mutex (Recursive c) (By k.running)) low

  takes_one : (c : ℕ) → sound (having k n c) ≡ true → c < 255 → step (having k n c) (Take n 0) [] s ≡ done_with (having k n (c + 1)) s
  takes_one c e l = (takes_again_so (having k n c) e n c (has_it c) [] s whole 0).again (inr refl) l ∙ ap (λ j. done_with j s) (having_again c (c + 1))

  gives_one : (c : ℕ) → sound (having k n c) ≡ true → 1 < c → step (having k n c) (Give n) [] s ≡ done_with (having k n (c - 1)) s
  gives_one c e l = (gives_back_so (having k n c) e n c (has_it c) [] s whole).less l ∙ ap (λ j. done_with j s) (having_again c (c - 1))

  abbrev callers_ok : View
  callers_ok = ok (task_no k.uses k.running).0

  -- a call that brings one count to the next, m times at most
  module _ (call : Call) (counts : ℕ → ℕ) (m : ℕ)
      (one : (j : ℕ) → j < m → sound (having k n (counts j)) ≡ true → step (having k n (counts j)) call [] s ≡ done_with (having k n (counts (suc j))) s) where
    many : (i j : ℕ) → j + i ≤ m → Goes s (having k n (counts j)) (replicate i call) (replicate i callers_ok) (having k n (counts (j + i)))
    many zero j l =
        let z : j ≡ j + 0 = omega arith in
        record { seen = λ e rest. ap (λ h. seen_from (having k n (counts h)) s rest) z; fine = λ e. subst (λ h. sound (having k n (counts h)) ≡ true) z e }
    many (suc i) j l =
        let z : suc j + i ≡ j + suc i = omega arith in
        both_go (one_goes s (having k n (counts j)) call (says done 0) (having k n (counts (suc j))) (one j (omega arith)))
        (subst (λ h. Goes s (having k n (counts (suc j))) (replicate i call) (replicate i callers_ok) (having k n (counts h))) z (many i (suc j) (omega arith)))

  -- "up to 255 times in all"
  takes_many : Goes s (having k n 1) (replicate 254 (Take n 0)) (replicate 254 callers_ok) (having k n 255)
  takes_many =
      many (Take n 0) (λ j. j + 1) 254
      (λ j l e. takes_one (j + 1) e (omega arith) ∙ ap (λ h. done_with (having k n h) s) (let z : j + 1 + 1 ≡ suc j + 1 = omega arith in z)) 254 0 (omega arith)

  -- and "each give takes one off"
  gives_many : Goes s (having k n 255) (replicate 254 (Give n)) (replicate 254 callers_ok) (having k n 1)
  gives_many =
      many (Give n) (λ j. 255 - j) 254
      (λ j l e. gives_one (255 - j) e (omega arith) ∙ ap (λ h. done_with (having k n h) s) (let z : 255 - j - 1 ≡ 255 - suc j = omega arith in z)) 254 0 (omega arith)

  -- the 256th
  no_more : (w : ℕ) → k.hold ≡ 0 → Goes s (having k n 255) (Take n w ∷ []) (refuses 18 (task_no k.uses k.running).0 ∷ []) (having k n 255)
  no_more w z = one_goes s (having k n 255) (Take n w) (says refused 18) (having k n 255) (λ e. (takes_again_so (having k n 255) e n 255 (has_it 255) [] s whole w).full (inl z) refl)

-- ── what is computed
abbrev mutex : ObjNo
mutex = object_of 0

-- a step of a sound kernel, by the rows behind the first two
step_rows : (k : State) (c : Call) (s : List ℕ) → sound k ≡ true → length s ≡ 9216 → step k c [] s ≡ stepped_by (later_row k (asked k.uses c) 0 9216) k (asked k.uses c) [] s
unfolding step refusal
step_rows k c s e whole = rw (e, whole)

-- where the effective priorities change: the list of them first, so that it is computed once
worked_by : (k : State) (a : Asked) (j : State) (ls : List ℕ) → effect k a ≡ j → ruled j.tasks j.objects ≡ ls → after k a ≡ relevelled ls j
unfolding after worked_out
worked_by k a j ls e f = ap worked_out e ∙ ap (λ l. relevelled l j) f

accepted_by : (k : State) (c : Call) (s : List ℕ) (j : State) → sound k ≡ true → length s ≡ 9216 → later_row k (asked k.uses c) 0 9216 ≡ 0 → after k (asked k.uses c) ≡ j
    → let a = asked k.uses c in step k c [] s ≡ leaving (with_uses (chosen j) (uses_after k.uses a)) (answered k a (chosen j)) (stored k a [] s)
unfolding accepted
accepted_by k c s j e whole r f = step_rows k c s e whole ∙ rw (r, f)

-- a call after which nothing is to be worked out
quiet_by : (k : State) (c : Call) (j : State) → sound k ≡ true → later_row k (asked k.uses c) 0 9216 ≡ 0 → may_lend (asked k.uses c) ≡ false → effect k (asked k.uses c) ≡ j
    → after k (asked k.uses c) ≡ j
quiet_by k c j e r m f = nothing_to_work_out k (sound_says k e) 9216 c (passed k (asked k.uses c) 0 9216 r) m ∙ f

-- the own priorities; the loan of 5; and its end
abbrev owns : List ℕ
owns = 0 ∷ 3 ∷ replicate 14 0

abbrev lent : List ℕ
lent = 0 ∷ 5 ∷ 5 ∷ replicate 13 0

abbrev ended : List ℕ
ended = 0 ∷ 3 ∷ 5 ∷ replicate 13 0

-- before choose, and before the effective priorities are worked out
abbrev now_there : State
now_there = with_mutex Unused (task_in Ready 3 3 0 ∷ []) (idle ∷ task 1 ∷ []) idle

abbrev now_joined : State
now_joined = with_mutex (Mutex (Recursive 255) (By (task 1))) (task_in Ready 3 3 0 ∷ task_in Ready 5 5 0 ∷ []) (idle ∷ task 1 ∷ task 2 ∷ []) (task 1)

abbrev now_waits : State
now_waits = with_mutex (Mutex (Recursive 255) (By (task 1))) (task_in Ready 3 3 0 ∷ task_in (Waiting (wait_on (object 0) OwnTurn) Never) 5 5 0 ∷ []) (idle ∷ task 1 ∷ task 2 ∷ []) (task 2)

abbrev now_has : State
now_has = with_mutex (Mutex (Recursive 1) (By (task 2))) (task_in Ready 3 5 0 ∷ task_in Ready 5 5 1 ∷ []) (idle ∷ task 1 ∷ task 2 ∷ []) (task 1)

-- which row applies, and what each call does
record Computed : Type 0 where
  creates_row : later_row fresh (asked fresh_uses (Create 3)) 0 9216 ≡ 0
  creates : effect fresh (asked fresh_uses (Create 3)) ≡ now_there
  makes_row : later_row not_made (asked fresh_uses MakeRecursive) 0 9216 ≡ 0
  makes : effect not_made (asked fresh_uses MakeRecursive) ≡ not_taken
  takes_row : later_row not_taken (asked fresh_uses (Take mutex 0)) 0 9216 ≡ 0
  takes : effect not_taken (asked fresh_uses (Take mutex 0)) ≡ alone 1
  joins_row : later_row (alone 255) (asked fresh_uses (Create 5)) 0 9216 ≡ 0
  joins : effect (alone 255) (asked fresh_uses (Create 5)) ≡ now_joined
  waits_row : later_row (joined 255) (asked fresh_uses (Take mutex for_ever)) 0 9216 ≡ 0
  waits : effect (joined 255) (asked fresh_uses (Take mutex for_ever)) ≡ now_waits
  hands_on_row : later_row (waited_for 1) (asked fresh_uses (Give mutex)) 0 9216 ≡ 0
  hands_on : effect (waited_for 1) (asked fresh_uses (Give mutex)) ≡ now_has
  frees_row : later_row (handed_on 1) (asked fresh_uses (Give mutex)) 0 9216 ≡ 0
  frees_it : effect (handed_on 1) (asked fresh_uses (Give mutex)) ≡ given_up
  no_holder : later_row given_up (asked fresh_uses (Give mutex)) 0 9216 ≡ 11
  -- the effective priorities
  owned : ruled (alone 1).tasks (alone 1).objects ≡ owns
  lends : ruled now_waits.tasks now_waits.objects ≡ lent
  ends : ruled now_has.tasks now_has.objects ≡ ended
  still : ruled given_up.tasks given_up.objects ≡ ended

computed : Computed
unfolding alone joined waited_for handed_on given_up not_made not_taken every all_below foldl up_to values index any kept asked ordered without count created mutex_made taken given effect line those begun
    highest leader first chosen to_tail to_head leaves moved moved_if prioritized ruled levels goes_on raised relevelled worked_out out_of_range names_none wrong_size not_for_idle not_with_hold none_free
    in_use not_his his_already count_full not_suspended closes_circle leads_to within must_wait no_depth no_tick table later_row stored answered uses_after after accepted fresh fresh_uses task_at kind_at
    holds free_slot free_object arrives wait_for
computed =
    record {
      creates_row = refl;
      creates = refl;
      makes_row = refl;
      makes = refl;
      takes_row = refl;
      takes = refl;
      joins_row = refl;
      joins = refl;
      waits_row = refl;
      waits = refl;
      hands_on_row = refl;
      hands_on = refl;
      frees_row = refl;
      frees_it = refl;
      no_holder = refl;
      owned = refl;
      lends = refl;
      ends = refl;
      still = refl;
    }

-- so these are their steps
record Eight (s : List ℕ) : Type 0 where
  creates : sound fresh ≡ true → step fresh (Create 3) [] s ≡ leaving not_made (says made 1) s
  makes : sound not_made ≡ true → step not_made MakeRecursive [] s ≡ leaving not_taken (says made 0) s
  takes : sound not_taken ≡ true → step not_taken (Take mutex 0) [] s ≡ leaving (alone 1) (says done 0) s
  joins : sound (alone 255) ≡ true → step (alone 255) (Create 5) [] s ≡ leaving (joined 255) (says made 2) s
  waits : sound (joined 255) ≡ true → step (joined 255) (Take mutex for_ever) [] s ≡ leaving (waited_for 255) (says waiting 0) s
  hands_on : sound (waited_for 1) ≡ true → step (waited_for 1) (Give mutex) [] s ≡ leaving (handed_on 1) (says done 0) s
  frees_it : sound (handed_on 1) ≡ true → step (handed_on 1) (Give mutex) [] s ≡ leaving given_up (says done 0) s
  no_holder : sound given_up ≡ true → step given_up (Give mutex) [] s ≡ leaving given_up (says refused 11) s

eight : (s : List ℕ) → length s ≡ 9216 → Eight s
unfolding may_lend alone joined waited_for handed_on given_up not_made not_taken every all_below foldl up_to values index any kept asked ordered without count created mutex_made taken given effect line those begun
    highest leader first chosen to_tail to_head leaves moved moved_if prioritized ruled levels goes_on raised relevelled worked_out out_of_range names_none wrong_size not_for_idle not_with_hold none_free
    in_use not_his his_already count_full not_suspended closes_circle leads_to within must_wait no_depth no_tick table later_row stored answered uses_after after accepted fresh fresh_uses task_at kind_at
    holds free_slot free_object arrives wait_for
eight s whole =
    let c = computed in
    record {
      creates = λ e. accepted_by fresh (Create 3) s _ e whole c.creates_row (quiet_by fresh (Create 3) now_there e c.creates_row refl c.creates) ∙ refl;
      makes = λ e. accepted_by not_made MakeRecursive s _ e whole c.makes_row (quiet_by not_made MakeRecursive not_taken e c.makes_row refl c.makes) ∙ refl;
      takes = λ e. accepted_by not_taken (Take mutex 0) s _ e whole c.takes_row (worked_by not_taken (asked fresh_uses (Take mutex 0)) (alone 1) owns c.takes c.owned) ∙ refl;
      joins = λ e. accepted_by (alone 255) (Create 5) s _ e whole c.joins_row (quiet_by (alone 255) (Create 5) now_joined e c.joins_row refl c.joins) ∙ refl;
      waits = λ e. accepted_by (joined 255) (Take mutex for_ever) s _ e whole c.waits_row (worked_by (joined 255) (asked fresh_uses (Take mutex for_ever)) now_waits lent c.waits c.lends) ∙ refl;
      hands_on = λ e. accepted_by (waited_for 1) (Give mutex) s _ e whole c.hands_on_row (worked_by (waited_for 1) (asked fresh_uses (Give mutex)) now_has ended c.hands_on c.ends) ∙ refl;
      frees_it = λ e. accepted_by (handed_on 1) (Give mutex) s _ e whole c.frees_row (worked_by (handed_on 1) (asked fresh_uses (Give mutex)) given_up ended c.frees_it c.still) ∙ refl;
      no_holder = λ e. step_rows given_up (Give mutex) s e whole ∙ ap (λ n. stepped_by n given_up (asked fresh_uses (Give mutex)) [] s) c.no_holder;
    }

-- ── piece by piece
-- the kernels on the way differ by the count alone
record OneCount : Type 0 where
  alone_so : (c : ℕ) → having (alone 1) mutex c ≡ alone c
  waited_so : (c : ℕ) → having (waited_for 1) mutex c ≡ waited_for c
  handed_so : (c : ℕ) → having (handed_on 1) mutex c ≡ handed_on c
  low : (0 < length (alone 1).objects) × (0 < length (waited_for 1).objects) × (0 < length (handed_on 1).objects)

one_count : OneCount
unfolding alone waited_for handed_on fresh_uses
one_count = record { alone_so = λ c. refl; waited_so = λ c. refl; handed_so = λ c. refl; low = (omega arith, omega arith, omega arith) }

module _ (s : List ℕ) (whole : length s ≡ 9216) where
  once_goes : Goes s fresh once_taken (ok_new 1 1 ∷ ok_new 0 1 ∷ ok 1 ∷ []) (alone 1)
  unfolding alone not_made not_taken fresh_uses
  once_goes =
      both_go (one_goes s fresh (Create 3) (says made 1) not_made (eight s whole).creates)
      (both_go (one_goes s not_made MakeRecursive (says made 0) not_taken (eight s whole).makes)
      (one_goes s not_taken (Take mutex 0) (says done 0) (alone 1) (eight s whole).takes))

  waits_go : Goes s (alone 255) then_waits (refuses 18 1 ∷ refuses 18 1 ∷ ok_new 2 2 ∷ wait 1 ∷ []) (waited_for 255)
  unfolding alone joined waited_for fresh_uses
  waits_go =
      both_go (no_more (alone 1) mutex one_count.low.0 s whole 0 refl)
      (both_go (no_more (alone 1) mutex one_count.low.0 s whole 9 refl)
      (both_go (one_goes s (alone 255) (Create 5) (says made 2) (joined 255) (eight s whole).joins)
      (one_goes s (joined 255) (Take mutex for_ever) (says waiting 0) (waited_for 255) (eight s whole).waits)))

  hands_go : Goes s (waited_for 1) hands_on (ok 2 ∷ []) (handed_on 1)
  unfolding waited_for handed_on fresh_uses
  hands_go = one_goes s (waited_for 1) (Give mutex) (says done 0) (handed_on 1) (eight s whole).hands_on

  -- 255 times in all, and back to once
  alone_full : Goes s (alone 1) takes254 (replicate 254 (ok 1)) (alone 255)
  unfolding alone fresh_uses
  alone_full = takes_many (alone 1) mutex one_count.low.0 s whole

  waited_back : Goes s (waited_for 255) gives254 (replicate 254 (ok 1)) (waited_for 1)
  unfolding waited_for fresh_uses
  waited_back = gives_many (waited_for 1) mutex one_count.low.1 s whole

  handed_full : Goes s (handed_on 1) takes254 (replicate 254 (ok 2)) (handed_on 255)
  unfolding handed_on fresh_uses
  handed_full = takes_many (handed_on 1) mutex one_count.low.2 s whole

  handed_no_more : Goes s (handed_on 255) full_again (refuses 18 2 ∷ []) (handed_on 255)
  unfolding handed_on fresh_uses
  handed_no_more = no_more (handed_on 1) mutex one_count.low.2 s whole 0 refl

  handed_back : Goes s (handed_on 255) gives254 (replicate 254 (ok 2)) (handed_on 1)
  unfolding handed_on fresh_uses
  handed_back = gives_many (handed_on 1) mutex one_count.low.2 s whole

  frees_go : Goes s (handed_on 1) frees (ok 2 ∷ refuses 11 2 ∷ []) given_up
  unfolding handed_on given_up fresh_uses
  frees_go =
      both_go (one_goes s (handed_on 1) (Give mutex) (says done 0) given_up (eight s whole).frees_it)
      (one_goes s given_up (Give mutex) (says refused 11) given_up (eight s whole).no_holder)

  round_goes : Goes s fresh whole_round.calls whole_round.expected given_up
  unfolding whole_round
  round_goes = both_go once_goes (both_go alone_full (both_go waits_go (both_go waited_back (both_go hands_go (both_go handed_full (both_go handed_no_more (both_go handed_back frees_go)))))))

zeros_whole : length {A = ℕ} (replicate 9216 0) ≡ 9216
zeros_whole = refl

pub whole_round_lem : ran whole_round ≡ whole_round.expected
unfolding whole_round trace
whole_round_lem =
    let g = round_goes (replicate 9216 0) zeros_whole in
    ap (seen_from fresh (replicate 9216 0)) (sym (append-nil whole_round.calls)) ∙ g.seen fresh-sound [] ∙ append-nil whole_round.expected
