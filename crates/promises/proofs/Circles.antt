-- A take is refused 17 exactly if accepting it would have made a circle; and in a sound kernel every chain of waits ends.
use Prim.Native.Nat.{ℕ, ◌<◌, ◌≤◌}
use mathlib.Core.Path.{◌≡◌, refl, sym, ap, ◌∙◌, subst}
use mathlib.Core.Bool.{Bool, true, false, not, ◌&&◌, false≢true}
use mathlib.Core.List.{List, [], ◌∷◌}
use native.Mathlib.Omega.{arith}
use lib.Dec.{eqb}
use lib.ListN.{length}
use borrow.Author.Tests.{eqb-true, eqb-false, eq-eqb, ne_eqb}
use Rattle.lists.proofs.Bools.{and_left, and_right, and_intro, off, not_off, untrue}
use Rattle.std.proofs.Common.{if◌then◌else◌}
use Rattle.calls.specs.declared.ObjNo.{ObjNo}
use Rattle.calls.specs.Door.{obj_slot}
use Rattle.calls.specs.Behind.{on_object, asked}
use Rattle.calls.specs.Said.{says, refused}
use Rattle.slots.specs.Wants.{wait_on}
use Rattle.slots.specs.Values.{placed, task_at}
use Rattle.slots.specs.Kinds.{kind_at, is_mutex, is_by, hands, by_whom, holder_of, held_by, recursive_by}
use Rattle.rules.specs.Types.{Want, OwnTurn, Wait, Wake, Waiting, Task, Holder, Nobody, By, Kind, Object, Take, AMutex}
use Rattle.rules.specs.Tables.{with_uses}
use Rattle.rows.specs.Applies.{not_for_idle, his_already, Row, first_row, table}
use Rattle.rules.specs.Lines.{chosen, to_tail}
use Rattle.rules.specs.Waits.{wake_of, arrives, wait_for}
use Rattle.rules.specs.Loans.{waits_for, worked_out}
use Rattle.rules.specs.Circles.{leads_to, closes_circle}
use Rattle.rules.specs.Effects.{taken, effect}
use Rattle.rules.specs.Sentences.{Holds, Exists, MayWait, receiver, sender, taker, awaiter, Reaches, itself, along, Circle, back, SoundBy, Sound}
use Rattle.rules.specs.Sound.{sound}
use Rattle.rules.specs.Refusals.{later_row}
use Rattle.rules.specs.Steps.{accepted, after, uses_after, step}
use Rattle.rules.proofs.TableHolds.{held_mutex, not_again, no_circle_leads, again_if_his}
use Rattle.rules.proofs.MutexCases.{takes_waiting}
use Rattle.rules.proofs.CircleRule.{leads_reaches, reaches_leads, nobody_leads, links_closed, chain_last}
use Rattle.rules.proofs.RowPasses.{CircleGiven, circle_given}
use Rattle.rules.proofs.SoundSays.{sound_says}
use Rattle.rules.proofs.LoanRule.{fewer_reach}
use Rattle.rules.proofs.LoanWorks.{worked_same, worked_place}
use Rattle.rules.proofs.TickJumps.{chosen_only}
use Rattle.rules.proofs.KeepMutexes.{waits_nearly}
use Rattle.rules.proofs.KeepChosen.{worked_sound}
use Rattle.rules.proofs.KeepCircles.{take_uncircled}
use Rattle.promises.proofs.TurnedAway.{first_is, turned_away_exactly}
use Rattle.rules.proofs.Keeps.{there_low, ready_low}
use Rattle.promises.specs.Types.{TaskSlot, ObjSlot, Asked, State}
use Rattle.promises.specs.TurnedAway.{whole_table, First, this_row, below, None, end, not_this_row, Exactly}
use Rattle.promises.specs.Circles.{rows_before, CirclesExactly, ChainEnds}

-- ── every chain of waits ends
module _ (k : State) (S : Sound k) where
  reached_there : {t u : TaskSlot} → Exists k.tasks t → Reaches k.tasks k.objects t u → Exists k.tasks u
  reached_there x itself = x
  reached_there x (along {h = h} y w p q r) = reached_there (S.tables.holders h y.object q) r

  pub chain_ends : (t : TaskSlot) → Exists k.tasks t → ChainEnds k t
  chain_ends t x =
      let l = there_low k.tasks t S.tables.task_slots x in
      let e = chain_last k.tasks k.objects S.tables.task_slots S.circles t l in
      record { last = e.0; reaches = e.1; there = reached_there x e.1; no_mutex = λ y w p m. none e.0 e.2 y w p m }
    where
      held : {u : TaskSlot} {z : Want} {x : Kind} → MayWait u z x → is_mutex x ≡ true → (v : TaskSlot) × (hands x ≡ By v)
      held (receiver f) m = absurd (false≢true m)
      held (sender f) m = absurd (false≢true m)
      held (taker {u = v} d) m = (v, refl)
      held (awaiter a b c) m = absurd (false≢true m)

      none : (u : TaskSlot) → 16 ≤ (waits_for k.tasks k.objects u).0 → (y : Wait) (w : Wake) → (task_at k.tasks u).place ≡ Waiting y w → is_mutex (kind_at k.objects y.object) ≡ true → ⊥
      none u far y w p m =
          let v = held ((S.tables.tasks u).waits y w p) m in
          let low = there_low k.tasks v.0 S.tables.task_slots (S.tables.holders v.0 y.object v.1) in
          let e : waits_for k.tasks k.objects u ≡ v.0 = rw (p, v.1) in
          omega (arith, ap (λ (t : TaskSlot). t.0) e)

-- ── a take that closes a circle
-- where every wait and every holder is the same, so are the circles
circle_same : (ts us : List Task) (os ps : List Object) → ((t : TaskSlot) → (task_at us t).place ≡ (task_at ts t).place) → ps ≡ os → {s : TaskSlot} → Circle ts os s → Circle us ps s
circle_same ts us os ps same e {s} (back o w p q r) = rw e (back o w (same s ∙ p) q (fewer_reach us ts os (λ t x v z. same t ∙ z) r))

-- the working-out leaves them, and so does choose
module _ (j : State) where
  circle_worked : {s : TaskSlot} → Circle j.tasks j.objects s → Circle (worked_out j).tasks (worked_out j).objects s
  circle_worked = circle_same j.tasks (worked_out j).tasks j.objects (worked_out j).objects (worked_place j) (worked_same j).objects

  abbrev last : State
  last = chosen (worked_out j)

  last_place : (t : TaskSlot) → (task_at last.tasks t).place ≡ (task_at j.tasks t).place
  last_place t = ap (λ ts. (task_at ts t).place) (chosen_only (worked_out j)).tasks ∙ worked_place j t

  last_objects : last.objects ≡ j.objects
  last_objects = (chosen_only (worked_out j)).objects ∙ (worked_same j).objects

  circle_last : {s : TaskSlot} → Circle j.tasks j.objects s → Circle last.tasks last.objects s
  circle_last = circle_same j.tasks last.tasks j.objects last.objects last_place last_objects

  last_circle : {s : TaskSlot} → Circle last.tasks last.objects s → Circle j.tasks j.objects s
  last_circle = circle_same last.tasks j.tasks last.objects j.objects (λ t. sym (last_place t)) (sym last_objects)

module _ (k : State) (S : Sound k) (o : ObjSlot) where
  abbrev leads : Bool
  leads = leads_to k.tasks k.objects (holder_of (kind_at k.objects o)) k.running

  full : length k.tasks ≡ 16
  full = S.tables.task_slots

  low : k.running.0 < 16
  low = ready_low k.tasks k.running full S.running.runs.ready

  -- the chain in words, and as it is tested
  leads_chain : leads ≡ true → (h : TaskSlot) × Holds k.objects h o × Reaches k.tasks k.objects h k.running
  leads_chain = go (hands (kind_at k.objects o)) refl
    where
      go : (x : Holder) → hands (kind_at k.objects o) ≡ x → leads_to k.tasks k.objects (by_whom x) k.running ≡ true
          → (h : TaskSlot) × Holds k.objects h o × Reaches k.tasks k.objects h k.running
      go Nobody e l = absurd (false≢true (sym (nobody_leads k.tasks k.objects k.running) ∙ l))
      go (By h) e l = (h, e, leads_reaches k.tasks k.objects full h k.running low l)

  chain_leads : (h : TaskSlot) → Holds k.objects h o → Reaches k.tasks k.objects h k.running → leads ≡ true
  chain_leads h e r = rw e (reaches_leads k.tasks k.objects full h k.running low r)

  -- whether the take closes a circle
  abbrev closes : Bool
  closes = not (recursive_by k.running (kind_at k.objects o)) && leads

  chain_closes : (h : TaskSlot) → Holds k.objects h o → (h.0 ≡ k.running.0 → ⊥) → Reaches k.tasks k.objects h k.running → closes ≡ true
  chain_closes h e d r =
      and_intro _ _ (not_off _ (not_again k.running (kind_at k.objects o) (ap (is_by k.running) e ∙ ne_eqb h.0 k.running.0 d))) (chain_leads h e r)

  -- where it closes none nobody would have been on one
  closed_closes : (w : ℕ) (t : TaskSlot) → Circle (last (taken k o w)).tasks (last (taken k o w)).objects t → closes ≡ true
  closed_closes w t C = go closes refl
    where
      go : (b : Bool) → closes ≡ b → b ≡ true
      go true e = refl
      go false e = absurd ((take_uncircled k S o w (λ f. no_circle_leads k.running (kind_at k.objects o) leads f e)).none t (last_circle (taken k o w) C))

  -- ── row 17 is given: who is not idle, and does not hold the mutex, would wait on it and be on a circle, and but for that all would be as it should
  module _ {l : Bool} {v : ℕ} (G : CircleGiven k (on_object 15 AMutex o l v)) where
    not_again_his : recursive_by k.running (kind_at k.objects o) ≡ false
    unfolding closes_circle
    not_again_his = off _ (and_left _ _ G.circle)

    leads_back : leads ≡ true
    unfolding closes_circle
    leads_back = and_right (not (recursive_by k.running (kind_at k.objects o))) _ G.circle

    busy : k.running.0 ≡ 0 → ⊥
    unfolding not_for_idle
    busy = eqb-false k.running.0 0 G.idle

    not_his : held_by k.running (kind_at k.objects o) ≡ false
    unfolding his_already
    not_his = untrue _ (λ h. false≢true (sym not_again_his ∙ again_if_his k.running (kind_at k.objects o) G.not_twice h))

    another : (h : TaskSlot) → Holds k.objects h o → h.0 ≡ k.running.0 → ⊥
    another h e z = false≢true (sym not_his ∙ ap (is_by k.running) e ∙ eq-eqb h.0 k.running.0 z)

    -- so the caller waits
    waits_then : (w : ℕ) → taken k o w ≡ wait_for k o OwnTurn w
    unfolding taken
    waits_then w =
        let c = leads_chain leads_back in
        let m = held_mutex (kind_at k.objects o) c.0 c.1 in
        rw m.1 (takes_waiting k o m.0 w (By c.0) (ne_eqb c.0.0 k.running.0 (another c.0 c.1)) refl)

    closed_then : (w : ℕ) → Circle (wait_for k o OwnTurn w).tasks (wait_for k o OwnTurn w).objects k.running
    unfolding wait_for arrives to_tail
    closed_then w =
        let c = leads_chain leads_back in
        links_closed k.tasks k.objects full k.running low (placed (task_at k.tasks k.running) (Waiting (wait_on o OwnTurn) (wake_of k.tick w)) 0)
        (subst (λ h. Reaches k.tasks k.objects (by_whom h) k.running) (sym c.1) c.2)

    leads_closed : (w : ℕ) → Circle (last (taken k o w)).tasks (last (taken k o w)).objects k.running
    leads_closed w = rw (waits_then w) (circle_last (wait_for k o OwnTurn w) (closed_then w))

    module _ (free : k.hold ≡ 0) (w : ℕ) (some : 0 < w) where
      abbrev OnCircle : List Task → List Object → Type 0
      OnCircle ts os = Circle ts os k.running

      waits_so : SoundBy OnCircle (with_uses (last (wait_for k o OwnTurn w)) k.uses)
      unfolding wait_for arrives to_tail
      waits_so =
          let c = leads_chain leads_back in
          let m = held_mutex (kind_at k.objects o) c.0 c.1 in
          worked_sound (wait_for k o OwnTurn w) (waits_nearly k S 0 o w some busy m.0 c.0 m.1 (another c.0 c.1))
          OnCircle (circle_worked (wait_for k o OwnTurn w) (closed_then w)) S.uses (λ q. absurd (omega arith))

      waits_on_circle : SoundBy OnCircle (with_uses (last (taken k o w)) k.uses)
      waits_on_circle = rw (waits_then w) waits_so

-- ── the rows before one that is given do not apply; and one that applies is given where none before it does
first_before : {n : ℕ} {rs : List Row} → First n rs → None (rows_before n rs)
unfolding rows_before
first_before {n} (this_row {r = r} e a) = rw (eq-eqb r.number n e) end
first_before {n} (below {r = r} {rs = rs} a f) = go (eqb r.number n) (first_before f)
  where
    go : (b : Bool) → None (rows_before n rs) → None (if b then [] else r ∷ rows_before n rs)
    go true g = end
    go false g = not_this_row a g

-- whether the row n of the table applies
applies_in : ℕ → List Row → Bool
applies_in n [] = false
applies_in n (r ∷ rs) = if eqb r.number n then r.applies else applies_in n rs

before_first_lem : (n : ℕ) (rs : List Row) → None (rows_before n rs) → applies_in n rs ≡ true → First n rs
unfolding rows_before applies_in
before_first_lem n [] f a = absurd (false≢true a)
before_first_lem n (r ∷ rs) f a = go (eqb r.number n) refl f a (before_first_lem n rs)
  where
    off : {x : Row} {xs : List Row} → None (x ∷ xs) → (x.applies ≡ false) × None xs
    off (not_this_row e g) = (e, g)

    go : (b : Bool) → eqb r.number n ≡ b → None (if b then [] else r ∷ rows_before n rs) → (if b then r.applies else applies_in n rs) ≡ true
        → (None (rows_before n rs) → applies_in n rs ≡ true → First n rs) → First n (r ∷ rs)
    go true e g z ih = this_row (eqb-true r.number n e) z
    go false e g z ih = below (off g).0 (ih (off g).1 z)

-- ── exactly where: of each take of a sound kernel
module _ (k : State) (e : sound k ≡ true) (n : ObjNo) (w : ℕ) (item s : List ℕ) where
  abbrev take : Asked
  take = asked k.uses (Take n w)

  abbrev o : ObjSlot
  o = obj_slot k.uses n

  abbrev rows : List Row
  rows = whole_table k take (length item) (length s)

  S : Sound k
  S = sound_says k e

  exact : Exactly k (Take n w) item s (step k (Take n w) item s)
  exact = turned_away_exactly k (Take n w) item s

  row_is : first_row rows ≡ later_row k take (length item) (length s)
  unfolding later_row
  row_is = rw e

  given_so : (step k (Take n w) item s).answer ≡ says refused 17 → CircleGiven k take
  given_so q = circle_given k take (length item) (length s) (sym row_is ∙ first_is (exact.only 17 q))

  row_applies : closes k S o ≡ true → applies_in 17 rows ≡ true
  unfolding applies_in table asked closes_circle
  row_applies l = l

  then_given : None (rows_before 17 rows) → closes k S o ≡ true → (step k (Take n w) item s).answer ≡ says refused 17
  then_given f l = (exact.given 17 (before_first_lem 17 rows f (row_applies l))).number

  pub circles_exactly : CirclesExactly k n rows (step k (Take n w) item s).answer
  unfolding asked accepted after effect uses_after
  circles_exactly =
      record {
        none_before = λ q. first_before (exact.only 17 q);
        chain = λ q. let c = leads_chain k S o (leads_back k S o (given_so q)) in record { holder = c.0; holds = c.1; another = another k S o (given_so q) c.0 c.1; back = c.2 };
        would_close = λ q. record { closed = leads_closed k S o (given_so q); but_for_it = waits_on_circle k S o (given_so q) };
        given = λ f b. then_given f (chain_closes k S o b.holder b.holds b.another b.back);
        given_if_closed = λ f v t C. then_given f (closed_closes k S o v t C);
      }
