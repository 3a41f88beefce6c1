-- The effective priorities are worked out, and choose comes last: they make a nearly sound kernel sound.
use Prim.Native.Nat.{ℕ, ◌<◌}
use mathlib.Core.Path.{◌≡◌, refl, sym, ◌∙◌, subst}
use mathlib.Core.Bool.{Bool, true, false, ◌&&◌, false≢true}
use mathlib.Core.List.{List, [], ◌∷◌}
use native.Mathlib.Omega.{arith}
use lib.Dec.{eqb, ltb}
use borrow.Author.Tests.{eqb-true, eqb-false, ne_eqb, ltb-true, ltb-false}
use Rattle.std.proofs.Common.{if◌then◌else◌}
use Rattle.lists.specs.Lists.{kept, head, is_none}
use Rattle.lists.proofs.Bools.{and_right}
use Rattle.lists.proofs.Tests.{kept-head}
use Rattle.numbers.specs.Numbers.{idle}
use Rattle.order.specs.Order.{listed}
use Rattle.order.specs.Tidy.{count}
use Rattle.order.proofs.CountPassing.{count_kept}
use Rattle.slots.specs.Places.{is_ready}
use Rattle.slots.specs.Values.{in_line, task_at}
use Rattle.rules.specs.Types.{TaskSlot, Uses, Task, Object, all_ready, State}
use Rattle.rules.specs.Tables.{with_running, with_uses}
use Rattle.rules.specs.Lines.{line, those, level, highest, first, runs_if, chosen}
use Rattle.rules.specs.Loans.{worked_out, Reckoned}
use Rattle.rules.specs.Sentences.{Running, Used, SoundBy, Sound}
use Rattle.rules.proofs.SoundLists.{once_of}
use Rattle.rules.proofs.LineLeads.{leader_none, first_heads_highest}
use Rattle.rules.proofs.TableWithin.{first_meant, first_single}
use Rattle.rules.proofs.TableSlots.{is_ready_lem}
use Rattle.rules.proofs.SoundClock.{wake_says, says_wake}
use Rattle.rules.proofs.LoanRule.{levels_reckoned, reckoned_levels}
use Rattle.rules.proofs.LoanWorks.{worked_same, worked_reckoned, worked_nearly, worked_runs}
use Rattle.rules.proofs.KeepNearly.{Open, settled, Nearly, RunsIn}

-- ── from nearly sound to sound, and back
pub nearly_sound : (k : State) → Nearly (settled k.tick) k → Reckoned k.tasks k.objects → Running k.tasks (listed k.order) k.running k.hold
    → {us : Uses} → Used us → (P : List Task → List Object → Type 0) → P k.tasks k.objects → SoundBy P (with_uses k us)
nearly_sound k N L R U P C =
    record {
      tables = N.tables;
      levels = reckoned_levels k.tasks k.objects N.tables.task_slots L N.range;
      listing = N.listing;
      clock = record { wakes = λ t. wake_says k.tick (task_at k.tasks t).place (N.due t); counts = N.counts };
      running = R;
      uses = U;
      circles = C;
    }

-- with other uses
pub sound_with : (k : State) → Sound k → {us : Uses} → Used us → Sound (with_uses k us)
sound_with k S U = record { tables = S.tables; levels = S.levels; listing = S.listing; clock = S.clock; running = S.running; uses = U; circles = S.circles }

pub sound_nearly : (k : State) → Sound k → Nearly (settled k.tick) k
sound_nearly k S =
    record {
      tables = S.tables;
      range = S.levels.range;
      listing = S.listing;
      due = λ t. says_wake k.tick (task_at k.tasks t).place (S.clock.wakes t);
      counts = S.clock.counts;
    }

-- ── choose
-- no line stands above the highest priority of the ready
pub above_highest : (ts : List Task) (p : ℕ) (l : List TaskSlot) → highest ts (those ts all_ready l) < p → line ts p l ≡ []
unfolding those line kept highest
above_highest ts p [] h = refl
above_highest ts p (t ∷ l) h = go (is_ready (task_at ts t).place) (ltb (level ts t) (highest ts rest)) refl h (above_highest ts p l)
  where
    rest : List TaskSlot
    rest = kept (λ u. is_ready (task_at ts u).place) l

    drops : (c : Bool) → (b : Bool) → b ≡ false → kept (λ u. in_line p (task_at ts u)) l ≡ [] → (if c && b then t ∷ kept (λ u. in_line p (task_at ts u)) l else kept (λ u. in_line p (task_at ts u)) l) ≡ []
    drops true b e i = rw e i
    drops false b e i = i

    go : (b : Bool) (c : Bool) → ltb (level ts t) (highest ts rest) ≡ c → highest ts (if b then t ∷ rest else rest) < p → (highest ts rest < p → kept (λ u. in_line p (task_at ts u)) l ≡ [])
        → (if b && eqb (level ts t) p then t ∷ kept (λ u. in_line p (task_at ts u)) l else kept (λ u. in_line p (task_at ts u)) l) ≡ []
    go true true e m ih =
        let n : highest ts rest < p = rw e at m in
        drops true (eqb (level ts t) p) (ne_eqb (level ts t) p (λ z. omega (arith, ltb-true (level ts t) (highest ts rest) e))) (ih n)
    go true false e m ih =
        let n : level ts t < p = rw e at m in
        drops true (eqb (level ts t) p) (ne_eqb (level ts t) p (λ z. omega arith)) (ih (omega (arith, ltb-false (level ts t) (highest ts rest) e)))
    go false c e m ih = ih m

none_counts : count 0 [] ≡ 1 → ⊥
unfolding count
none_counts q = omega arith

-- idle is ready, so someone is
pub some_ready : {w : Open} (k : State) → Nearly w k → is_none (first k all_ready) ≡ false
unfolding first those
some_ready k N = leader_none k.tasks (those k.tasks all_ready (listed k.order)) ∙ go (those k.tasks all_ready (listed k.order)) once
  where
    once : count 0 (those k.tasks all_ready (listed k.order)) ≡ 1
    once = count_kept (λ u. is_ready (task_at k.tasks u).place) 0 (listed k.order)
        ∙ rw N.tables.as_idle.ready (once_of k.tasks k.order N.listing idle ∙ rw N.tables.as_idle.ready)

    go : (l : List TaskSlot) → count 0 l ≡ 1 → is_none l ≡ false
    go [] e = absurd (none_counts e)
    go (t ∷ l) e = refl

pub sound_reckoned : (k : State) → Sound k → Reckoned k.tasks k.objects
sound_reckoned k S = levels_reckoned k.tasks k.objects S.tables.task_slots S.levels

module _ (k : State) (N : Nearly (settled k.tick) k) (L : Reckoned k.tasks k.objects) {us : Uses} (U : Used us)
    (P : List Task → List Object → Type 0) (C : P k.tasks k.objects) where
  abbrev high : ℕ
  high = highest k.tasks (those k.tasks all_ready (listed k.order))

  runs_first : (t : TaskSlot) → first k all_ready ≡ t ∷ [] → SoundBy P (with_uses (with_running k t) us)
  unfolding line
  runs_first t e =
      nearly_sound (with_running k t) (record { tables = N.tables; range = N.range; listing = N.listing; due = N.due; counts = N.counts }) L
      (record {
        runs = record { ready = is_ready_lem _ (first_meant k all_ready t e); heads = rw top heads };
        no_higher = λ h p m. above_highest k.tasks p (listed k.order) (rw top at m);
      })
      U P C
    where
      heads : head (line k.tasks high (listed k.order)) ≡ t ∷ []
      heads = sym (first_heads_highest k) ∙ e

      top : level k.tasks t ≡ high
      top = eqb-true (level k.tasks t) high (and_right (is_ready (task_at k.tasks t).place) _ (kept-head (λ u. in_line high (task_at k.tasks u)) (listed k.order) t heads))

  pub chosen_sound : (0 < k.hold → RunsIn k) → SoundBy P (with_uses (chosen k) us)
  unfolding chosen
  chosen_sound R = go (eqb k.hold 0) refl
    where
      choose : (f : List TaskSlot) → first k all_ready ≡ f → is_none f ≡ false → SoundBy P (with_uses (runs_if k f) us)
      choose [] e n = absurd (false≢true (sym n))
      choose (t ∷ r) e n = runs_first t (first_single k all_ready t r e)

      go : (b : Bool) → eqb k.hold 0 ≡ b → SoundBy P (with_uses (if b then runs_if k (first k all_ready) else k) us)
      go true e = choose (first k all_ready) refl (some_ready k N)
      go false e =
          let busy : 0 < k.hold = omega (arith, eqb-false k.hold 0 e) in
          nearly_sound k N L (record { runs = R busy; no_higher = λ h. absurd (omega arith) }) U P C

-- both after a call's effect
pub worked_sound : (k : State) → Nearly (settled k.tick) k → (P : List Task → List Object → Type 0) → P (worked_out k).tasks (worked_out k).objects → {us : Uses} → Used us
    → (0 < k.hold → RunsIn k) → SoundBy P (with_uses (chosen (worked_out k)) us)
worked_sound k N P C U R =
    let S = worked_same k in
    chosen_sound (worked_out k) (subst (λ (n : ℕ). Nearly (settled n) (worked_out k)) (sym S.tick) (worked_nearly k N)) (worked_reckoned k N.tables.task_slots) U P C
    (λ h. worked_runs k N (R (rw S.hold at h)))
