-- The wakes of a set, one after the other: what is still to be done, and what is done, make together what the set does.
use Rattle.std.proofs.Common.{◌≡◌, ℕ, zero, suc, ◌+◌, ◌<◌, ◌≤◌, true, List, [], ◌∷◌, length, sym, refl, ap, ◌∙◌, arith, length-set}
use mathlib.Core.Bool.{false≢true}
use lib.Bits.{bit_or}
use Rattle.lists.specs.Lists.{foldl}
use Rattle.numbers.specs.declared.TaskSlot.{TaskSlot}
use Rattle.numbers.specs.declared.ObjSlot.{ObjSlot}
use Rattle.slots.specs.declared.Task.{Task}
use Rattle.slots.specs.declared.Place.TheVariants.{Ready}
use Rattle.slots.specs.Who.{those_satisfied_on}
use Rattle.slots.specs.Wants.{clears, want_in, satisfied_on}
use Rattle.slots.specs.Values.{task_at}
use Rattle.tasks.specs.Columns.{rows_of}
use Rattle.tasks.proofs.Columns.{rows_of_lem}
use Rattle.rules.specs.State.{State}
use Rattle.rules.specs.Lines.{first, to_tail}
use Rattle.rules.specs.Waits.{arrives}
use Rattle.rules.specs.Events.{slip_bits, and_on, woken_in, woken_by, all_woken, clears_of, store_set}
use Rattle.rules.proofs.EventCases.{none_woken, one_woken}
use Rattle.rules.proofs.TableWithin.{first_meant, first_within}
use Rattle.rules.proofs.KeepTaken.{each_task}
use Rattle.kernel.specs.Types.{Core}
use Rattle.kernel.specs.Stands.{core_of, shown_core}
use Rattle.kernel.specs.Does.{Firm}

-- what the tasks of l ask to have cleared, beside m; and the store with their slips
abbrev asking : List Task → ℕ → List TaskSlot → ℕ
asking ts m l = foldl (λ n t. bit_or n (clears (want_in (task_at ts t).place))) m l

abbrev telling : ℕ → List ℕ → List TaskSlot → List ℕ
telling b s l = foldl (λ r t. slip_bits b t r) s l

one_asked : (ts : List Task) (m : ℕ) (t : TaskSlot) (l : List TaskSlot) → asking ts m (t ∷ l) ≡ asking ts (bit_or m (clears (want_in (task_at ts t).place))) l
unfolding foldl
one_asked ts m t l = refl

one_told : (b : ℕ) (s : List ℕ) (t : TaskSlot) (l : List TaskSlot) → telling b s (t ∷ l) ≡ telling b (slip_bits b t s) l
unfolding foldl
one_told b s t l = refl

-- who is next, and whether anybody is
module _ (o : ObjSlot) (b : ℕ) where
  nobody_first : (n : ℕ) (j : State) → first j (those_satisfied_on o b) ≡ [] → woken_in n j o b ≡ []
  unfolding woken_in
  nobody_first zero j e = refl
  nobody_first (suc n) j e = ap (λ (l : List TaskSlot). and_on l (λ t. woken_in n (arrives j t Ready 1) o b)) e

  one_first : (n : ℕ) (j : State) (t : TaskSlot) → first j (those_satisfied_on o b) ≡ t ∷ [] → woken_in (suc n) j o b ≡ t ∷ woken_in n (arrives j t Ready 1) o b
  unfolding woken_in
  one_first n j t e = ap (λ (l : List TaskSlot). and_on l (λ u. woken_in n (arrives j u Ready 1) o b)) e

many_still : (j : State) (t : TaskSlot) → length (arrives j t Ready 1).tasks ≡ length j.tasks
unfolding arrives to_tail
many_still j t = length-set j.tasks t.0 _

-- whom the bits satisfy still asks what it asked in the state s
abbrev Still : ObjSlot → ℕ → State → TaskSlot → Task → Type 0
Still o b s t x = satisfied_on o b x.place ≡ true → clears (want_in x.place) ≡ clears (want_in (task_at s.tasks t).place)

still_so : (o : ObjSlot) (b : ℕ) (s j : State) (u : TaskSlot) → ((t : TaskSlot) → Still o b s t (task_at j.tasks t)) → (t : TaskSlot) → Still o b s t (task_at (arrives j u Ready 1).tasks t)
unfolding arrives to_tail
still_so o b s j u f = each_task j.tasks u _ (Still o b s) (λ e. absurd (false≢true e)) f

-- from the state s and the store before, i wakes are done, or none is left
pub record Rousing (o : ObjSlot) (b : ℕ) (s : State) (before : List ℕ) (k : Core) (m i : ℕ) (store : List ℕ) : Type 0 where
  pub now : State
  pub left : ℕ
  pub steps : left + i ≡ 16
  pub stands : k ≡ core_of now
  pub full : length now.tasks ≡ 16
  pub still : (t : TaskSlot) → Still o b s t (task_at now.tasks t)
  pub woken : all_woken now (woken_in left now o b) ≡ all_woken s (woken_in 16 s o b)
  pub asked : asking s.tasks m (woken_in left now o b) ≡ asking s.tasks 0 (woken_in 16 s o b)
  pub told : telling b store (woken_in left now o b) ≡ telling b before (woken_in 16 s o b)

-- of whatever state the value stands for
abbrev pub Rouses : ObjSlot → ℕ → Core → List ℕ → Core → ℕ → ℕ → List ℕ → Type 0
Rouses o b self before k m i store = (s : State) → self ≡ core_of s → Rousing o b s before k m i store

module _ {self : Core} (F : Firm self) (o : ObjSlot) (b : ℕ) where
  sixteen : (s : State) → self ≡ core_of s → length s.tasks ≡ 16
  unfolding core_of
  sixteen s h =
      ap length (sym (rows_of_lem s.tasks) ∙ ap (λ (k : Core). rows_of k.tasks) (sym h ∙ F.stands) ∙ rows_of_lem (shown_core self).tasks) ∙ F.sound.tables.task_slots

  pub rouse_begins : (before : List ℕ) → Rouses o b self before self 0 0 before
  rouse_begins before s h = record { now = s; left = 16; steps = refl; stands = h; full = sixteen s h; still = λ t e. refl; woken = refl; asked = refl; told = refl }

  module _ {before store : List ℕ} {k : Core} {m i : ℕ} (G : Rouses o b self before k m i store) (more : i < 16) where
    -- nobody is left
    pub rouse_none : ((s : State) → k ≡ core_of s → [] ≡ first s (those_satisfied_on o b)) → Rouses o b self before k m 16 store
    rouse_none f s h = go (G s h).left (G s h).steps (G s h).woken (G s h).asked (G s h).told
      where
        j : State
        j = (G s h).now

        none : (n : ℕ) → woken_in n j o b ≡ []
        none n = nobody_first o b n j (sym (f j (G s h).stands))

        go : (n : ℕ) → n + i ≡ 16 → all_woken j (woken_in n j o b) ≡ all_woken s (woken_in 16 s o b) → asking s.tasks m (woken_in n j o b) ≡ asking s.tasks 0 (woken_in 16 s o b)
            → telling b store (woken_in n j o b) ≡ telling b before (woken_in 16 s o b) → Rousing o b s before k m 16 store
        go n e a c d =
            record {
              now = j;
              left = 0;
              steps = refl;
              stands = (G s h).stands;
              full = (G s h).full;
              still = (G s h).still;
              woken = ap (all_woken j) (none 0 ∙ sym (none n)) ∙ a;
              asked = ap (asking s.tasks m) (none 0 ∙ sym (none n)) ∙ c;
              told = ap (telling b store) (none 0 ∙ sym (none n)) ∙ d;
            }

    -- t is next
    module _ (t : TaskSlot) (f : (s : State) → k ≡ core_of s → t ∷ [] ≡ first s (those_satisfied_on o b)) where
      pub rouse_low : t.0 < 16
      rouse_low =
          let g = G (shown_core self) F.stands in
          omega (arith, first_within g.now (those_satisfied_on o b) t (sym (f g.now g.stands)), g.full)

      pub rouse_next : {k' : Core} {store' : List ℕ} {c : ℕ} → ((s : State) → k ≡ core_of s → k' ≡ core_of (arrives s t Ready 1))
          → ((s : State) → k ≡ core_of s → c ≡ clears (want_in (task_at s.tasks t).place)) → store' ≡ slip_bits b t store
          → Rouses o b self before k' (bit_or m c) (i + 1) store'
      rouse_next {k'} {store'} {c} a e q s h = go (G s h).left (G s h).steps (G s h).woken (G s h).asked (G s h).told
        where
          j : State
          j = (G s h).now

          this : first j (those_satisfied_on o b) ≡ t ∷ []
          this = sym (f j (G s h).stands)

          rest : ℕ → List TaskSlot
          rest n = woken_in n (arrives j t Ready 1) o b

          asks : c ≡ clears (want_in (task_at s.tasks t).place)
          asks = e j (G s h).stands ∙ (G s h).still t (first_meant j (those_satisfied_on o b) t this)

          many : length (arrives j t Ready 1).tasks ≡ 16
          many = many_still j t ∙ (G s h).full

          go : (n : ℕ) → n + i ≡ 16 → all_woken j (woken_in n j o b) ≡ all_woken s (woken_in 16 s o b) → asking s.tasks m (woken_in n j o b) ≡ asking s.tasks 0 (woken_in 16 s o b)
              → telling b store (woken_in n j o b) ≡ telling b before (woken_in 16 s o b) → Rousing o b s before k' (bit_or m c) (i + 1) store'
          go zero u w x y = absurd (omega arith)
          go (suc n) u w x y =
              record {
                now = arrives j t Ready 1;
                left = n;
                steps = omega arith;
                stands = a j (G s h).stands;
                full = many;
                still = still_so o b s j t (G s h).still;
                woken = sym (ap (all_woken j) (one_first o b n j t this) ∙ one_woken j t (rest n)) ∙ w;
                asked = ap (λ (p : ℕ). asking s.tasks (bit_or m p) (rest n)) asks ∙ sym (ap (asking s.tasks m) (one_first o b n j t this) ∙ one_asked s.tasks m t (rest n)) ∙ x;
                told = ap (λ (r : List ℕ). telling b r (rest n)) q ∙ sym (ap (telling b store) (one_first o b n j t this) ∙ one_told b store t (rest n)) ∙ y;
              }

  -- all are done
  module _ {before store : List ℕ} {k : Core} {m i : ℕ} (G : Rouses o b self before k m i store) (none : 16 ≤ i) where
    at_end : (s : State) (h : self ≡ core_of s) → (G s h).left ≡ 0
    at_end s h = omega (arith, (G s h).steps)

    pub rouse_woken : (s : State) → self ≡ core_of s → k ≡ core_of (all_woken s (woken_by s o b))
    unfolding woken_by woken_in
    rouse_woken s h = (G s h).stands ∙ ap core_of (sym (none_woken (G s h).now) ∙ sym (ap (λ (n : ℕ). all_woken (G s h).now (woken_in n (G s h).now o b)) (at_end s h)) ∙ (G s h).woken)

    pub rouse_asked : (s : State) → self ≡ core_of s → m ≡ clears_of s.tasks (woken_by s o b)
    unfolding woken_by woken_in clears_of foldl
    rouse_asked s h = sym (ap (λ (n : ℕ). asking s.tasks m (woken_in n (G s h).now o b)) (at_end s h)) ∙ (G s h).asked

    pub rouse_told : (s : State) → self ≡ core_of s → store ≡ store_set s o b before
    unfolding woken_by woken_in store_set foldl
    rouse_told s h = sym (ap (λ (n : ℕ). telling b store (woken_in n (G s h).now o b)) (at_end s h)) ∙ (G s h).told
