-- The state that a kernel value shows.
use Rattle.std.proofs.Common.{◌≡◌, ℕ, Bool, true, false, ◌&&◌, List, sym, refl, ap, ◌∙◌, arith, if◌then◌else◌}
use Rattle.lists.proofs.Bools.{and_left, and_right, and_intro, same_test}
use Rattle.calls.specs.Door.{fresh_uses, uses_fine}
use Rattle.tasks.specs.Columns.{tasks_of}
use Rattle.tasks.specs.Known.{canonical}
use Rattle.tasks.proofs.Columns.{rows_of_lem}
use Rattle.tasks.proofs.Plain.{tasks_plain}
use Rattle.objects.proofs.Columns.{rows_of_lem as kinds_of}
use Rattle.objects.proofs.Plain.{objects_plain}
use Rattle.rules.specs.State.{State}
use Rattle.rules.specs.Tables.{with_uses}
use Rattle.rules.specs.Sound.{sound}
use Rattle.rules.specs.Steps.{Stepped}
use Rattle.rules.proofs.SoundUses.{fresh_fine}
use Rattle.rules.proofs.SoundSays.{sound_tested, tested_sound, sound_says}
use Rattle.kernel.specs.Types.{Core, Kernel, Uses, Step}
use Rattle.kernel.specs.Stands.{core_of, kernel_of, plain, as_rows, without_tables, shown_with, shown, shown_core, standing}
use Rattle.kernel.specs.Promises.{Is}

-- a state's value shows the state, with whatever uses
plain_of : (s : State) → plain (core_of s) ≡ true
unfolding plain core_of
plain_of s = and_intro (canonical (tasks_of s.tasks)) _ (tasks_plain s.tasks) (objects_plain s.objects)

pub shown_with_lem : (s : State) (us : Uses) → shown_with (core_of s) us ≡ with_uses s us
unfolding shown_with core_of
shown_with_lem s us = rw (plain_of s, rows_of_lem s.tasks, kinds_of s.objects)

pub shown_of : (s : State) → shown (kernel_of s) ≡ s
shown_of s = shown_with_lem s s.uses

-- a state without tables is not sound
pub no_tables_lem : (k : Core) (us : Uses) → sound (without_tables k us) ≡ true → ⊥
no_tables_lem k us e = let z : ◌≡◌ {A = ℕ} 0 16 = (sound_says (without_tables k us) e).tables.task_slots in omega arith

-- who runs, and the uses, are always shown
pub shown_running : (k : Kernel) → (shown k).running ≡ k.core.running
unfolding shown_with
shown_running k = go (plain k.core)
  where
    go : (b : Bool) → (if b then as_rows k.core k.uses else without_tables k.core k.uses).running ≡ k.core.running
    go true = refl
    go false = refl

pub shown_uses : (k : Kernel) → (shown k).uses ≡ k.uses
unfolding shown_with
shown_uses k = go (plain k.core)
  where
    go : (b : Bool) → (if b then as_rows k.core k.uses else without_tables k.core k.uses).uses ≡ k.uses
    go true = refl
    go false = refl

-- the test, in two parts: what stands behind the door, and the uses
module _ (k : Core) (us : Uses) where
  change : (vs : Uses) → uses_fine vs ≡ true → sound (as_rows k us) ≡ true → sound (as_rows k vs) ≡ true
  change vs f e =
      let T = sound_tested (as_rows k us) e in
      tested_sound (as_rows k vs) record { tables = T.tables; levels = T.levels; listing = T.listing; clock = T.clock; runs = T.runs; uses = f; circles = T.circles }

pub sound_parts : (k : Core) (us : Uses) → sound (shown_with k us) ≡ (sound (shown_core k) && uses_fine us)
unfolding shown_with
sound_parts k us = go (plain k)
  where
    go : (b : Bool) → sound (if b then as_rows k us else without_tables k us) ≡ (sound (if b then as_rows k fresh_uses else without_tables k fresh_uses) && uses_fine us)
    go true =
        same_test _ _ (λ e. and_intro _ _ (change k us fresh_uses fresh_fine e) (sound_tested (as_rows k us) e).uses)
        (λ e. change k fresh_uses us (and_right (sound (as_rows k fresh_uses)) _ e) (and_left (sound (as_rows k fresh_uses)) _ e))
    go false =
        same_test _ _ (λ e. absurd (no_tables_lem k us e)) (λ e. absurd (no_tables_lem k fresh_uses (and_left (sound (without_tables k fresh_uses)) _ e)))

-- the uses do not tell in it
pub core_shown : (k : Core) (us : Uses) → core_of (shown_with k us) ≡ core_of (shown_core k)
unfolding shown_with core_of
core_shown k us = go (plain k)
  where
    go : (b : Bool) → core_of (if b then as_rows k us else without_tables k us) ≡ core_of (if b then as_rows k fresh_uses else without_tables k fresh_uses)
    go true = refl
    go false = refl

-- a kernel value that stands for a state, if it is sound, stays
pub stays_standing : (k : Kernel) → (sound (shown k) ≡ true → k ≡ kernel_of (shown k)) → k ≡ standing k (shown k)
stays_standing k f = go (sound (shown k)) f
  where
    go : (b : Bool) → (b ≡ true → k ≡ kernel_of (shown k)) → k ≡ (if b then kernel_of (shown k) else k)
    go true g = g refl
    go false g = refl

-- after a step the next state is shown
pub next_shown : (k : Kernel) (d : Stepped) (q : Step) (after : List ℕ) → Is k d q after → (sound (shown k) ≡ false → d.kernel ≡ shown k) → shown q.kernel ≡ d.kernel
next_shown k d q after is f = go (sound (shown k)) is.kernel f
  where
    go : (b : Bool) → q.kernel ≡ (if b then kernel_of d.kernel else k) → (b ≡ false → d.kernel ≡ shown k) → shown q.kernel ≡ d.kernel
    go true e g = ap shown e ∙ shown_of d.kernel
    go false e g = ap shown e ∙ sym (g refl)
