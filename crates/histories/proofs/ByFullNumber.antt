-- Each task and each object of a sound kernel has one number, which names it.
use Prim.Native.Nat.{ℕ, ◌/◌, ◌%◌, ◌<◌}
use mathlib.Core.Path.{◌≡◌, refl, sym, ap, subst, ◌∙◌}
use mathlib.Core.Bool.{Bool, true, false}
use mathlib.Core.List.{List}
use native.Mathlib.Omega.{arith}
use lib.Dec.{eqb}
use borrow.Author.Tests.{eqb-true, eq-eqb}
use Rattle.std.proofs.Common.{if◌then◌else◌}
use Rattle.lists.proofs.Bools.{off}
use Rattle.numbers.specs.Numbers.{task, object}
use Rattle.calls.specs.Named.{object_of}
use Rattle.calls.specs.Door.{use_in, number_in, slot_in, obj_slot}
use Rattle.rules.specs.Sound.{sound}
use Rattle.rules.specs.Sentences.{Exists, Tables}
use Rattle.rules.proofs.SoundSays.{sound_says}
use Rattle.rules.proofs.Keeps.{there_low}
use Rattle.rules.proofs.KeepObjects.{object_low}
use Rattle.histories.specs.Types.{TaskSlot, State}
use Rattle.histories.specs.ByFullNumber.{slot_of, Numbered}
use Rattle.histories.proofs.Lives.{number_slot, number_use}

-- ── the door: a number names the slot s exactly if it is the number of s
pub slot_number : (us : List ℕ) (s x : ℕ) → s < 16 → slot_in us x ≡ s → x ≡ number_in us s
slot_number us s x h e = go (eqb (x / 16) (use_in us (x % 16))) refl e
  where
    go : (b : Bool) → eqb (x / 16) (use_in us (x % 16)) ≡ b → (if b then x % 16 else 16) ≡ s → x ≡ number_in us s
    go true q e = subst (λ i. x ≡ number_in us i) e (let u = eqb-true (x / 16) (use_in us (x % 16)) q in omega (arith, u))
    go false q e = absurd (omega (arith, h, e))

pub number_slot_in : (us : List ℕ) (s : ℕ) → s < 16 → slot_in us (number_in us s) ≡ s
number_slot_in us s h = rw (number_slot s (use_in us s) h, number_use s (use_in us s) h, eq-eqb (use_in us s) (use_in us s) refl)

pub number_names : (us : List ℕ) (s x : ℕ) → s < 16 → x ≡ number_in us s → slot_in us x ≡ s
number_names us s x h e = ap (λ i. slot_in us i) e ∙ number_slot_in us s h

pub numbered : (k : State) → sound k ≡ true → Numbered k
numbered k e =
    record {
      task_named = λ t x. ap task (number_slot_in k.uses.tasks t.0 (task_low t (off _ x)));
      task_number = λ n x. sym (slot_number k.uses.tasks (slot_of k n).0 n (task_low (slot_of k n) (off _ x)) refl);
      object_named = λ o x. ap object (number_slot_in k.uses.objects o.0 (object_low k.objects o T.object_slots x));
      object_number = λ n x. let o = obj_slot k.uses (object_of n) in sym (slot_number k.uses.objects o.0 n (object_low k.objects o T.object_slots (off _ x)) refl);
    }
  where
    T : Tables k.tasks k.objects
    T = (sound_says k e).tables

    task_low : (t : TaskSlot) → Exists k.tasks t → t.0 < 16
    task_low t = there_low k.tasks t T.task_slots
