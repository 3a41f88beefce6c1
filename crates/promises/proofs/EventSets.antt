-- What a set does: to every task, to the lines, to the bits and to all else.
use Prim.Native.Nat.{ℕ, ◌<◌}
use mathlib.Core.Path.{◌≡◌, sym, ap, ◌∙◌}
use mathlib.Core.Bool.{true, false≢true}
use mathlib.Core.List.{List}
use native.Mathlib.Omega.{arith}
use lib.ListN.{length}
use Rattle.lists.proofs.Bools.{and_left, and_right, untrue}
use Rattle.slots.specs.declared.Object.{Object}
use Rattle.slots.specs.Kinds.{is_unused, kind_at}
use Rattle.slots.specs.Values.{task_at}
use Rattle.slots.specs.Wants.{cleared, clears, want_in}
use Rattle.rules.specs.Events.{woken_by, all_woken, clears_of, bits_set}
use Rattle.rules.specs.Sentences.{Sound}
use Rattle.rules.proofs.KeepObject.{kind_same, kind_other}
use Rattle.rules.proofs.KeepObjects.{object_low}
use Rattle.promises.specs.Types.{TaskSlot, ObjSlot, Group, State}
use Rattle.promises.specs.EventGroups.{has_bit, AsksClear, SetWakes}
use Rattle.promises.proofs.BitByBit.{cleared_says}
use Rattle.promises.proofs.EventWakes.{then_none, then_same, count_woken, woken_met, is_woken, is_left, Passes, some_passes, passes_some, asks_it, clears_say, asks_wanted, fewer_met}
use Rattle.promises.proofs.EventLines.{lines_then}

module _ (k : State) (S : Sound k) (o : ObjSlot) (a : ℕ) (kind_was : kind_at k.objects o ≡ Group a) (b : ℕ) where
  abbrev woken_here : List TaskSlot
  woken_here = woken_by k o b

  abbrev now_set : ℕ
  now_set = cleared b (clears_of k.tasks woken_here)

  low : o.0 < length (all_woken k woken_here).objects
  low = omega (arith, object_low k.objects o S.tables.object_slots (ap is_unused kind_was), S.tables.object_slots, ap (length {A = Object}) (then_same o b k S).objects)

  -- one who is woken and asks is who asks
  asked_so : (i : ℕ) → AsksClear k o b i → has_bit i (clears_of k.tasks woken_here) ≡ true
  asked_so i A =
      clears_say k.tasks i woken_here
      ∙ passes_some (asks_it k.tasks i) woken_here A.who (omega (arith, rw A.is_met at (count_woken o b k S A.who))) (ap (λ x. has_bit i (clears x)) A.wants ∙ A.in_mask)

  so_asked : (i : ℕ) → has_bit i (clears_of k.tasks woken_here) ≡ true → AsksClear k o b i
  so_asked i e = go (some_passes (asks_it k.tasks i) woken_here (sym (clears_say k.tasks i woken_here) ∙ e))
    where
      go : Passes (asks_it k.tasks i) woken_here → AsksClear k o b i
      go r =
          let w = asks_wanted (want_in (task_at k.tasks r.who).place) i r.passes in
          record { who = r.who; is_met = woken_met o b k S r.who r.stands; mask = w.mask; all = w.all; wants = w.wants; in_mask = w.in_mask }

  pub set_wakes_so : SetWakes k o b (bits_set k o b)
  unfolding bits_set
  set_wakes_so =
      record {
        woken = is_woken o b k S;
        others = is_left o b k S;
        lines = λ p. lines_then o b p k S;
        none_left = then_none o b k S;
        now = now_set;
        kind = kind_same (all_woken k woken_here).objects o (Group now_set) low;
        was_set = λ i e. and_left (has_bit i b) _ (sym (cleared_says i b (clears_of k.tasks woken_here)) ∙ e);
        unasked = λ i e A. false≢true (rw (asked_so i A) at (and_right (has_bit i b) _ (sym (cleared_says i b (clears_of k.tasks woken_here)) ∙ e)));
        stays_set = λ i e n. cleared_says i b (clears_of k.tasks woken_here) ∙ rw (e, untrue (has_bit i (clears_of k.tasks woken_here)) (λ z. n (so_asked i z)));
        none_now = λ t. fewer_met o b (clears_of k.tasks woken_here) (task_at (all_woken k woken_here).tasks t).place (then_none o b k S t);
        objects = λ p n. kind_other (all_woken k woken_here).objects o (Group now_set) p n ∙ ap (λ os. kind_at os p) (then_same o b k S).objects;
        tick = (then_same o b k S).tick;
        hold = (then_same o b k S).hold;
        pended = (then_same o b k S).pended;
        running = (then_same o b k S).running;
        uses = (then_same o b k S).uses;
      }
