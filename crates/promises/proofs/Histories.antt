-- After any calls from the fresh kernel each task is in one state and listed only where it belongs, and no ready task outranks the running one.
use Prim.Native.Nat.{ℕ, ◌≤◌}
use mathlib.Core.Path.{◌≡◌, refl, sym, ap, ◌∙◌}
use mathlib.Core.Bool.{Bool, true, false, false≢true}
use mathlib.Core.List.{List, []}
use native.Mathlib.Omega.{arith}
use lib.Dec.{ltb}
use borrow.Author.Tests.{ltb-true, ltb-false, eq-eqb}
use Rattle.numbers.specs.declared.TaskSlot.{TaskSlot}
use Rattle.numbers.specs.Numbers.{task}
use Rattle.order.specs.Order.{ordered}
use Rattle.order.specs.Tidy.{count}
use Rattle.slots.specs.declared.Place.{Place}
use Rattle.slots.specs.declared.Place.TheVariants.{Free, Ready, Delayed, Waiting, Suspended}
use Rattle.slots.specs.Places.{is_free}
use Rattle.rules.specs.State.{State}
use Rattle.slots.specs.Values.{task_at}
use Rattle.rules.specs.Tables.{fresh}
use Rattle.rules.specs.Lines.{level}
use Rattle.rules.specs.Sound.{sound}
use Rattle.rules.specs.Sentences.{Sound}
use Rattle.rules.proofs.SoundLists.{once_of}
use Rattle.rules.proofs.SoundSays.{sound_says}
use Rattle.rules.specs.Trace.{CallMade, step_made}
use Rattle.rules.proofs.Traces.{trace_keeps}
use Rattle.rules.proofs.KeepEvery.{fresh-sound, step_kept}
use Rattle.promises.specs.History.{after, reached, states, Placed, overlisted}
use Rattle.slots.specs.declared.Place.TheVariants.{Spent}

-- soundness all the way
pub after-sound : (k : State) (ms : List CallMade) → sound k ≡ true → sound (after k ms) ≡ true
after-sound k ms = trace_keeps step_made (λ j. sound j ≡ true) (λ j s m. step_kept j m.call m.item m.store) k [] ms

pub reached-sound : (ms : List CallMade) → sound (reached ms) ≡ true
reached-sound ms = after-sound fresh ms fresh-sound

one_of_four : (p : Place) → is_free p ≡ false → states p ≡ 1
one_of_four Free e = absurd (false≢true (sym e))
one_of_four Ready e = refl
one_of_four (Delayed w) e = refl
one_of_four (Waiting o w) e = refl
one_of_four Suspended e = refl
one_of_four Spent e = absurd (false≢true (sym e))

none_listed : (n : ℕ) → count n [] ≡ 1 → ⊥
unfolding count
none_listed n e = omega arith

pub sound_placed : (k : State) → Sound k → Placed k
sound_placed k S =
    record {
      one_state = λ t e. one_of_four (task_at k.tasks t).place e;
      order = once_of k.tasks k.order S.listing;
      lines = S.listing.lines;
      lists = S.listing.lists;
      remembered = S.listing.remembered;
      not_outranked = λ h t e. go h t e (ltb (level k.tasks k.running) (level k.tasks t)) refl;
    }
  where
    go : k.hold ≡ 0 → (t : TaskSlot) → (task_at k.tasks t).place ≡ Ready → (b : Bool)
        → ltb (level k.tasks k.running) (level k.tasks t) ≡ b → level k.tasks t ≤ level k.tasks k.running
    go h t e true q =
        let empty = S.running.no_higher h (level k.tasks t) (ltb-true _ _ q) in
        absurd (none_listed t.0 (ap (count t.0) (sym empty) ∙ S.listing.lines (level k.tasks t) t ∙ rw (e, eq-eqb (level k.tasks t) (level k.tasks t) refl)))
    go h t e false q = ltb-false _ _ q

-- the order counts: lines and lists alone would let a suspended task stay listed
pub overlisted_not_placed : Placed overlisted → ⊥
unfolding overlisted ordered count task_at
overlisted_not_placed P = omega (arith, P.order (task 1))

-- the first two sentences of the demand, after each history
pub after_any_calls : (ms : List CallMade) → Placed (reached ms)
after_any_calls ms = sound_placed (reached ms) (sound_says (reached ms) (reached-sound ms))
