-- A walk over those who want bits finds what a walk over all of them finds.
use Rattle.std.proofs.Common.{◌≡◌, ℕ, ◌*◌, min, Bool, true, false, eqb, sym, refl, ap, ◌∙◌, arith, eqb-true}
use borrow.Author.Tests.{eqb-false}
use Rattle.lists.specs.Lists.{all_below}
use Rattle.lists.proofs.Bools.{below_all}
use Rattle.lists.proofs.Loops.{Held}
use Rattle.slots.specs.declared.Want.TheVariants.{OwnTurn}
use Rattle.slots.specs.declared.Place.{Place}
use Rattle.slots.specs.declared.Place.TheVariants.{Free, Ready, Delayed, Waiting, Suspended, Spent}
use Rattle.slots.specs.Wants.{want_in}
use Rattle.tasks.specs.declared.Tasks.{Tasks}
use Rattle.tasks.specs.Columns.{row_at}
use Rattle.tasks.specs.Fine.{wanting_in}
use Rattle.tasks.proofs.Wanted.{none_bits}
use Rattle.objects.specs.declared.Objects.{Objects}
use Rattle.objects.specs.Columns.{kind_in}
use Rattle.kernel.specs.Waited.{want_may, awaits_in, awaits_at}

module _ (ts : Tasks) (os : Objects) where
  -- whoever waits for its turn is not asked for bits
  for_turn : (p : Place) → want_in p ≡ OwnTurn → awaits_in os p ≡ true
  for_turn Free e = refl
  for_turn Ready e = refl
  for_turn (Delayed w) e = refl
  for_turn (Waiting y w) e = ap (λ x. want_may x (kind_in os y.object.0)) e
  for_turn Suspended e = refl
  for_turn Spent e = refl

  pub awaits_end : {ok : Bool} {i : ℕ} → Held (awaits_at ts os) true ok i → i ≡ min 16 (16 * wanting_in ts) → ok ≡ all_below 16 (awaits_at ts os)
  unfolding all_below
  awaits_end {ok} {i} inv e = go (eqb (wanting_in ts) 0) refl
    where
      go : (b : Bool) → eqb (wanting_in ts) 0 ≡ b → ok ≡ all_below 16 (awaits_at ts os)
      go true q =
          let none = eqb-true (wanting_in ts) 0 q in
          let z : i ≡ 0 = omega (arith, none) in
          inv.so ∙ rw z (sym (below_all 16 (awaits_at ts os) (λ j l. for_turn (row_at ts j).place (none_bits ts none j l))))
      go false q =
          let z : i ≡ 16 = omega (arith, eqb-false (wanting_in ts) 0 q) in
          inv.so ∙ rw z
