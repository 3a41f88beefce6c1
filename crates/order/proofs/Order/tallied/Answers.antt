use borrow.Author.Rules.{rules}
use Rattle.lists.proofs.Loops.{done, all_begin, all_turn}
use Rattle.numbers.specs.Numbers.{idle}
use Rattle.order.proofs.Halves.{numbered, listed_low, listed_past}
use Rattle.order.proofs.Tallies.{bump_past, count_begin, count_turn}
use Rattle.order.specs.Tidy.{tallies_of}
use lib.ListN.{length, get_or}
use lib.Seq.{take_all}
use mathlib.Core.Path.{refl, ◌∙◌}
use native.Mathlib.Omega.{arith}
use Rattle.order.proofs.Order.tallied.Goals as goal
use Rattle.order.proofs.Order.tallied.Goals.{then-s-lt16, else-s-lt16}

pub loop-t-init : goal.loop-t-init
loop-t-init c = (count_begin (omega arith), all_begin refl, omega arith)

pub loop-t-preserved : goal.loop-t-preserved
loop-t-preserved c =
    let l = c.loop-t in
    let t = get_or c.among-t-items.result.now l.t-index idle in (
      count_turn l.invariant.0 (search rules)
          (elim c.if-s-lt16.branch [
            | then-s-lt16 v ↦ v.tallies-is ∙ rw c.slot-s.ensures
            | else-s-lt16 v ↦ v.tallies-is ∙ bump_past l.tallies t (rw (← c.slot-s.ensures) (omega (arith, v.if-s-lt16.false, l.invariant.0.wide)))
          ]),
      all_turn l.invariant.1
          (elim c.if-s-lt16.branch [
            | then-s-lt16 v ↦ v.numbers-is ∙ listed_low l.numbers t.0 (rw (← c.slot-s.ensures) v.if-s-lt16.true)
            | else-s-lt16 v ↦ v.numbers-is ∙ listed_past l.numbers t.0 (rw (← c.slot-s.ensures) (omega (arith, v.if-s-lt16.false)))
          ]),
      l.invariant.2,
    )

pub returns-clause-tallies : goal.returns-clause-tallies
unfolding tallies_of
returns-clause-tallies c =
    let d = c.among-t-items in
    done c.loop-t.invariant.0.rest c.loop-t-test.false ∙ rw (take_all (length d.result.now) d.result.now (omega arith), d.ensures.those)

pub returns-clause-numbers : goal.returns-clause-numbers
returns-clause-numbers c =
    let d = c.among-t-items in
    numbered c.args.self.now {n = c.loop-t.t-index} (omega arith) (rw d.ensures.those at c.loop-t.invariant.1)
