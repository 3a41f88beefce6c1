use Rattle.std.proofs.Common.{◌≡◌, refl, ◌∙◌, arith, rules}
use Rattle.lists.proofs.Loops.{all_begin, all_turn}
use Rattle.kernel.proofs.Awaited.{awaits_end}
use Rattle.kernel.proofs.Core.each_await_fine.Goals as goal

pub loop-i-init : goal.loop-i-init
loop-i-init c = (all_begin refl, omega arith, omega (arith, c.requires))

pub loop-i-preserved : goal.loop-i-preserved
loop-i-preserved c =
    let l = c.loop-i in
    (all_turn l.invariant.0 (rw (c.await_fine-ok.ensures, c.of.ensures)), search rules, l.invariant.2)

pub returns : goal.returns
returns c =
    let k = c.args.self in
    let e : c.loop-i.i ≡ c.args.n = omega arith in awaits_end k.tasks k.objects c.loop-i.invariant.0 (e ∙ c.requires)
