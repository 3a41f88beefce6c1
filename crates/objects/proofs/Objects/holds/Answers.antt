use Rattle.std.proofs.Common.{◌≡◌, ◌∙◌, sym, length, arith, rules}
use Rattle.objects.proofs.Columns.{held_some}
use Rattle.objects.proofs.Objects.holds.Goals as goal

pub returns : goal.returns
returns c =
    let wide : length c.args.self.now.state ≡ 16 = search rules in
    c.loop-i.invariant ∙ sym (held_some c.args.self.now c.args.t c.loop-i.i (omega arith))
