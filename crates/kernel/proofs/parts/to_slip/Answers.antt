use Rattle.std.proofs.Common.{◌+◌, ◌*◌, arith}
use Rattle.items.proofs.Copies.{part_put}
use Rattle.rules.specs.Parts.{slip_of}
use Rattle.kernel.proofs.parts.to_slip.Goals as goal

pub returns : goal.returns
returns c =
    let a = c.args in
    let from = 8192 + 64 * c.slot.result in
    part_put a.store.now from (from + 64) (omega arith) (omega arith) c.put_at.new.part a.item.now a.n 0
    (slip_of a.t) (omega arith) (omega arith) c.put_at.ensures
