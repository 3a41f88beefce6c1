use Rattle.std.proofs.Common.{◌+◌, ◌*◌, arith}
use Rattle.items.proofs.Copies.{part_fetch}
use Rattle.rules.specs.Parts.{slip_of}
use Rattle.kernel.proofs.parts.of_slip.Goals as goal

pub returns : goal.returns
returns c =
    let a = c.args in
    let from = 8192 + 64 * c.slot.result in
    part_fetch a.store.now from (from + 64) (omega arith) (omega arith) c.fetch_at.result a.n 0
    (slip_of a.t) (omega arith) (omega arith) (omega arith) c.fetch_at.ensures
