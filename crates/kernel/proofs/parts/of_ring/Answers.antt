use Rattle.std.proofs.Common.{◌+◌, ◌*◌, arith}
use Rattle.items.proofs.Copies.{part_fetch}
use Rattle.rules.specs.Parts.{item_at}
use Rattle.kernel.proofs.parts.of_ring.Goals as goal

pub returns : goal.returns
unfolding item_at
returns c =
    let a = c.args in
    let from = 512 * c.slot-from.result in
    part_fetch a.store.now from (from + 512) (omega arith) (omega arith) c.fetch_at.result a.q.size c.begins-at.result
    (item_at a.o a.q a.i) (omega arith) (omega arith) (omega arith) (rw c.from-n.ensures at c.fetch_at.ensures)
