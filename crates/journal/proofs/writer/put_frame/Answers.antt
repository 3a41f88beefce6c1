use Prim.Native.Nat.{◌+◌, ◌-◌}
use mathlib.Core.Path.{◌≡◌, ap}
use native.Mathlib.Omega.{arith}
use lib.ListN.{length-take}
use Rattle.std.proofs.Common.{Some}
use Rattle.calls.specs.Shapes.{Shape, shape_told}
use Rattle.calls.proofs.CallAgain.{shape_small}
use Rattle.journal.proofs.LineStores.{frame_wrote}
use Rattle.journal.proofs.writer.put_frame.Goals as goal

pub slice_bounds-put_numbers-end : goal.slice_bounds-put_numbers-end
slice_bounds-put_numbers-end c =
    let a = c.args in
    omega (arith, shape_small a.f.number, ap (λ (s : Shape). s.before + s.after) c.requires, length-take a.shape.before a.f.words)

pub returns : goal.returns
returns c =
    let a = c.args in
    let s = a.shape in
    let e : s.before + s.after - s.before ≡ s.after = omega arith in
    frame_wrote a.f.number a.f.words a.item.now (shape_told (Some s)) c.requires (rw c.from.ensures at c.put_number-first.ensures)
    c.put_numbers-sent.ensures c.put_sent-last.ensures (rw e at c.put_numbers-end.ensures) c.put.ensures
