use Prim.Native.Nat.{◌≤◌}
use mathlib.Core.Path.{◌≡◌, sym, ap, ◌∙◌}
use mathlib.Core.Bool.{true, false≢true}
use native.Mathlib.Omega.{arith}
use lib.ListN.{length}
use Rattle.calls.specs.Words.{shape_of}
use Rattle.journal.specs.Types.{Frame}
use Rattle.journal.proofs.Fit.{its_line}
use Rattle.journal.proofs.LineStores.{line_refused, item_refused, call_written}
use Rattle.journal.proofs.writer.write_call.Goals as goal
use Rattle.journal.proofs.writer.write_call.Goals.{else-shape-via-then-shape+else-item-gt64, else-shape-via-else-shape}

pub returns-then-line-ne256 : goal.returns-then-line-ne256
returns-then-line-ne256 c =
    let a = c.args in
    record {
      written = line_refused _ _ _ c.if-line-ne256.true;
      has = λ k. its_line a.call a.item.now c.frame-f.ensures.1 c.type_inv.item (omega (arith, k));
    }

pub returns-then-item-gt64 : goal.returns-then-item-gt64
returns-then-item-gt64 c =
    let a = c.args in
    record {
      written = item_refused a.call a.item.now a.line.now c.if-line-ne256.false _ _ c.frame-f.ensures.0
          (c.shape-shape.ensures.shape ∙ ap (λ (f : Frame). shape_of f.number) (sym c.frame-f.ensures.0)) c.if-shape.true
          c.if-item-gt64.true;
      has = λ k. its_line a.call a.item.now c.frame-f.ensures.1 c.type_inv.item (omega (arith, k));
    }

pub returns : goal.returns
returns c =
    let a = c.args in
    let short : c.shape-shape.result.item ≡ true → length a.item.now ≤ 64 =
    elim c.else-shape.branch [
      | else-shape-via-then-shape+else-item-gt64 w ↦ λ e. w.if-item-gt64.false
      | else-shape-via-else-shape w ↦ λ e. absurd (false≢true (sym w.if-shape.false ∙ e))
    ] in
    record {
      written = call_written a.call a.item.now a.line.now c.if-line-ne256.false _ _ c.frame-f.ensures.0
          (c.shape-shape.ensures.shape ∙ ap (λ (f : Frame). shape_of f.number) (sym c.frame-f.ensures.0)) _ _
          short c.put_frame.ensures;
      has = λ k. its_line a.call a.item.now c.frame-f.ensures.1 c.type_inv.item (omega (arith, k));
    }
