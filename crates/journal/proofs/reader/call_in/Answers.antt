use Prim.Native.Nat.{◌+◌, ◌≤◌}
use mathlib.Core.Path.{refl, sym}
use native.Mathlib.Omega.{arith}
use borrow.Author.Rules.{rules}
use lib.ListN.{length-take}
use Rattle.calls.specs.Words.{no_words}
use Rattle.journal.proofs.Parts.{no_number_none, not_known, no_first, words_long, no_sent, no_last, no_end, whole}
use Rattle.journal.proofs.reader.call_in.Goals as goal

pub returns-in_err-number : goal.returns-in_err-number
returns-in_err-number c = rw c.from_residual.ensures (no_number_none c.args.line.now c.in_err-number.ensures)

pub returns-in_err-shape : goal.returns-in_err-shape
returns-in_err-shape c = rw c.from_residual-in_err-shape.ensures (not_known c.args.line.now _ _ c.in_ok-number.ensures c.in_err-shape.ensures.shape refl)

pub slice_bounds-read_numbers-end : goal.slice_bounds-read_numbers-end
slice_bounds-read_numbers-end c =
    let s = c.in_ok-shape.shape in
    let h : s.before + s.after ≤ 5 = c.in_ok-shape.ensures.narrow in
    omega (arith, h, length-take s.before no_words)

pub returns-in_err-first : goal.returns-in_err-first
returns-in_err-first c =
    rw c.from_residual-in_err-first.ensures (no_first c.args.line.now _ _ c.in_ok-number.ensures c.in_ok-shape.ensures.shape c.in_err-first.ensures)

pub returns-in_err-sent : goal.returns-in_err-sent
returns-in_err-sent c =
    rw c.from_residual-in_err-sent.ensures
    (no_sent c.args.line.now _ _ c.in_ok-number.ensures c.in_ok-shape.ensures.shape _ _ c.in_ok-first.ensures c.in_err-sent.ensures)

pub slice_bounds-words-end-2 : goal.slice_bounds-words-end-2
slice_bounds-words-end-2 c =
    let s = c.in_ok-shape.shape in
    let h : s.before + s.after ≤ 5 = c.in_ok-shape.ensures.narrow in
    let k = words_long c.args.line.now _ _ c.in_ok-number.ensures c.in_ok-shape.ensures.shape _ _ c.in_ok-first.ensures in
    search (rules, h, k)

pub returns-in_err-last : goal.returns-in_err-last
returns-in_err-last c =
    rw c.from_residual-in_err-last.ensures
    (no_last c.args.line.now _ _ c.in_ok-number.ensures c.in_ok-shape.ensures.shape _ _ c.in_ok-first.ensures _ c.in_ok-sent.ensures c.in_err-last.ensures)

pub returns-then-at_end : goal.returns-then-at_end
returns-then-at_end c =
    rw c.of-then-at_end.ensures
    (whole c.args.line.now _ _ c.in_ok-number.ensures c.in_ok-shape.ensures.shape _ _ c.in_ok-first.ensures _ c.in_ok-sent.ensures _ _ c.in_ok-last.ensures
    refl (sym c.if-at_end.ensures))

pub returns-else-at_end : goal.returns-else-at_end
returns-else-at_end c =
    no_end c.args.line.now _ _ c.in_ok-number.ensures c.in_ok-shape.ensures.shape _ _ c.in_ok-first.ensures _ c.in_ok-sent.ensures _ _ c.in_ok-last.ensures
    (sym c.if-at_end.ensures)
