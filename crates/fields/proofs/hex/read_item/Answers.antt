use Prim.Native.Nat.{suc, ◌+◌, ◌-◌}
use mathlib.Core.Path.{◌≡◌, sym, ◌∙◌}
use native.Mathlib.Omega.{arith}
use Rattle.fields.proofs.Pairs.{none_below, some_below, left_first, left_last, left_stop, left_more}
use Rattle.fields.proofs.hex.read_item.Goals as goal

pub returns-in-None : goal.returns-in-None
returns-in-None c =
    let a = c.loop-n in
    let e : 64 - a.n ≡ suc (64 - (a.n + 1)) = omega arith in
    sym (left_stop (64 - (a.n + 1)) a.n a.bytes a.next _ (none_below (sym c.in-None.is ∙ c.byte_at.ensures))) ∙ (rw e at a.invariant) ∙ left_first _ _ _ _

pub loop-n-preserved : goal.loop-n-preserved
loop-n-preserved c =
    let a = c.loop-n in
    let b = some_below (sym c.in-Some.is ∙ c.byte_at.ensures) in
    let e : 64 - a.n ≡ suc (64 - (a.n + 1)) = omega arith in
    sym (left_more (64 - (a.n + 1)) a.n a.bytes _ a.next _ b.0 (rw b.0 b.1)) ∙ (rw e at a.invariant)

pub returns : goal.returns
returns c =
    let a = c.loop-n in
    let e : 64 - a.n ≡ 0 = omega arith in
    let f : a.n ≡ 64 = omega arith in
    rw f at (sym (left_last a.n a.bytes a.next _) ∙ (rw e at a.invariant) ∙ left_first _ _ _ _)
