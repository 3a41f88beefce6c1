use Prim.Native.Nat.{◌≤◌}
use mathlib.Core.Path.{◌≡◌, sym}
use native.Mathlib.Omega.{arith}
use lib.ListN.{get_or-eq_default}
use Rattle.lists.specs.Lists.{index, any}
use Rattle.calls.specs.Shapes.{unknown}
use Rattle.calls.specs.Words.{shapes, shape_of}
use Rattle.calls.proofs.Shape.of.Goals as goal

-- past the ranges only 23 is a call's number
pub returns-in_default-2 : goal.returns-in_default-2
unfolding shape_of any index
returns-in_default-2 c =
    let l : 23 ≤ c.args.number = c.in_default.if-number-lt23-own.false in
    let d : c.args.number ≡ 23 → ⊥ = c.in_default.in_default-own.rest.0.1 in
    record { shape = sym (get_or-eq_default shapes unknown {n = c.args.number} (omega arith)); narrow = omega arith }
