use Rattle.std.proofs.Common.{arith, le-ltb}
use Rattle.slots.specs.Kinds.{count_of}
use Rattle.kernel.proofs.Core.give_back.Goals as goal

pub returns-in-Some : goal.returns-in-Some
returns-in-Some c =
    λ s h.
    rw (le-ltb 1 (count_of c.args.m) (omega (arith, c.if-n-gt1.false, c.count-n.ensures)), ← c.first_waiter.ensures s h)
    (rw (c.in-Some.is, ← c.counting-in-Some.ensures) (c.with_object-in-Some.ensures _ (c.arrives.ensures s h)))
