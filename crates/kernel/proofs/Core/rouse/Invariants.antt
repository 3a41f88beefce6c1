use Rattle.std.proofs.Common.{◌≡◌}
use Rattle.lists.specs.FourBytes.{four_bytes}
use Rattle.kernel.specs.Does.{Firm}
use Rattle.kernel.proofs.EventTurns.{Rouses}
use Rattle.kernel.proofs.Core.rouse.Given as goal

abbrev pub invariant-loop : goal.invariant-loop
invariant-loop l =
    Rouses l.o l.bits l.initial.self l.initial.store l.self l.clears l.counter l.store × Firm l.initial.self × (l.four ≡ four_bytes l.bits)
