-- A kernel value that stands for a state has the state's order, caller and numbers.
use Rattle.std.proofs.Common.{◌≡◌, ap}
use Rattle.rules.specs.State.{State}
use Rattle.kernel.specs.Types.{Core}
use Rattle.kernel.specs.Stands.{core_of}

module _ (k : Core) (s : State) (h : k ≡ core_of s) where
  pub same_running : k.running ≡ s.running
  unfolding core_of
  same_running = ap (λ (n : Core). n.running) h

  pub same_tick : k.tick ≡ s.tick
  unfolding core_of
  same_tick = ap (λ (n : Core). n.tick) h

  pub same_hold : k.hold ≡ s.hold
  unfolding core_of
  same_hold = ap (λ (n : Core). n.hold) h

  pub same_pended : k.pended ≡ s.pended
  unfolding core_of
  same_pended = ap (λ (n : Core). n.pended) h
