use mathlib.Core.List.{◌∷◌, []}
use Rattle.fields.proofs.Stores.{Stored}
use Rattle.fields.proofs.bytes.put_all.Given as goal

abbrev pub invariant-loop-b : goal.invariant-loop-b
invariant-loop-b l = Stored (λ b. b ∷ []) l.bytes l.initial.line l.at l.line l.next l.b-index
