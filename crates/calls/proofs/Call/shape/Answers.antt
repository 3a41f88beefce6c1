use mathlib.Core.Path.{ap, ◌∙◌}
use Rattle.calls.specs.Words.{shape_of}
use Rattle.calls.proofs.CallAgain.{call_again, has_shape}
use Rattle.calls.proofs.Call.shape.Goals as goal

pub unwrap-requires : goal.unwrap-requires
unwrap-requires c =
    has_shape c.of.result
    (ap (λ s. s.known) c.of.ensures.shape ∙ ap (λ n. (shape_of n).known) (c.from.ensures ∙ ap (λ f. f.number) c.frame.ensures.0)
    ∙ (call_again c.args.self).known)
