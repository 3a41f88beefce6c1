use Rattle.std.proofs.Common.{◌*◌, min, sym, refl, ap, ◌∙◌}
use Rattle.lists.proofs.Loops.{all_begin}
use Rattle.kernel.proofs.Awaited.{awaits_end}
use Rattle.kernel.proofs.Core.awaits_fine.Goals as goal

pub returns-then-n-eq0 : goal.returns-then-n-eq0
returns-then-n-eq0 c =
    let k = c.args.self in
    awaits_end k.tasks k.objects (all_begin refl) (sym c.if-n-eq0.true ∙ c.bound-n.ensures ∙ ap (λ m. min 16 (16 * m)) c.wanting.ensures)
