use Rattle.std.proofs.Common.{◌≡◌, true, sym, ◌∙◌}
use Rattle.lists.proofs.Bools.{and_left}
use Rattle.kernel.proofs.Shown.{shown_uses, sound_parts, core_shown}
use Rattle.kernel.proofs.Kernel.sound.Goals as goal

pub returns : goal.returns
returns c =
    let f = c.fine in
    let k = c.args.self in (
      rw (f.ensures.0, c.fine-2.ensures) (sym (sound_parts k.core k.uses)),
      λ e.
          let t : f.result ≡ true = and_left f.result _ e in
          λ i. record { core = (f.ensures.1 t ∙ sym (core_shown k.core k.uses)) i; uses = sym (shown_uses k) i },
    )
