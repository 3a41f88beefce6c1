use Rattle.std.proofs.Common.{sym, ◌∙◌, arith}
use Rattle.rules.proofs.TableWithin.{queue_within}
use Rattle.rules.proofs.SoundTables.{ring_of}
use Rattle.rules.proofs.RowPasses.{sized}
use Rattle.kernel.specs.Stands.{shown_core}
use Rattle.kernel.proofs.Core.send.Goals as goal

pub send_to-requires : goal.send_to-requires
send_to-requires c =
    let k = shown_core c.args.self.now in
    let e = sym (c.kind.ensures k c.requires.0.stands) ∙ c.in-Queue.is in
    let w = queue_within k.objects c.args.o _ e in
    (omega (arith, w, c.requires.0.sound.tables.object_slots), ring_of _ (c.requires.0.sound.tables.ranges c.args.o) e, c.requires.0, sized _ e c.requires.1)
