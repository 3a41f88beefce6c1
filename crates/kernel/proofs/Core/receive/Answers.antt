use Rattle.std.proofs.Common.{sym, ◌∙◌, arith}
use Rattle.rules.proofs.TableWithin.{queue_within}
use Rattle.rules.proofs.SoundTables.{ring_of}
use Rattle.kernel.specs.Stands.{shown_core}
use Rattle.kernel.proofs.Core.receive.Goals as goal

pub receive_from-requires : goal.receive_from-requires
receive_from-requires c =
    let k = shown_core c.args.self.now in
    let e = sym (c.kind.ensures k c.requires.stands) ∙ c.in-Queue.is in
    let w = queue_within k.objects c.args.o _ e in
    (omega (arith, w, c.requires.sound.tables.object_slots), ring_of _ (c.requires.sound.tables.ranges c.args.o) e, c.requires)
