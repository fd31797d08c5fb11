use Rattle.classification.proofs.Steps.{room_new, sound_again}
use Rattle.classification.proofs.step.Goals as goal

pub begun-requires : goal.begun-requires
begun-requires c = (room_new c.args.classifier c.args.cells.now c.in-Read.is c.requires.wanted, c.requires.room)

pub compared-requires : goal.compared-requires
compared-requires c =
    let q = sound_again c.args.classifier c.args.cells.now c.in-Compare.is c.requires.sound in
    (q.0, q.2.1, c.requires.room, q.1)

pub onward-requires : goal.onward-requires
onward-requires c =
    let q = sound_again c.args.classifier c.args.cells.now c.in-Compare.is c.requires.sound in
    let o = q.1.filled.order in
    (q.0, o.0, o.1, q.2.1)
