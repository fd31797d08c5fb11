use Rattle.std.proofs.Common.{arith}
use Rattle.classification.proofs.Text.{notes_begun, notes_room, notes_next, notes_done}
use Rattle.classification.proofs.put_notes.Goals as goal

pub loop-k-init : goal.loop-k-init
loop-k-init c = let s = c.args.classifier.now in notes_begun s.orders s.numbers s.count c.args.out.now

pub put_note-at-requires-clause-room : goal.put_note-at-requires-clause-room
put_note-at-requires-clause-room c = let s = c.args.classifier.now in notes_room s.orders s.numbers s.count (omega arith) c.requires.room c.loop-k.invariant

pub loop-k-preserved : goal.loop-k-preserved
loop-k-preserved c = notes_next _ _ _ (omega arith) c.loop-k.invariant c.put_note-at.ensures.answer c.put_note-at.ensures.out

pub returns : goal.returns
returns c = notes_done _ _ _ (omega arith) c.loop-k.invariant
