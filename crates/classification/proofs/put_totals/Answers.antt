use Rattle.std.proofs.Common.{arith}
use Rattle.classification.proofs.Text.{totals_begun, totals_room, totals_next, totals_done}
use Rattle.classification.proofs.put_totals.Goals as goal

pub loop-a-init : goal.loop-a-init
loop-a-init c = let s = c.args.classifier.now in totals_begun s.orders s.numbers s.count c.args.out.now c.args.start

pub put_total-at-requires-clause-room : goal.put_total-at-requires-clause-room
put_total-at-requires-clause-room c = let s = c.args.classifier.now in totals_room s.orders s.numbers s.count (omega arith) c.requires.room c.loop-a.invariant

pub loop-a-preserved : goal.loop-a-preserved
loop-a-preserved c = totals_next _ _ _ (omega arith) c.loop-a.invariant c.put_total-at.ensures.answer c.put_total-at.ensures.out

pub returns : goal.returns
returns c = totals_done _ _ _ (omega arith) c.loop-a.invariant
