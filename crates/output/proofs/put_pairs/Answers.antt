use Rattle.std.proofs.Common.{arith, length}
use Rattle.rfc4180.proofs.Writing.{write_room, write_last}
use Rattle.output.proofs.Records.{pairs_begun, pairs_short, pairs_more, pairs_end, pair_room}
use Rattle.output.proofs.put_pairs.Goals as goal

pub loop-i-init : goal.loop-i-init
loop-i-init c = pairs_begun _ _ _ _

pub put_pair-at-requires-clause-room : goal.put_pair-at-requires-clause-room
put_pair-at-requires-clause-room c =
    let map = c.args.map.now in
    pair_room _ _ _ _ _ (omega arith) (write_room c.loop-i.invariant (omega (arith, pairs_short (length map) map)))

pub loop-i-preserved : goal.loop-i-preserved
loop-i-preserved c = pairs_more _ _ _ (omega arith) c.loop-i.invariant c.put_pair-at.ensures.out c.put_pair-at.ensures.answer

pub returns : goal.returns
returns c =
    let all = write_last c.loop-i.invariant (pairs_end _ _ _ (omega arith)) in
    record { answer = all.1; out = all.0 }
