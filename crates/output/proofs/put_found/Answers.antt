-- `put_found` writes the first record and then the pairs. Assumes nothing.
use native.Mathlib.Omega.{arith}
use lib.ListN.{length}
use Rattle.output.specs.Records.{found_word}
use Rattle.output.proofs.Records.{first_short, found_short, found_written}
use Rattle.output.proofs.put_found.Goals as goal

pub put_pairs-requires-clause-room : goal.put_pairs-requires-clause-room
put_pairs-requires-clause-room c =
    omega (arith, c.requires.small.0, c.requires.room, c.put_first-at.ensures.answer, c.put_first-at.auto.out, first_short found_word (length c.args.map.now) c.args.n)

pub returns : goal.returns
returns c =
    let head = c.put_first-at.ensures in
    let pairs = c.put_pairs.ensures in
    let w = found_written _ _ _ _ (omega (arith, c.requires.room, found_short (length c.args.map.now) c.args.n c.args.map.now c.requires.small.0)) head.answer head.out pairs.answer pairs.out in
    record { answer = w.0; out = w.1 }
