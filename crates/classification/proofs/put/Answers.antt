use Rattle.std.proofs.Common.{arith}
use Rattle.progress.specs.Held.{notes_in}
use Rattle.progress.proofs.Wanted.{length_from}
use Rattle.classification.proofs.Text.{notes_short, text_written}
use Rattle.classification.proofs.put.Goals as goal

pub put_totals-requires-clause-room : goal.put_totals-requires-clause-room
put_totals-requires-clause-room c =
    let s = c.args.classifier in
    omega (arith, c.put_notes-at.ensures.answer, c.put_notes-at.auto.out, notes_short (notes_in s), length_from s.orders s.numbers s.count)

pub returns : goal.returns
returns c =
    let s = c.args.classifier in
    let n = c.put_notes-at.ensures in
    let t = c.put_totals.ensures in
    let w = text_written (notes_in s) c.args.out.now (omega (arith, length_from s.orders s.numbers s.count)) n.answer n.out t.answer t.out in
    record { answer = w.0; out = w.1 }
