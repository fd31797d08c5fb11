use Rattle.std.proofs.Common.{arith}
use Rattle.output.proofs.Records.{pair_length, pair_written}
use Rattle.output.proofs.put_pair.Goals as goal

pub put_number-place-requires-clause-room : goal.put_number-place-requires-clause-room
put_number-place-requires-clause-room c = omega (arith, pair_length c.args.i c.args.image)

pub put_field-place-requires-clause-room : goal.put_field-place-requires-clause-room
put_field-place-requires-clause-room c = omega (arith, pair_length c.args.i c.args.image, c.put_number-place.ensures.answer, c.put_number-place.auto.out)

pub put_break-requires : goal.put_break-requires
put_break-requires c =
    let field = c.put_field-place in
    let number = c.put_number-place in
    record { room = omega (arith, pair_length c.args.i c.args.image, number.ensures.answer, number.auto.out, field.ensures.answer, field.auto.out) }

pub returns : goal.returns
returns c =
    let end = c.put_break.ensures in
    let field = c.put_field-place.ensures in
    let number = c.put_number-place.ensures in
    let w = pair_written _ _ _ _ number.answer number.out field.answer field.out end.answer end.out in
    record { answer = w.0; out = w.1 }
