use Rattle.std.proofs.Common.{arith}
use Rattle.classification.proofs.Text.{class_more, class_written}
use Rattle.classification.proofs.put_class.Goals as goal

pub put_fields-place-requires-clause-room : goal.put_fields-place-requires-clause-room
put_fields-place-requires-clause-room c = omega (arith, class_more c.args.k c.args.order c.args.lowest)

pub put_field-place-requires-clause-room : goal.put_field-place-requires-clause-room
put_field-place-requires-clause-room c = omega (arith, class_more c.args.k c.args.order c.args.lowest)

pub put_break-requires : goal.put_break-requires
put_break-requires c = omega (arith, class_more c.args.k c.args.order c.args.lowest)

pub returns : goal.returns
returns c =
    let line-end = c.put_break.ensures in
    let field = c.put_field-place.ensures in
    let fields = c.put_fields-place.ensures in
    let z = c.args in
    let w = class_written _ _ z.k z.order z.lowest fields.answer fields.out field.answer field.out line-end.answer line-end.out in
    record { answer = w.0; out = w.1 }
