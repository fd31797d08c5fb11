use Rattle.std.proofs.Common.{arith}
use Rattle.lines.proofs.Records.{line_short}
use Rattle.output.specs.Records.{first_record}
use Rattle.output.proofs.put_first.Goals as goal

pub put_record-requires-clause-room : goal.put_record-requires-clause-room
put_record-requires-clause-room c = omega (arith, line_short c.args.word.now c.args.a c.args.b)

pub returns : goal.returns
unfolding first_record
returns c = let put = c.put_record.ensures in record { answer = omega (arith, put.answer); out = put.out }
