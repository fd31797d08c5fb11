-- The pieces of the line are written one after the other.
use Rattle.std.proofs.Common.{arith, rules}
use Rattle.rfc4180.proofs.Decimals.{numeral_short}
use Rattle.judging.proofs.Digits.{line_written}
use Rattle.judging.proofs.tally.put_line.Goals as goal

pub put_decimal-at-requires : goal.put_decimal-at-requires
put_decimal-at-requires c = omega (arith, numeral_short 20 c.args.tally.agreeing)

pub put_bytes-at-requires-3 : goal.put_bytes-at-requires-3
put_bytes-at-requires-3 c = omega (arith, numeral_short 20 c.args.tally.agreeing)

pub put_decimal-at-requires-2 : goal.put_decimal-at-requires-2
put_decimal-at-requires-2 c = omega (arith, numeral_short 20 c.args.tally.agreeing, numeral_short 20 c.args.tally.differing)

pub put_bytes-requires : goal.put_bytes-requires
put_bytes-requires c = omega (arith, numeral_short 20 c.args.tally.agreeing, numeral_short 20 c.args.tally.differing)

pub returns : goal.returns
returns c =
    let one = c.put_bytes-at.ensures in
    let two = c.put_bytes-at-2.ensures in
    let three = c.put_decimal-at.ensures in
    let four = c.put_bytes-at-3.ensures in
    let five = c.put_decimal-at-2.ensures in
    let six = c.put_bytes.ensures in
    let line = line_written _ _ c.args.tally c.requires.short (search rules) one.answer one.out two.answer two.out three.answer three.out four.answer four.out five.answer five.out six.answer six.out in
    record { answer = line.0; out = line.1 }
