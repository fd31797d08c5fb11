-- `put_decimal` writes the digits before the last, and then the last. Assumes nothing.
use native.Mathlib.Omega.{arith}
use mathlib.Core.Path.{ap}
use lib.ListN.{length}
use Rattle.judging.proofs.Digits.{one_digit, digits_written, digits_length}
use Rattle.judging.proofs.tally.+put_decimal.Goals as goal

pub bounds-out-at : goal.bounds-out-at
bounds-out-at t c = omega (arith, c.requires.room, ap length (one_digit c.args.k c.if-k-lt10.true))

pub returns-then-k-lt10-clause-answer : goal.returns-then-k-lt10-clause-answer
returns-then-k-lt10-clause-answer t c = rw (one_digit c.args.k c.if-k-lt10.true)

pub returns-then-k-lt10-clause-out : goal.returns-then-k-lt10-clause-out
returns-then-k-lt10-clause-out t c = rw (one_digit c.args.k c.if-k-lt10.true)

pub put_decimal-place-requires : goal.put_decimal-place-requires
put_decimal-place-requires t c = (omega arith, omega (arith, digits_length c.args.k (omega arith) (omega arith)))

pub bounds-out-place : goal.bounds-out-place
bounds-out-place t c =
    let wrote = c.put_decimal-place in
    omega (arith, digits_length c.args.k (omega arith) (omega arith), wrote.ensures.answer, wrote.auto.out)

pub overflow_add-result-2 : goal.overflow_add-result-2
overflow_add-result-2 t c =
    let wrote = c.put_decimal-place in
    omega (arith, digits_length c.args.k (omega arith) (omega arith), wrote.ensures.answer)

pub returns-clause-answer : goal.returns-clause-answer
returns-clause-answer t c =
    let wrote = c.put_decimal-place.ensures in
    (digits_written _ c.args.at c.args.k (omega arith) (omega arith) wrote.answer wrote.out).0

pub returns-clause-out : goal.returns-clause-out
returns-clause-out t c =
    let wrote = c.put_decimal-place.ensures in
    (digits_written _ c.args.at c.args.k (omega arith) (omega arith) wrote.answer wrote.out).1
