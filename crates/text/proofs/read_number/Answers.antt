-- The number of one to three digits. Assumes nothing.
use Rattle.std.proofs.Common.{◌+◌, ◌≤◌, arith}
use Rattle.rfc4180.proofs.Fields.{digit_here}
use Rattle.text.proofs.Digits.{digits_from, number_of_one, number_of_two, number_of_three, second_left, third_left}
use Rattle.text.proofs.read_number.Goals as goal

-- Past the first test there are two digits, past the second three.
second : (c : goal.Else-end-at-lt2) → 1 ≤ digits_from c.args.text.now (c.args.at + 1)
second c = second_left c.args.text.now c.args.at c.requires.some (omega arith)

third : (c : goal.Else-end-at-lt3) → 1 ≤ digits_from c.args.text.now (c.args.at + 2)
third c = omega (arith, third_left c.args.text.now c.args.at c.requires.some (omega arith))

pub digit_value-one-requires : goal.digit_value-one-requires
digit_value-one-requires c = record { digit = (digit_here c.args.text.now c.args.at c.requires.some).1 }

pub returns-then-end-at-lt2 : goal.returns-then-end-at-lt2
returns-then-end-at-lt2 c = record { answer = number_of_one c.args.text.now c.args.at c.requires.some c.digit_value-one.ensures.answer (omega arith) }

pub digit_value-requires : goal.digit_value-requires
digit_value-requires c = record { digit = (digit_here c.args.text.now (c.args.at + 1) (second c)).1 }

pub returns-then-end-at-lt3 : goal.returns-then-end-at-lt3
returns-then-end-at-lt3 c = record {
  answer = number_of_two c.args.text.now c.args.at c.requires.some c.digit_value-one.ensures.answer c.digit_value.ensures.answer (omega arith) (omega arith);
}

pub digit_value-requires-2 : goal.digit_value-requires-2
digit_value-requires-2 c = record { digit = (digit_here c.args.text.now (c.args.at + 2) (third c)).1 }

pub returns : goal.returns
returns c = record {
  answer =
      number_of_three c.args.text.now c.args.at c.requires.some c.digit_value-one.ensures.answer c.digit_value.ensures.answer (omega arith)
      c.digit_value-2.ensures.answer (omega arith);
}
