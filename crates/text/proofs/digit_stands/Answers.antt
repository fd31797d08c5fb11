-- Past the end of a text no digit stands. Assumes nothing.
use Rattle.std.proofs.Common.{◌∙◌, sym, get_or}
use borrow.Author.Tests.{le-ltb}
use Rattle.text.proofs.Digits.{past_digits, ascii_digit}
use Rattle.text.proofs.digit_stands.Goals as goal

pub returns-then-at-text : goal.returns-then-at-text
returns-then-at-text c = record { answer = c.is_ascii_digit.ensures.value ∙ ascii_digit (get_or c.args.text.now c.args.at 0) }

pub returns-else-at-text : goal.returns-else-at-text
returns-else-at-text c = record { answer = le-ltb _ _ c.if-at-text.false ∙ sym (past_digits c.args.text.now c.args.at c.if-at-text.false) }
