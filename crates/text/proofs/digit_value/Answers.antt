-- A digit stands within the text, and is not below 48. Assumes nothing.
use Rattle.std.proofs.Common.{get_or}
use Rattle.rfc4180.proofs.Rows.{digit_range}
use Rattle.text.proofs.Digits.{digit_inside}
use Rattle.text.proofs.digit_value.Goals as goal

pub bounds-text-at : goal.bounds-text-at
bounds-text-at c = digit_inside c.args.text.now c.args.at c.requires.digit

pub overflow_sub-text : goal.overflow_sub-text
overflow_sub-text c = (digit_range (get_or c.args.text.now c.args.at 0) c.requires.digit).0
