-- The number of bytes that the chain counts is that of the digits. Assumes nothing.
use Rattle.std.proofs.Common.{◌≡◌, ◌∙◌, ap, ◌+◌, ℕ, drop, rules}
use Rattle.std.specs.Char.{is_ascii_digit}
use Rattle.std.proofs.lemmas.List.{take_rest}
use Rattle.std.proofs.lemmas.Iterator.{YieldsList-from_slice}
use Rattle.std.proofs.lemmas.Iterator.Search.{YieldsList-from_take_while}
use Rattle.std.proofs.lemmas.Iterator.Consumers.{count_from_yields_List}
use Rattle.text.proofs.Digits.{digits_counted}
use Rattle.text.proofs.digits_end.Goals as goal

rest : (c : goal.After-count) → c.take_while.result.iter.rest.now ≡ drop c.args.at c.args.text.now
rest c = let r = take_rest c.args.text.now c.args.at in cc

pub returns : goal.returns
returns c = record {
  answer =
      ap (λ (k : ℕ). c.args.at + k)
      (count_from_yields_List _ c.count.result c.count.ensures.ran
      (YieldsList-from_take_while _ is_ascii_digit (YieldsList-from_slice (drop c.args.at c.args.text.now) (rest c)) (search rules) (search rules) (λ x b q k. search rules))
      ∙ digits_counted (drop c.args.at c.args.text.now));
}
