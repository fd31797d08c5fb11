-- `swap_in_two` meets its contract: each call agrees with what RULES 23.2 prints. Assumes nothing.
use Rattle.cases.proofs.Told.{case_6}
use mathlib.Core.Path.{◌∙◌}
use Rattle.cases.proofs.printed.swap_in_two.Goals as goal

pub returns : goal.returns
returns c = record { answer = c.first_two.ensures.answer ∙ case_6 _ }
