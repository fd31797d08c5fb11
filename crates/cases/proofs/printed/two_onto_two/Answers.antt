-- `two_onto_two` meets its contract: each call agrees with what RULES 23.2 prints. Assumes nothing.
use Rattle.cases.proofs.Told.{case_10}
use mathlib.Core.Path.{◌∙◌}
use Rattle.cases.proofs.printed.two_onto_two.Goals as goal

pub returns : goal.returns
returns c = record { answer = c.first_two.ensures.answer ∙ case_10 _ }
