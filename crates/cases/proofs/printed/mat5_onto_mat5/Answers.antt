-- `mat5_onto_mat5` meets its contract: each call agrees with what RULES 23.2 prints. Assumes nothing.
use Rattle.cases.proofs.Told.{case_12}
use mathlib.Core.Path.{◌∙◌}
use Rattle.cases.proofs.printed.mat5_onto_mat5.Goals as goal

pub returns : goal.returns
returns c = record { answer = c.first_two.ensures.answer ∙ case_12 _ }
