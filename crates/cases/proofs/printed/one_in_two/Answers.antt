-- `one_in_two` meets its contract: each call agrees with what RULES 23.2 prints. Assumes nothing.
use mathlib.Core.Path.{ap, ◌∙◌}
use Rattle.judging.specs.InnerTally.{agreed}
use Rattle.cases.proofs.Told.{case_9, last_9}
use Rattle.cases.proofs.printed.one_in_two.Goals as goal

pub returns : goal.returns
unfolding agreed
returns c = record { answer = c.told.ensures.answer ∙ last_9 _ ∙ ap (agreed 2) (c.first_two-a.ensures.answer ∙ case_9 _) }
