-- Each call agrees with what RULES 23.2 prints.
use Rattle.std.proofs.Common.{ap, ◌∙◌}
use Rattle.judging.specs.InnerTally.{agreed}
use Rattle.cases.proofs.Told.{case_11, last_11}
use Rattle.cases.proofs.printed.null3_onto_null3.Goals as goal

pub returns : goal.returns
unfolding agreed
returns c = record { answer = c.told.ensures.answer ∙ last_11 _ ∙ ap (agreed 2) (c.first_two-a.ensures.answer ∙ case_11 _) }
