-- `embeddings` meets its contract: each call agrees with what RULES 23.2 prints. Assumes nothing.
use mathlib.Core.Path.{ap, ◌∙◌}
use Rattle.judging.specs.InnerTally.{agreed}
use Rattle.cases.proofs.Told.{case_8, case_13}
use Rattle.cases.proofs.printed.embeddings.Goals as goal

pub returns : goal.returns
unfolding agreed
returns c =
    let e1 = c.swap_in_two.ensures.answer ∙ ap (agreed 4) c.start.ensures.answer in
    let e2 = c.right_in_two.ensures.answer ∙ ap (agreed 6) e1 in
    let e3 = c.one_in_two-a.ensures.answer ∙ ap (agreed 6) e2 in
    let e4 = c.told-b.ensures.answer ∙ case_8 _ ∙ ap (agreed 2) e3 in
    record { answer = c.told.ensures.answer ∙ case_13 _ ∙ ap (agreed 2) e4 }
