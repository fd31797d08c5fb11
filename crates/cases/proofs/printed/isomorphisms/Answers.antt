-- `isomorphisms` meets its contract: each case agrees with what RULES 23.2 prints. Assumes nothing.
use mathlib.Core.Path.{ap, ◌∙◌}
use Rattle.judging.specs.InnerTally.{agreed}
use Rattle.cases.proofs.printed.isomorphisms.Goals as goal

pub returns : goal.returns
unfolding agreed
returns c =
    let e1 = c.two_onto_two.ensures.answer ∙ ap (agreed 4) c.start.ensures.answer in
    let e2 = c.null3_onto_null3.ensures.answer ∙ ap (agreed 6) e1 in
    record { answer = c.mat5_onto_mat5.ensures.answer ∙ ap (agreed 4) e2 }
