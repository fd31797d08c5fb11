-- The library says what the definition says, and agrees with the second search.
use Rattle.std.proofs.Common.{◌∙◌, ap, true}
use Rattle.plain.specs.InnerSaid.{said_of}
use Rattle.judging.specs.InnerSaid.{same_said}
use Rattle.judging.specs.InnerTally.{counted}
use Rattle.judging.proofs.judged.judged.Goals as goal

pub returns : goal.returns
returns c =
    let a = c.args in
    let same = c.eq.ensures ∙ ap (λ r. same_said r a.said) (c.said_of.ensures.answer ∙ ap said_of c.check.ensures.answer) in
    record { answer = c.compared.ensures.same ∙ ap (λ t. counted t true) (c.counted-answered.ensures.answer ∙ ap (counted a.tally) same) }
