-- The library and the second search both say what the definition says.
use Rattle.std.proofs.Common.{◌∙◌, sym, ap}
use Rattle.plain.specs.InnerSaid.{said_of}
use Rattle.judging.specs.InnerSaid.{same_said}
use Rattle.judging.specs.InnerTally.{counted}
use Rattle.judging.proofs.Agreement.{same_said_itself}
use Rattle.judging.proofs.judged.compared.Goals as goal

pub returns : goal.returns
returns c =
    let agree = c.said_of.ensures.answer ∙ ap said_of c.check.ensures.answer ∙ sym c.judge.ensures.answer in
    let same = c.eq.ensures ∙ ap (λ r. same_said r c.judge.result) agree ∙ same_said_itself c.judge.result in
    record { same = c.counted.ensures.answer ∙ ap (counted c.args.tally) same }
