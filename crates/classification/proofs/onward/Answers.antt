use Rattle.std.proofs.Common.{arith, ◌∙◌}
use Rattle.progress.specs.Held.{notes_in}
use Rattle.progress.proofs.Wanted.{length_from}
use Rattle.classification.proofs.Steps.{onward_class, onward_own}
use Rattle.classification.proofs.onward.Goals as goal

pub returns-in-Some-clause-answer : goal.returns-in-Some-clause-answer
returns-in-Some-clause-answer c =
    let s = c.args.classifier in
    let l = length_from s.orders s.numbers s.count in
    let w = c.in-Some.ensures.within in
    λ cells. onward_class (notes_in s) c.args.n _ c.args.j c.in-Some.ensures.answer (omega arith)

pub returns-in-None-clause-answer : goal.returns-in-None-clause-answer
returns-in-None-clause-answer c =
    let s = c.args.classifier in
    let l = length_from s.orders s.numbers s.count in
    λ cells. c.noted.ensures.answer cells ∙ onward_own (notes_in s) c.args.n _ c.args.j c.requires.1 c.in-None.ensures.answer (omega arith)
