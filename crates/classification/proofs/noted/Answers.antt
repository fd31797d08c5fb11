use Rattle.std.proofs.Common.{ap, arith, List}
use Rattle.progress.specs.Classes.{Note}
use Rattle.progress.specs.Progress.{reading, Progress, progress}
use Rattle.classification.proofs.Held.{notes_more}
use Rattle.classification.proofs.noted.Goals as goal

pub returns-clause-answer : goal.returns-clause-answer
returns-clause-answer c =
    let z = c.args.classifier in
    λ cells. ap {B = Progress} (λ (x : List Note). progress x reading) (notes_more z.orders z.numbers z.count c.args.order c.args.number (omega arith) (omega arith))
