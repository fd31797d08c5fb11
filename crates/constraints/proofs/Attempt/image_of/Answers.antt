use Rattle.std.proofs.Common.{arith}
use Rattle.semigroups.specs.Lists.{at}
use Rattle.constraints.proofs.Placing.{image_before, image_next}
use Rattle.constraints.proofs.Attempt.image_of.Goals as goal

pub returns-then-a-self-clause-answer : goal.returns-then-a-self-clause-answer
returns-then-a-self-clause-answer c = let s = c.args.self.now in image_before s.image.now s.len s.x (omega arith) c.args.a (omega arith)

pub returns-then-a-self-clause-element : goal.returns-then-a-self-clause-element
unfolding at
returns-then-a-self-clause-element c = c.args.self.now.trial.placed c.args.a (omega arith)

pub returns-clause-answer : goal.returns-clause-answer
returns-clause-answer c = let s = c.args.self.now in image_next s.image.now s.len s.x (omega arith) c.args.a (omega arith)
