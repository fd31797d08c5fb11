use Rattle.std.proofs.Common.{arith}
use Rattle.constraints.proofs.Placing.{newest_trial, newest_fresh}
use Rattle.placing.proofs.Partial.test.Goals as goal

pub invariant_of-newest : goal.invariant_of-newest
invariant_of-newest c = let h = c.requires in record { trial = newest_trial _ _ _ _ h.placing h.some.0; room = omega arith }

pub passes_with-requires-clause-fresh : goal.passes_with-requires-clause-fresh
passes_with-requires-clause-fresh c = let h = c.requires in newest_fresh _ _ _ _ h.placing h.some.0
