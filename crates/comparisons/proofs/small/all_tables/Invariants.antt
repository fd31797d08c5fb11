-- The invariant: k tables were compared and agree.
use Rattle.std.proofs.Common.{◌≡◌}
use Rattle.judging.specs.InnerTally.{empty, agreed}
use Rattle.comparisons.proofs.small.all_tables.Given as goal

abbrev pub invariant-loop-k : goal.invariant-loop-k
invariant-loop-k l = l.tally ≡ agreed l.k empty
