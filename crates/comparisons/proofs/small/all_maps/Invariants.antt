-- The invariant: the calls from the first k tables were compared and agree.
use Rattle.std.proofs.Common.{◌≡◌}
use Rattle.judging.specs.InnerTally.{empty, agreed}
use Rattle.comparisons.specs.InnerWalking.{calls_from}
use Rattle.comparisons.proofs.small.all_maps.Given as goal

abbrev pub invariant-loop-k : goal.invariant-loop-k
invariant-loop-k l = l.tally ≡ agreed (calls_from l.m l.n l.k) empty
