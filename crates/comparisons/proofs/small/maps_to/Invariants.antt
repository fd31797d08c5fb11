-- The invariant: the calls to the first k tables were compared and agree.
use Rattle.std.proofs.Common.{◌≡◌}
use Rattle.judging.specs.InnerTally.{agreed}
use Rattle.comparisons.specs.InnerWalking.{calls_to}
use Rattle.comparisons.proofs.small.maps_to.Given as goal

abbrev pub invariant-loop-k : goal.invariant-loop-k
invariant-loop-k l = l.tally ≡ agreed (calls_to l.source l.m l.n l.k) l.initial.tally
