-- The measure of `extend` is how many elements are left to place. The loop's invariant: what is left of the search from x on is what the call must return.
-- Assumes nothing.
use Rattle.std.proofs.Common.{◌≡◌, ◌-◌}
use Rattle.backtrack.proofs.Steps.{lowest}
use Rattle.narrowing.specs.InnerState.{due}
use Rattle.twins.specs.InnerTwins.{shares_later}
use Rattle.narrowing.proofs.Extending.{Rest}
use Rattle.narrowing.proofs.+extend.Given as goal

abbrev pub decreases-extend : goal.decreases-extend
decreases-extend l = l.search.now.source.now.order - l.p.len

abbrev pub invariant-loop-x : goal.invariant-loop-x
invariant-loop-x l = record {
  bound : l.low ≡ lowest l.tight l.search.after.now l.p.len;
  left : due l.search (shares_later l.group) l.tight l.p ≡ Rest l.search (shares_later l.group) l.tight l.p l.x;
}
