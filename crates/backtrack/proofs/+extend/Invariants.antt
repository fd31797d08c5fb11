-- The measure of `extend` is how many elements are left to place. The loop's invariant: the result of the call is the result of the work that is left from x
-- on, within the trials that are left. Assumes nothing.
use Rattle.std.proofs.Common.{◌≡◌, ◌-◌}
use Rattle.backtrack.specs.InnerState.{within, ahead}
use Rattle.backtrack.proofs.Steps.{lowest}
use Rattle.backtrack.proofs.Extending.{Rest}
use Rattle.backtrack.proofs.+extend.Given as goal

abbrev pub decreases-extend : goal.decreases-extend
decreases-extend l = l.search.now.source.now.order - l.p.len

abbrev pub invariant-loop-x : goal.invariant-loop-x
invariant-loop-x l = record {
  bound : l.low ≡ lowest l.tight l.search.after.now l.p.len;
  so_far : within l.limit (ahead l.search l.tight l.p) ≡ within l.left (Rest l.search l.tight l.p l.x);
}
