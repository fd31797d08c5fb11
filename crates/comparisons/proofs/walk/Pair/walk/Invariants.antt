-- The invariant: the calls counted so far and those that are left make up the whole. The measure is how many maps are left.
use Rattle.std.proofs.Common.{◌≡◌, suc, length}
use Rattle.plain.specs.InnerTables.{kind_of}
use Rattle.judging.specs.InnerTally.{agreed}
use Rattle.comparisons.specs.InnerWalking.{later_maps}
use Rattle.comparisons.proofs.walk.Pair.walk.Given as goal

abbrev pub invariant-loop-tally : goal.invariant-loop-tally
invariant-loop-tally l =
    record {
      whole : agreed (suc (later_maps (kind_of l.kind) l.self.source.now l.self.m l.self.target.now l.self.n l.buffer)) l.tally
          ≡ agreed (suc (later_maps (kind_of l.kind) l.self.source.now l.self.m l.self.target.now l.self.n l.initial.buffer)) l.initial.tally;
      long : length l.buffer ≡ 5;
    }

abbrev pub decreases-loop-tally : goal.decreases-loop-tally
decreases-loop-tally l = later_maps (kind_of l.kind) l.self.source.now l.self.m l.self.target.now l.self.n l.buffer
