use Rattle.std.proofs.Common.{rules}
use Rattle.semigroups.specs.Lists.{at}
use Rattle.candidates.specs.InnerKeys.{same_key}
use Rattle.candidates.proofs.fill_equal.Goals as goal

pub returns : goal.returns
unfolding same_key at
returns c = record { scratch = c.write_marks.ensures.marks (same_key c.args.source.now c.args.target.now) (λ i j r hi hj e. search rules) }
