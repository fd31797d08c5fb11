-- No embedding among the rows is lost, and the rows are narrowed by each row that was used. The measure is how many rows were not used.
use Rattle.products.specs.Tables.{times_of}
use Rattle.propagation.proofs.Lone.{unused, Propagating}
use Rattle.propagation.proofs.propagate.Given as goal

abbrev pub invariant-loop-l : goal.invariant-loop-l
invariant-loop-l l = Propagating l.source.order (times_of l.source) l.target.order (times_of l.target) l.fn.rows l.rows l.used

abbrev pub decreases-loop-l : goal.decreases-loop-l
decreases-loop-l l = unused l.source.order l.used
