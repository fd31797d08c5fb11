-- The walk has reached power k, and each power before it is noted once. Of n + 1 powers two are equal, which bounds the walk.
use Rattle.std.proofs.Common.{◌+◌, ◌-◌}
use Rattle.products.specs.Tables.{times_of}
use Rattle.invariants.proofs.Powers.{Walked}
use Rattle.invariants.proofs.index_period_of.Given as goal

abbrev pub invariant-loop-met : goal.invariant-loop-met
invariant-loop-met l = Walked l.table.order (times_of l.table) l.a l.met l.walk l.power l.k

abbrev pub decreases-loop-met : goal.decreases-loop-met
decreases-loop-met l = l.table.order + 1 - l.k
