-- What is found is how many of the elements before b commute with a. Assumes nothing.
use Rattle.std.proofs.Common.{◌≡◌, ◌-◌}
use Rattle.std.specs.Prelude.{eqb}
use Rattle.semigroups.specs.Lists.{elements, count}
use Rattle.products.specs.Tables.{times_of}
use Rattle.counts.proofs.commuting.Given as goal

abbrev pub invariant-loop-b : goal.invariant-loop-b
invariant-loop-b l = l.found ≡ count (λ b. eqb (times_of l.table l.a b) (times_of l.table b l.a)) (elements (l.b - 1))
