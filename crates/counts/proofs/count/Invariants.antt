-- What is found is how often the number occurs among the cells so far. Assumes nothing.
use Rattle.std.proofs.Common.{◌≡◌}
use Rattle.products.specs.InnerCounting.{occurrences}
use Rattle.counts.proofs.count.Given as goal

abbrev pub invariant-loop-i : goal.invariant-loop-i
invariant-loop-i l = l.found ≡ occurrences l.a l.step l.i l.cells
