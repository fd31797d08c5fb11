use Rattle.std.proofs.Common.{◌≡◌}
use Rattle.products.specs.InnerCounting.{occurrences}
use Rattle.products.specs.InnerPerElement.{per_element}
use Rattle.products.proofs.Table.tally.Given as goal

abbrev pub invariant-loop-i : goal.invariant-loop-i
invariant-loop-i l = l.found ≡ per_element l.self.order (λ a. occurrences a l.step l.i l.self.cells.now)
