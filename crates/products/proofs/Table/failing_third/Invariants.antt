-- What is left to find begins at the number that the turn looks at first. Assumes nothing.
use Rattle.std.proofs.Common.{◌≡◌, not, ◌*◌, ◌+◌}
use Rattle.semigroups.specs.Lists.{elements, find}
use Rattle.semigroups.specs.Tables.{associates}
use Rattle.products.specs.Tables.{times_of}
use Rattle.products.proofs.Triples.{failing_from}
use Rattle.products.proofs.Table.failing_third.Given as goal

abbrev pub invariant-loop-half : goal.invariant-loop-half
invariant-loop-half l =
    find (λ k. not (associates (times_of l.self) l.i l.j k)) (elements l.self.order) ≡ failing_from (times_of l.self) l.self.order l.i l.j (2 * l.half + 1)
