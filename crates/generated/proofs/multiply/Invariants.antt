-- The products with the first i elements found are added.
use Rattle.std.proofs.Common.{◌≡◌}
use Rattle.products.specs.Tables.{times_of}
use Rattle.generated.proofs.Found.{multiplied_to}
use Rattle.generated.proofs.multiply.Given as goal

abbrev pub invariant-loop-i : goal.invariant-loop-i
invariant-loop-i l = l.found ≡ multiplied_to (times_of l.table) l.initial.found l.x l.i
