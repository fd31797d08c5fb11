-- The counts are those of the neighbours before b.
use Rattle.products.specs.Tables.{times_of}
use Rattle.neighbours.proofs.Sending.{Found}
use Rattle.neighbours.proofs.neighbours.Given as goal

abbrev pub invariant-loop-b : goal.invariant-loop-b
invariant-loop-b l = Found l.table.order (times_of l.table) l.c l.b l.found
