use Rattle.products.specs.Tables.{times_of}
use Rattle.choosing.proofs.Next.{EachBefore, IsCost}
use Rattle.choosing.proofs.costs.Given as goal

abbrev pub invariant-loop-c : goal.invariant-loop-c
invariant-loop-c l = EachBefore (IsCost l.source.order (times_of l.source)) l.c l.found
