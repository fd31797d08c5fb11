-- The bytes before the place are masked, and the others are as they were.
use Rattle.marking.proofs.Masks.{Masking}
use Rattle.marking.proofs.keep_pairs.Given as goal

abbrev pub invariant-loop-place : goal.invariant-loop-place
invariant-loop-place l = Masking l.size l.pairs l.fn.scratch l.place l.scratch
