-- The marks so far are worth the byte, and the pair of the next is in hand.
use Rattle.candidates.proofs.Marks.{Gathered}
use Rattle.candidates.proofs.marks_byte.Given as goal

abbrev pub invariant-loop-r : goal.invariant-loop-r
invariant-loop-r g l = Gathered l.m l.n (goal.F-post g l.passes) l.place l.pair.i l.pair.j l.byte l.r
