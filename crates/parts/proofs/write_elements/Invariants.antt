-- The marked elements before x stand in the buffer, and those from x on are left.
use Rattle.parts.proofs.Parts.{AtElement}
use Rattle.parts.proofs.write_elements.Given as goal

abbrev pub invariant-loop-x : goal.invariant-loop-x
invariant-loop-x l = AtElement l.n l.marks l.initial.elements l.x l.place l.elements
