-- No file below i names a class of that order above j.
use Rattle.progress.specs.Held.{notes_in}
use Rattle.classification.proofs.NextClass.{NoneBelow}
use Rattle.classification.proofs.next_class.Given as goal

abbrev pub invariant-loop-i : goal.invariant-loop-i
invariant-loop-i l = NoneBelow (notes_in l.classifier) l.n l.j l.i
