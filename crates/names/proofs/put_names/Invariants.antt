-- What is written, and the text of the names that are left, are the whole text. Assumes nothing.
use Rattle.sheets.proofs.Memory.{PuttingNames}
use Rattle.names.proofs.put_names.Given as goal

abbrev pub invariant-loop-k : goal.invariant-loop-k
invariant-loop-k l = PuttingNames l.names l.lengths l.initial.text l.text l.start l.k l.at
