-- The first "no" of all names is the first of those left, and so is the length of their text. Assumes nothing.
use Rattle.sheets.proofs.Memory.{JudgingNames}
use Rattle.names.proofs.judge_names.Given as goal

abbrev pub invariant-loop-k : goal.invariant-loop-k
invariant-loop-k l = JudgingNames l.names l.lengths l.start l.k l.total
