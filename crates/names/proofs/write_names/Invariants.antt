-- What is written, and what the records left give, are all names and all lengths. Assumes nothing.
use Rattle.std.proofs.Common.{◌-◌, length, ltb}
use Rattle.sheets.specs.Grammar.{IsSheet}
use Rattle.sheets.proofs.Records.{Filling}
use Rattle.names.proofs.write_names.Given as goal

abbrev pub invariant-loop-at : goal.invariant-loop-at
invariant-loop-at l = (p : IsSheet l.text) → Filling l.text p l.initial.names l.initial.lengths l.names l.lengths l.at l.start l.k (ltb l.at (length l.text))

abbrev pub decreases-loop-at : goal.decreases-loop-at
decreases-loop-at l = length l.text - l.at
