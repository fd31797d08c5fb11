-- What is counted, with the length of what is left when its quote marks are doubled. Assumes nothing.
use Rattle.std.proofs.Common.{◌≡◌, ◌+◌, length, drop}
use Rattle.sheets.specs.Names.{doubled}
use Rattle.names.proofs.name_length.Given as goal

abbrev pub invariant-loop-b : goal.invariant-loop-b
invariant-loop-b l = l.total + length (doubled (drop l.b-index l.name)) + l.b-index ≡ 2 + length l.name + length (doubled l.name)
