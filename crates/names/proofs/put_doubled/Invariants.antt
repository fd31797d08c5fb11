-- What the bytes so far give is written. Assumes nothing.
use Rattle.std.proofs.Common.{drop}
use Rattle.rfc4180.proofs.Writing.{Writing}
use Rattle.sheets.specs.Names.{doubled}
use Rattle.names.proofs.put_doubled.Given as goal

abbrev pub invariant-loop-b : goal.invariant-loop-b
invariant-loop-b l = Writing l.initial.text l.start (doubled l.name) (doubled (drop l.b-index l.name)) l.text l.at
