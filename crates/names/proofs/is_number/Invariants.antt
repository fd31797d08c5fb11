-- The digits so far make v, and those that are left decide. Assumes nothing.
use Rattle.sheets.proofs.Numbers.{Counting}
use Rattle.names.proofs.is_number.Given as goal

abbrev pub invariant-loop-b : goal.invariant-loop-b
invariant-loop-b l = Counting l.bytes l.b-index l.v
