-- The buffer holds the numbers of the fields read so far, and they and those of the fields that are left are the cells. Assumes nothing.
use Rattle.std.proofs.Common.{true, length, ◌+◌, ◌-◌}
use Rattle.rfc4180.proofs.Filling.{Filling}
use Rattle.text.proofs.fill.Given as goal

abbrev pub invariant-loop-next : goal.invariant-loop-next
invariant-loop-next l = Filling l.text l.fn.cells l.cells l.at l.k true

abbrev pub decreases-loop-next : goal.decreases-loop-next
decreases-loop-next l = length l.text + 1 - l.at
