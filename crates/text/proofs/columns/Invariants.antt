-- The order is n and the number of fields that are left of the first record, of which there is one. Assumes nothing.
use Rattle.std.proofs.Common.{true, length, ◌+◌, ◌-◌}
use Rattle.rfc4180.proofs.Judging.{Counting}
use Rattle.text.proofs.columns.Given as goal

abbrev pub invariant-loop-field : goal.invariant-loop-field
invariant-loop-field l = Counting l.text l.n l.at true

abbrev pub decreases-loop-field : goal.decreases-loop-field
decreases-loop-field l = length l.text + 1 - l.at
