-- The fields and the shape that are left from the field at `at` on tell the answers. Assumes nothing.
use Rattle.std.proofs.Common.{true, length, ◌+◌, ◌-◌}
use Rattle.rfc4180.proofs.Judging.{Judging}
use Rattle.text.proofs.judge_fields.Given as goal

abbrev pub invariant-loop-column : goal.invariant-loop-column
invariant-loop-column l = Judging l.text l.n l.at l.row l.column l.square true

abbrev pub decreases-loop-column : goal.decreases-loop-column
decreases-loop-column l = length l.text + 1 - l.at
