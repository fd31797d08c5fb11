-- The first "no" of all records is the first of those that are left. Assumes nothing.
use Rattle.std.proofs.Common.{◌+◌, ◌-◌, length, ltb}
use Rattle.sheets.specs.Grammar.{IsSheet}
use Rattle.sheets.proofs.Records.{Judging}
use Rattle.names.proofs.judge_records.Given as goal

abbrev pub invariant-loop-at : goal.invariant-loop-at
invariant-loop-at l = (p : IsSheet l.text) → Judging l.text p l.at (l.count + 1) l.total (ltb l.at (length l.text))

abbrev pub decreases-loop-at : goal.decreases-loop-at
decreases-loop-at l = length l.text - l.at
