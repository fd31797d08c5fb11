-- The records before that of element i + 1 are written, and the others are left.
use Rattle.std.proofs.Common.{◌+◌, length}
use Rattle.rfc4180.specs.Records.{rows_text}
use Rattle.rfc4180.proofs.Writing.{Writing}
use Rattle.output.specs.Records.{pair_records}
use Rattle.output.proofs.Records.{pairs_left}
use Rattle.output.proofs.put_pairs.Given as goal

abbrev pub invariant-loop-i : goal.invariant-loop-i
invariant-loop-i l = Writing l.initial.out l.start (rows_text (pair_records (length l.map) l.map)) (pairs_left (length l.map) l.map (l.i + 1)) l.out l.at
