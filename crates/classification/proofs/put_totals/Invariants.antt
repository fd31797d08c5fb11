-- The totals before that of file a are written, and the others are left.
use Rattle.rfc4180.specs.Records.{rows_text}
use Rattle.rfc4180.proofs.Writing.{Writing}
use Rattle.progress.specs.Output.{total_records}
use Rattle.progress.specs.Held.{notes_in}
use Rattle.classification.proofs.Text.{totals_left}
use Rattle.classification.proofs.put_totals.Given as goal

abbrev pub invariant-loop-a : goal.invariant-loop-a
invariant-loop-a l = Writing l.initial.out l.start (rows_text (total_records (notes_in l.classifier))) (totals_left (notes_in l.classifier) l.a) l.out l.at
