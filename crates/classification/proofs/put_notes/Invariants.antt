-- The records before that of file k are written, and the others are left.
use Rattle.rfc4180.specs.Records.{rows_text}
use Rattle.rfc4180.proofs.Writing.{Writing}
use Rattle.progress.specs.Output.{note_records}
use Rattle.progress.specs.Held.{notes_in}
use Rattle.classification.proofs.Text.{notes_left}
use Rattle.classification.proofs.put_notes.Given as goal

abbrev pub invariant-loop-k : goal.invariant-loop-k
invariant-loop-k l = Writing l.initial.out 0 (rows_text (note_records (notes_in l.classifier))) (notes_left (notes_in l.classifier) l.k) l.out l.at
