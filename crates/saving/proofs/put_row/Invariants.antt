-- The fields before column j are written, the first of them before the loop. Assumes nothing.
use Rattle.rfc4180.specs.Records.{line_text}
use Rattle.rfc4180.specs.Tables.{row_fields}
use Rattle.rfc4180.proofs.Writing.{Writing}
use Rattle.rfc4180.proofs.Saving.{fields_left}
use Rattle.saving.proofs.put_row.Given as goal

abbrev pub invariant-loop-j : goal.invariant-loop-j
invariant-loop-j l = record {
  first : Writing l.fn.text l.start (line_text (row_fields l.n l.cells l.i)) (fields_left l.n l.cells l.i 2) l.initial.text l.initial.at;
  further : Writing l.initial.text l.initial.at (fields_left l.n l.cells l.i 2) (fields_left l.n l.cells l.i l.j) l.text l.at;
}
