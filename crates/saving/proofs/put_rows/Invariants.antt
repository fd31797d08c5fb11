-- The rows before row i are written. Assumes nothing.
use Rattle.rfc4180.specs.Tables.{table_text}
use Rattle.rfc4180.proofs.Writing.{Writing}
use Rattle.rfc4180.proofs.Saving.{rows_left}
use Rattle.saving.proofs.put_rows.Given as goal

abbrev pub invariant-loop-i : goal.invariant-loop-i
invariant-loop-i l = Writing l.fn.text 0 (table_text l.n l.cells) (rows_left l.n l.cells l.i) l.text l.at
