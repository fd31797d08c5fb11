-- The bytes that the cells from this one on take are left to add. Assumes nothing.
use Rattle.std.proofs.Common.{◌≡◌, ◌≤◌, ◌+◌, ◌*◌, length}
use Rattle.rfc4180.specs.Tables.{table_text}
use Rattle.rfc4180.proofs.Tables.{widths_from}
use Rattle.saving.proofs.text_length.Given as goal

abbrev pub invariant-loop-cell : goal.invariant-loop-cell
invariant-loop-cell l = record {
  left : length (table_text l.n l.cells) ≡ l.total + widths_from l.cells l.cell-index;
  few : l.total ≤ l.n + 4 * l.cell-index;
}
