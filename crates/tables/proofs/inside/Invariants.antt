-- All cells are elements exactly if the numbers from `least` to `most` and the cells from here on are.
use Rattle.tables.proofs.Cells.{Bounded}
use Rattle.tables.proofs.inside.Given as goal

abbrev pub invariant-loop-cell : goal.invariant-loop-cell
invariant-loop-cell l = Bounded l.n l.cells l.least l.most l.cell-index
