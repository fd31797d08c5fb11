use Rattle.std.proofs.Common.{sym, ◌∙◌}
use Rattle.std.proofs.lemmas.Bool.{le-leb, lt-leb}
use Rattle.tables.proofs.Cells.{bounded_first, bounded_next, bounded_last}
use Rattle.tables.proofs.inside.Goals as goal

pub loop-cell-init : goal.loop-cell-init
loop-cell-init c = bounded_first _ _

pub loop-cell-preserved : goal.loop-cell-preserved
loop-cell-preserved c = rw (c.min-least.ensures, c.max-most.ensures) (bounded_next _ _ c.loop-cell.invariant c.loop-cell-test.true)

pub returns-then-least-ge1 : goal.returns-then-least-ge1
returns-then-least-ge1 c = record { answer = sym (bounded_last _ _ c.loop-cell.invariant c.loop-cell-test.false ∙ rw (le-leb 1 c.loop-cell.least c.if-least-ge1.true)) }

pub returns-else-least-ge1 : goal.returns-else-least-ge1
returns-else-least-ge1 c = record { answer = sym (bounded_last _ _ c.loop-cell.invariant c.loop-cell-test.false ∙ rw (lt-leb 1 c.loop-cell.least c.if-least-ge1.false)) }
