-- Each cell takes its digits and the byte after them. Assumes nothing.
use Rattle.std.proofs.Common.{get_or, arith}
use Rattle.products.proofs.Products.{square_small}
use Rattle.rfc4180.proofs.Decimals.{digits_few}
use Rattle.rfc4180.proofs.Tables.{widths_first, widths_step, widths_end}
use Rattle.saving.proofs.text_length.Goals as goal

pub loop-cell-init : goal.loop-cell-init
loop-cell-init c = record { left = widths_first _ _ c.requires; few = omega arith }

pub overflow_add-total : goal.overflow_add-total
overflow_add-total c = omega (arith, c.digit_count.ensures.answer, digits_few c.from.result)

pub overflow_add-total-in-loop-cell : goal.overflow_add-total-in-loop-cell
overflow_add-total-in-loop-cell c =
    let few = c.loop-cell.invariant.few in
    let size = c.requires.size in
    omega (arith, c.digit_count.ensures.answer, digits_few c.from.result, square_small _ c.requires.order.1)

pub loop-cell-preserved : goal.loop-cell-preserved
loop-cell-preserved c =
    let e = rw c.from.ensures at c.digit_count.ensures.answer in
    let i = c.loop-cell.invariant in
    record {
      left = omega (arith, i.left, e, widths_step c.args.cells.now c.loop-cell.cell-index c.loop-cell-test.true);
      few = omega (arith, i.few, e, digits_few (get_or c.args.cells.now c.loop-cell.cell-index 0));
    }

pub returns : goal.returns
returns c = record { answer = omega (arith, c.loop-cell.invariant.left, widths_end c.args.cells.now c.loop-cell.cell-index c.loop-cell-test.false) }
