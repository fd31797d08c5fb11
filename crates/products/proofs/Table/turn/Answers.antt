use Rattle.std.proofs.Common.{sym, ap, arith, ℕ, ◌∙◌, ◌++◌, drop}
use Rattle.semigroups.specs.InnerTables.{turned_cells}
use Rattle.semigroups.proofs.Turned.{length_turned_cells}
use Rattle.semigroups.proofs.Writing.{row_placed, cell_placed, grid_begin, row_begin, cell_next, row_end, grid_end}
use Rattle.products.proofs.Table.turn.Goals as goal

pub loop-i-init : goal.loop-i-init
loop-i-init c = row_placed _ _ _ _ _ _ _ (grid_begin _ _ _ _)

pub loop-j-init : goal.loop-j-init
loop-j-init c = cell_placed _ _ _ _ _ _ _ _ (row_begin _ _ _ _ _ _ _ c.loop-i.invariant (omega arith))

pub loop-j-preserved : goal.loop-j-preserved
loop-j-preserved c = cell_placed _ _ _ _ _ _ _ _ (cell_next _ _ _ _ _ _ _ _ c.loop-j.invariant (omega arith) _ (omega arith) c.times.ensures.answer)

pub loop-i-preserved : goal.loop-i-preserved
loop-i-preserved c = row_placed _ _ _ _ _ _ _ (row_end _ _ _ _ _ _ _ c.loop-i.invariant _ _ _ c.loop-j.invariant (omega arith))

pub returns : goal.returns
unfolding turned_cells
returns c =
    let t = c.args.self.now in
    record { turned = grid_end _ _ _ _ _ _ _ c.loop-i.invariant (omega arith) ∙ ap (λ (k : ℕ). turned_cells t.order t.cells.now ++ drop k c.args.turned.now) (sym (length_turned_cells t.order t.cells.now)) }
