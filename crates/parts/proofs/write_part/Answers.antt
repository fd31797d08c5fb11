use Rattle.std.proofs.Common.{ℕ, ◌+◌, ◌*◌, arith, subst, length, set, get_or, ◌∙◌}
use Rattle.semigroups.specs.Subsemigroups.{renumbered}
use Rattle.semigroups.proofs.Writing.{AtRow, AtCell, grid_begin, row_begin, cell_next, row_end, grid_end}
use Rattle.products.specs.Tables.{times_of}
use Rattle.parts.proofs.Parts.{entry_element, cell_number, part_written}
use Rattle.parts.proofs.write_part.Goals as goal

pub loop-i-init : goal.loop-i-init
loop-i-init c =
    let k = length c.args.elements.now in
    subst (λ (p : ℕ). AtRow k k (renumbered (times_of c.args.table.now) c.args.elements.now) c.args.part.now 1 p c.args.part.now) (omega arith) (grid_begin _ _ _ _)

pub loop-j-init : goal.loop-j-init
loop-j-init c =
    let k = length c.args.elements.now in
    subst (λ (p : ℕ). AtCell k k (renumbered (times_of c.args.table.now) c.args.elements.now) c.loop-i.part (c.loop-i.i + 1) 1 p c.loop-i.part) (omega arith)
    (row_begin _ _ _ _ _ _ _ c.loop-i.invariant (omega arith))

pub times-xy-requires-clause-left : goal.times-xy-requires-clause-left
times-xy-requires-clause-left c = entry_element _ _ _ c.requires.closed _ (omega arith)

pub times-xy-requires-clause-right : goal.times-xy-requires-clause-right
times-xy-requires-clause-right c = entry_element _ _ _ c.requires.closed _ (omega arith)

pub loop-j-preserved : goal.loop-j-preserved
loop-j-preserved c =
    let k = length c.args.elements.now in
    let t = c.args.table.now in
    let cell = cell_number _ _ _ c.requires.closed c.loop-i.i c.loop-j.j _ _ t.filled.order.1 (omega arith) (omega arith) c.times-xy.ensures.answer c.numbers_of-numbers.ensures.answer in
    subst (λ (p : ℕ). AtCell k k (renumbered (times_of t) c.args.elements.now) c.loop-i.part (c.loop-i.i + 1) (c.loop-j.j + 1 + 1) p (set c.loop-j.part (c.loop-i.i * k + c.loop-j.j) (get_or c.numbers_of-numbers.result c.times-xy.result 0))) (omega arith)
    (cell_next _ _ _ _ _ _ _ _ c.loop-j.invariant (omega arith) _ (omega arith) cell)

pub loop-i-preserved : goal.loop-i-preserved
loop-i-preserved c =
    let k = length c.args.elements.now in
    subst (λ (p : ℕ). AtRow k k (renumbered (times_of c.args.table.now) c.args.elements.now) c.args.part.now (c.loop-i.i + 1 + 1) p c.loop-j.part) (omega arith)
    (row_end _ _ _ _ _ _ _ c.loop-i.invariant _ _ _ c.loop-j.invariant (omega arith))

pub returns : goal.returns
returns c = record { part = grid_end _ _ _ _ _ _ _ c.loop-i.invariant (omega arith) ∙ part_written _ _ _ c.requires.closed _ }
