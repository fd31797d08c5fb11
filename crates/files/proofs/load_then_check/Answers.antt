-- A text is loaded, the four questions about the table that it holds are asked, and the earliest failed one is answered. Assumes nothing.
use Rattle.std.proofs.Common.{◌∙◌, ap, sym, ℕ, arith, length-take}
use Rattle.std.proofs.lemmas.Result.{err_from_is_err_and}
use Rattle.semigroups.specs.Calls.{Answer, refused}
use Rattle.products.proofs.Products.{square_small}
use Rattle.files.proofs.Files.{judged_text, judged_table, loaded_order_law, loaded_room}
use Rattle.files.proofs.load_then_check.Goals as goal

pub returns-in_err-n-clause-answer : goal.returns-in_err-n-clause-answer
returns-in_err-n-clause-answer c =
    let p = err_from_is_err_and c.from_residual.result c.from_residual.ensures.1 in
    rw (p.1, p.2) (judged_text _ _ c.in_err-n.ensures.answer)

pub overflow_mul-size : goal.overflow_mul-size
overflow_mul-size c = omega (arith, square_small _ (loaded_order_law _ _ _ (sym c.in_ok-n.ensures.answer)))

pub slice_bounds-check-end : goal.slice_bounds-check-end
slice_bounds-check-end c = loaded_room _ _ _ (sym c.in_ok-n.ensures.answer) c.load.ensures.cells c.load.auto.cells

pub slice_bounds-check-end-2 : goal.slice_bounds-check-end-2
slice_bounds-check-end-2 c =
    let f = loaded_room _ _ _ (sym c.in_ok-n.ensures.answer) c.load.ensures.cells c.load.auto.cells in
    simp length-take (omega arith)

pub returns-in_err-check-clause-answer : goal.returns-in_err-check-clause-answer
returns-in_err-check-clause-answer c =
    let p = err_from_is_err_and c.from_residual-in_err-check.result c.from_residual-in_err-check.ensures.1 in
    rw p.1 (ap {B = Answer ℕ} refused p.2 ∙ judged_table _ _ _ (sym c.in_ok-n.ensures.answer) c.load.ensures.cells c.in_err-check.ensures.answer)

pub returns-clause-answer : goal.returns-clause-answer
returns-clause-answer c = judged_table _ _ _ (sym c.in_ok-n.ensures.answer) c.load.ensures.cells c.in_ok-check.ensures.answer
