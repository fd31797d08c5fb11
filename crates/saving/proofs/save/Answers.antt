-- Questions 1, 2, 3 and 28 are asked one after another, and the text is written if all pass. Assumes nothing.
use Rattle.std.proofs.Common.{◌∙◌, ap, sym, ℕ}
use Rattle.std.proofs.lemmas.Result.{err_from_is_err_and}
use Rattle.semigroups.specs.Calls.{Answer, refused, gives}
use Rattle.semigroups.proofs.Tables.{filled}
use Rattle.rfc4180.proofs.Saving.{bad_table, bad_room, save_given}
use Rattle.saving.proofs.save.Goals as goal

pub returns-in_err-check_cells : goal.returns-in_err-check_cells
returns-in_err-check_cells c =
    let p = err_from_is_err_and c.from_residual.result c.from_residual.ensures.1 in
    let table = bad_table _ _ _ (sym c.in_err-check_cells.ensures.answer) in
    record { answer = rw p.1 (ap {B = Answer ℕ} refused p.2 ∙ table.0); text = table.1 }

pub text_length-requires : goal.text_length-requires
text_length-requires c = filled _ _ (sym c.in_ok-check_cells.ensures.answer)

pub returns-then-text-text_length : goal.returns-then-text-text_length
returns-then-text-text_length c =
    let short = bad_room _ _ _ (sym c.in_ok-check_cells.ensures.answer) (rw c.text_length.ensures.answer at c.if-text-text_length.true) in
    record { answer = short.0; text = short.1 }

pub put_rows-requires-clause-table : goal.put_rows-requires-clause-table
put_rows-requires-clause-table c = filled _ _ (sym c.in_ok-check_cells.ensures.answer)

pub returns : goal.returns
returns c =
    let room = rw c.text_length.ensures.answer at c.if-text-text_length.false in
    let given = save_given _ _ _ (sym c.in_ok-check_cells.ensures.answer) room in
    record { answer = ap {B = Answer ℕ} gives c.put_rows.ensures.answer ∙ given.0; text = c.put_rows.ensures.text ∙ given.1 }
