use Rattle.std.proofs.Common.{sym, arith}
use Rattle.std.proofs.lemmas.Result.{err_from_is_err_and}
use Rattle.tables.proofs.Questions.{tables_refused, map_refused, scratch_refused, none_refused}
use Rattle.questions.proofs.ask.Goals as goal

pub returns-in_err-pair-clause-answer : goal.returns-in_err-pair-clause-answer
returns-in_err-pair-clause-answer c =
    let p = err_from_is_err_and c.from_residual.result c.from_residual.ensures.1 in
    rw (p.1, p.2) (sym (tables_refused _ _ _ _ _ _ _ (sym c.in_err-pair.ensures.answer)))

pub returns-then-images-m-clause-answer : goal.returns-then-images-m-clause-answer
returns-then-images-m-clause-answer c = sym (map_refused _ _ _ _ _ _ (sym c.in_ok-pair.ensures.answer) c.if-images-m.true)

pub returns-then-marks-scratch_size-clause-answer : goal.returns-then-marks-scratch_size-clause-answer
returns-then-marks-scratch_size-clause-answer c =
    let size = c.scratch_size.ensures.answer in
    let short = c.if-marks-scratch_size.true in
    sym (scratch_refused _ _ _ _ _ _ (sym c.in_ok-pair.ensures.answer) c.if-images-m.false (omega arith))

pub returns-clause-answer : goal.returns-clause-answer
returns-clause-answer c =
    let size = c.scratch_size.ensures.answer in
    let room = c.if-marks-scratch_size.false in
    sym (none_refused _ _ _ _ _ _ (sym c.in_ok-pair.ensures.answer) c.if-images-m.false (omega arith))
