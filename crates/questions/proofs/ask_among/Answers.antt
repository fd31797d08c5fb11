use Rattle.std.proofs.Common.{sym, arith}
use Rattle.std.proofs.lemmas.Result.{err_from_is_err_and}
use Rattle.questions.proofs.Among.{search_refused, pairs_refused, pairs_passed}
use Rattle.questions.proofs.ask_among.Goals as goal

pub returns-in_err-pair-clause-answer : goal.returns-in_err-pair-clause-answer
returns-in_err-pair-clause-answer c =
    let p = err_from_is_err_and c.from_residual.result c.from_residual.ensures.1 in
    rw (p.1, p.2) (sym (search_refused _ _ _ _ _ _ _ _ (sym c.in_err-pair.ensures.answer)))

pub returns-then-room-scratch_size-clause-answer : goal.returns-then-room-scratch_size-clause-answer
returns-then-room-scratch_size-clause-answer c =
    let size = c.scratch_size.ensures.answer in
    let short = c.if-room-scratch_size.true in
    sym (pairs_refused _ _ _ _ _ _ _ (sym c.in_ok-pair.ensures.answer) (omega arith))

pub returns-clause-answer : goal.returns-clause-answer
returns-clause-answer c =
    let size = c.scratch_size.ensures.answer in
    let room = c.if-room-scratch_size.false in
    sym (pairs_passed _ _ _ _ _ _ _ (sym c.in_ok-pair.ensures.answer) (omega arith))
