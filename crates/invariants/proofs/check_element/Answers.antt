use Rattle.std.proofs.Common.{sym, arith}
use Rattle.std.proofs.lemmas.Result.{err_from_is_err_and}
use Rattle.invariants.proofs.Questions.{table_refused, element_low, element_high, element_passes}
use Rattle.invariants.proofs.check_element.Goals as goal
use Rattle.invariants.proofs.check_element.Goals.{then-a-lt1-via-then-a-lt1, then-a-lt1-via-else-a-lt1+then-n-a}

pub returns-in_err-accepted-clause-answer : goal.returns-in_err-accepted-clause-answer
returns-in_err-accepted-clause-answer c =
    let p = err_from_is_err_and c.from_residual.result c.from_residual.ensures.1 in
    rw (p.1, p.2) (sym (table_refused _ _ _ _ (sym c.in_err-accepted.ensures.answer)))

pub returns-then-a-lt1-clause-answer : goal.returns-then-a-lt1-clause-answer
returns-then-a-lt1-clause-answer c =
    let e = sym c.in_ok-accepted.ensures.answer in
    elim c.then-a-lt1.branch [
      | then-a-lt1-via-then-a-lt1 w ↦ sym (element_low _ _ _ e (omega arith))
      | then-a-lt1-via-else-a-lt1+then-n-a w ↦ sym (element_high _ _ _ e (omega arith) (omega arith))
    ]

pub returns-clause-answer : goal.returns-clause-answer
returns-clause-answer c = sym (element_passes _ _ _ (sym c.in_ok-accepted.ensures.answer) c.if-a-lt1.false c.if-n-a.false)
