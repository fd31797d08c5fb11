use Rattle.std.proofs.Common.{sym, ◌∙◌}
use Rattle.std.proofs.lemmas.Result.{err_from_is_err_and}
use mathlib.Core.Option.{or_else}
use Rattle.tables.proofs.Questions.{tables_first}
use Rattle.tables.proofs.accept_pair.Goals as goal

pub returns-in_err-first-clause-answer : goal.returns-in_err-first-clause-answer
unfolding or_else
returns-in_err-first-clause-answer c =
    let p = err_from_is_err_and c.from_residual.result c.from_residual.ensures.1 in
    rw (p.1, p.2) (sym (tables_first _ _ _ _ ∙ rw (← c.in_err-first.ensures.answer)))

pub returns-in_err-second-clause-answer : goal.returns-in_err-second-clause-answer
unfolding or_else
returns-in_err-second-clause-answer c =
    let p = err_from_is_err_and c.from_residual-in_err-second.result c.from_residual-in_err-second.ensures.1 in
    rw (p.1, p.2) (sym (tables_first _ _ _ _ ∙ rw (← c.in_ok-first.ensures.answer, ← c.in_err-second.ensures.answer)))

pub returns-clause-answer : goal.returns-clause-answer
unfolding or_else
returns-clause-answer c = sym (tables_first _ _ _ _ ∙ rw (← c.in_ok-first.ensures.answer, ← c.in_ok-second.ensures.answer))
