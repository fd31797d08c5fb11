use Rattle.std.proofs.Common.{sym, ◌∙◌}
use Rattle.invariants.proofs.Powers.{settled_idempotent}
use Rattle.invariants.proofs.Questions.{says_given}
use Rattle.invariants.proofs.index_period.Goals as goal

pub returns : goal.returns
returns c =
    let t = c.in_ok-accepted.ensures in
    let a = c.in_ok-accepted.accepted in
    let e = c.index_period_of.ensures.answer ∙ settled_idempotent _ _ _ a.table.filled a.associative t.element in
    record { answer = says_given _ _ _ (sym t.answer) (rw (t.table.0, t.table.1) at e) }
