use Rattle.std.proofs.Common.{sym, ◌∙◌}
use Rattle.constraints.proofs.Attempts.{refused, tested}
use Rattle.constraints.proofs.Required.passes_with.Goals as goal

pub returns-then-settled : goal.returns-then-settled
returns-then-settled c =
    let r = c.requires in
    record { answer = c.new_fits.ensures.answer ∙ tested c.args.attempt.now _ _ r.fresh r.tracks r.passed (sym c.settled.ensures.answer ∙ c.if-settled.true) }

pub returns-else-settled : goal.returns-else-settled
returns-else-settled c =
    let r = c.requires in
    record { answer = c.if-settled.false ∙ refused c.args.attempt.now _ _ r.fresh r.tracks r.passed (sym c.settled.ensures.answer ∙ c.if-settled.false) }
