use Rattle.std.proofs.Common.{sym, ap, ◌∙◌, Bool, ◌&&◌}
use Rattle.products.specs.Tables.{times_of}
use Rattle.constraints.specs.InnerAttempt.{longer}
use Rattle.constraints.specs.InnerConstraints.{near_fits}
use Rattle.constraints.proofs.Attempts.{look}
use Rattle.constraints.proofs.Required.may_pass.Goals as goal

pub returns-then-settled-clause-refused : goal.returns-then-settled-clause-refused
returns-then-settled-clause-refused c =
    let a = c.args.attempt.now in
    let near = near_fits (times_of a.source.now) (times_of a.target.now) (longer a) in
    let r = c.requires in
    look a _ _ r.fresh r.tracks r.passed _ (c.near_fits.ensures.answer ∙ sym (ap (λ (b : Bool). b && near) (sym c.settled.ensures.answer ∙ c.if-settled.true)))

pub returns-else-settled-clause-refused : goal.returns-else-settled-clause-refused
returns-else-settled-clause-refused c =
    let a = c.args.attempt.now in
    let near = near_fits (times_of a.source.now) (times_of a.target.now) (longer a) in
    let r = c.requires in
    look a _ _ r.fresh r.tracks r.passed _ (c.if-settled.false ∙ sym (ap (λ (b : Bool). b && near) (sym c.settled.ensures.answer ∙ c.if-settled.false)))
