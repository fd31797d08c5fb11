use Rattle.std.proofs.Common.{sym, ◌∙◌}
use Rattle.tables.proofs.Cells.{none_outside}
use Rattle.tables.proofs.outside.Goals as goal

pub returns-then-inside : goal.returns-then-inside
returns-then-inside c = record { answer = sym (none_outside _ _ (sym c.inside.ensures.answer ∙ c.if-inside.true)) }
