use Rattle.std.proofs.Common.{◌∙◌}
use Rattle.plain.proofs.Enumeration.{order_is}
use Rattle.plain.proofs.earlier.Goals as goal

pub returns : goal.returns
returns c = record { answer = c.lt.ensures ∙ order_is _ _ c.requires }
