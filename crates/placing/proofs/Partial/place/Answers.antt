use Rattle.constraints.proofs.Placing.{more_placing}
use Rattle.placing.proofs.Partial.place.Goals as goal

pub returns-clause-placing : goal.returns-clause-placing
returns-clause-placing c = let h = c.requires in more_placing _ _ _ _ h.placing _ h.element.0 h.element.1 h.room h.fresh
