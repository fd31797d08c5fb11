use Rattle.constraints.proofs.Placing.{no_placing}
use Rattle.placing.proofs.Partial.new.Goals as goal

pub returns-clause-placing : goal.returns-clause-placing
returns-clause-placing c = no_placing
