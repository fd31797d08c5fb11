use Rattle.constraints.proofs.Noting.{nothing_noted}
use Rattle.constraints.proofs.Required.nothing.Goals as goal

pub returns : goal.returns
returns c = record { nothing = nothing_noted }
