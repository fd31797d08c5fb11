use Rattle.std.proofs.Common.{◌∙◌, ap, arith}
use Rattle.semigroups.specs.Lists.{member}
use Rattle.light.proofs.Found.{found_holds}
use Rattle.light.proofs.FoundElements.holds.Goals as goal

pub returns : goal.returns
returns c = record { answer = found_holds c.self.invariant c.args.x (omega arith) ∙ ap (member c.args.x) c.self.view_is }
