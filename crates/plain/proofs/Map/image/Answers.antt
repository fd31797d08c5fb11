use Rattle.std.proofs.Common.{refl}
use Rattle.semigroups.specs.Lists.{at}
use Rattle.semigroups.proofs.Tables.{list_at}
use Rattle.plain.proofs.Map.image.Goals as goal

pub returns : goal.returns
unfolding at
returns c = record { answer = refl; element = list_at _ _ _ c.args.self.now.list c.args.i c.requires }
