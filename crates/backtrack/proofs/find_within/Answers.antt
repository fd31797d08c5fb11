use Rattle.backtrack.proofs.Extending.{start}
use Rattle.backtrack.proofs.find_within.Goals as goal

pub extend-requires : goal.extend-requires
extend-requires c = start _ c.args.next c.nothing.result c.new.result c.new.ensures.empty (c.new.ensures.placing _) (c.nothing.ensures.nothing _ _)
