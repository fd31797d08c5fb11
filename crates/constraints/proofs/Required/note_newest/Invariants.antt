use Rattle.std.proofs.Common.{◌-◌, take}
use Rattle.products.specs.Tables.{times_of}
use Rattle.constraints.specs.InnerTracking.{Tracks}
use Rattle.constraints.proofs.Required.note_newest.Given as goal

abbrev pub invariant-loop-j : goal.invariant-loop-j
invariant-loop-j l = Tracks (times_of l.source) (times_of l.target) (take l.len l.image) (l.len - 1) (l.j - 1) l.self.forced l.self.owner
