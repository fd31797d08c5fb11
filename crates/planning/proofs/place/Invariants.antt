-- The least fit is the first one from `degree` on, and no byte is changed.
use Rattle.semigroups.specs.Tables.{product}
use Rattle.planning.proofs.Trying.{Trying}
use Rattle.planning.proofs.place.Given as goal

abbrev pub invariant-loop-degree : goal.invariant-loop-degree
invariant-loop-degree l = Trying l.m (product l.m l.cells) l.initial.image l.initial.positions l.degree l.image l.positions
