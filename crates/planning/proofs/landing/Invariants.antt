-- The points from the last down to the one after `degree + x - point` are dropped from the number.
use Rattle.std.proofs.Common.{◌+◌, ◌-◌}
use Rattle.semigroups.specs.Tables.{Element}
use Rattle.semigroups.specs.Transformations.{transformation_order}
use Rattle.planning.proofs.Points.{Left}
use Rattle.planning.proofs.landing.Given as goal

abbrev pub invariant-loop-point : goal.invariant-loop-point
invariant-loop-point l = (h : Element (transformation_order l.degree) l.k) → Left l.degree l.k h l.x l.rest (l.degree + l.x - l._point)
