-- The positions before row i, and in row i before column x, are written, and the others are as they were.
use Rattle.std.proofs.Common.{◌+◌, ◌-◌, ◌*◌, length}
use Rattle.semigroups.proofs.Writing.{AtRow, AtCell}
use Rattle.planning.specs.Degrees.{position}
use Rattle.planning.proofs.write_positions.Given as goal

abbrev pub invariant-loop-x : goal.invariant-loop-x
invariant-loop-x l = AtCell (length l.image) l.degree (position l.degree l.image) l.initial.positions (l.i + 1) l.x (l.i * l.degree + (l.x - 1)) l.positions

abbrev pub invariant-loop-i : goal.invariant-loop-i
invariant-loop-i l = AtRow (length l.image) l.degree (position l.degree l.image) l.initial.positions (l.i + 1) (l.i * l.degree) l.positions
