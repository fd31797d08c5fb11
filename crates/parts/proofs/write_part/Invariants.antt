-- The cells before row i, and in row i before column j, are written, and the others are as they were.
use Rattle.std.proofs.Common.{◌+◌, ◌*◌, length}
use Rattle.semigroups.specs.Subsemigroups.{renumbered}
use Rattle.semigroups.proofs.Writing.{AtRow, AtCell}
use Rattle.products.specs.Tables.{times_of}
use Rattle.parts.proofs.write_part.Given as goal

abbrev pub invariant-loop-j : goal.invariant-loop-j
invariant-loop-j l = AtCell (length l.elements) (length l.elements) (renumbered (times_of l.table) l.elements) l.initial.part (l.i + 1) (l.j + 1) (l.i * length l.elements + l.j) l.part

abbrev pub invariant-loop-i : goal.invariant-loop-i
invariant-loop-i l = AtRow (length l.elements) (length l.elements) (renumbered (times_of l.table) l.elements) l.initial.part (l.i + 1) (l.i * length l.elements) l.part
