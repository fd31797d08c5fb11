-- The rows before c keep the elements that have enough neighbours.
use Rattle.std.proofs.Common.{◌≡◌, ◌-◌}
use Rattle.products.specs.Tables.{times_of}
use Rattle.rows.specs.InnerRows.{kept_rows}
use Rattle.neighbours.specs.InnerNeighbours.{has_as_many}
use Rattle.neighbours.proofs.keep_neighbours.Given as goal

abbrev pub invariant-loop-c : goal.invariant-loop-c
invariant-loop-c l =
    l.rows ≡ kept_rows (l.c - 1) l.target.order (has_as_many l.source.order (times_of l.source) l.target.order (times_of l.target)) l.fn.rows
