-- The word has the bits of the elements looked at.
use Rattle.std.proofs.Common.{◌≡◌, ◌&&◌}
use Rattle.products.specs.Tables.{times_of}
use Rattle.rows.specs.InnerRows.{in_row, word}
use Rattle.neighbours.specs.InnerNeighbours.{enough}
use Rattle.neighbours.proofs.enough_word.Given as goal

abbrev pub invariant-loop-k : goal.invariant-loop-k
invariant-loop-k l = l.w ≡ word (λ y. in_row l.row y && enough l.target.order (times_of l.target) l.few y) l.from l.k
