use Rattle.std.proofs.Common.{ℕ, List, ◌∙◌, arith}
use Rattle.semigroups.specs.Tables.{Product}
use Rattle.products.specs.Tables.{times_of}
use Rattle.rows.specs.InnerRows.{packed_row, masked}
use Rattle.rows.proofs.Turns.{turn_start, turn_next}
use Rattle.neighbours.specs.InnerNeighbours.{has_as_many}
use Rattle.neighbours.proofs.Sending.{enough_masked}
use Rattle.neighbours.proofs.keep_neighbours.Goals as goal

-- What is done for each row.
abbrev step : ℕ → Product → ℕ → Product → ℕ → List ℕ → List ℕ
step m s n t c rows = masked rows c (packed_row n (has_as_many m s n t c))

pub loop-c-init : goal.loop-c-init
loop-c-init c =
    let a = c.args in
    turn_start (step a.source.now.order (times_of a.source.now) a.target.now.order (times_of a.target.now)) a.rows.now

pub loop-c-preserved : goal.loop-c-preserved
loop-c-preserved c =
    let a = c.args in
    let s = a.source.now in
    let t = a.target.now in
    let l = c.loop-c in
    let small = t.filled.order in
    turn_next (step s.order (times_of s) t.order (times_of t)) a.rows.now l.c l.rows _ (omega arith) l.invariant
    (c.mask.ensures.words
    ∙ enough_masked s.order (times_of s) t.order (times_of t) (omega arith) l.rows l.c (omega arith) c.neighbours-few.result c.neighbours-few.ensures.counts
    c.row_of.result c.enough_row-row.result c.row_of.ensures.answer c.enough_row-row.ensures.answer)
