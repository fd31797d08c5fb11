use Rattle.std.proofs.Common.{Bool, ap, sym, ◌∙◌, ◌&&◌}
use Rattle.products.specs.Tables.{times_of}
use Rattle.neighbours.specs.InnerNeighbours.{enough}
use Rattle.neighbours.proofs.Sending.{enough_counts}
use Rattle.neighbours.proofs.has_enough.Goals as goal

pub returns-then-has : goal.returns-then-has
returns-then-has c =
    let a = c.args in
    let t = a.target.now in
    record {
      answer =
          c.no_more.ensures.answer ∙ enough_counts t.order (times_of t) a.few.now c.neighbours.result a.y c.neighbours.ensures.counts
          ∙ ap (λ (b : Bool). b && enough t.order (times_of t) a.few.now a.y) (sym c.if-has.true ∙ c.has.ensures.answer);
    }
