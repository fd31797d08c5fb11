-- Question 9 fails where there is no room, and passes otherwise. Assumes nothing.
use Rattle.std.proofs.Common.{◌∙◌, ◌++◌, ap, drop, length, List, ℕ}
use Rattle.transformations.proofs.Degrees.{room_short, room_enough}
use Rattle.transformations.proofs.put.Goals as goal

pub returns-then-cells-table : goal.returns-then-cells-table
returns-then-cells-table c =
    let r = room_short c.args.n c.args.table.now c.args.cells.now c.if-cells-table.true in
    record { answer = r.0; cells = r.1 }

pub returns : goal.returns
returns c =
    let r = room_enough c.args.n c.args.table.now c.args.cells.now c.if-cells-table.false in
    record {
      answer = r.0;
      cells = ap (λ (l : List ℕ). l ++ drop (length c.args.table.now) c.args.cells.now) c.copy_from_slice.ensures.after ∙ r.1;
    }
