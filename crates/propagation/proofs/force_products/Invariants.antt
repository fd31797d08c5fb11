-- The rows lost no embedding that begins with the images, and the products with the elements before j are forced.
use Rattle.std.proofs.Common.{◌-◌}
use Rattle.products.specs.Tables.{times_of}
use Rattle.rows.specs.InnerRows.{has, Shrinks}
use Rattle.propagation.specs.InnerRows.{Keeps, Multiplied, MultipliedBefore}
use Rattle.propagation.proofs.force_products.Given as goal

abbrev pub invariant-loop-j : goal.invariant-loop-j
invariant-loop-j l =
    record {
      keeps : Keeps l.source.order (times_of l.source) l.target.order (times_of l.target) l.image l.len (has l.fn.rows) (has l.rows);
      forced : Multiplied (times_of l.source) (times_of l.target) l.image l.len (l.j - 1) l.rows;
      shrinks : Shrinks l.fn.rows l.rows;
      rows : MultipliedBefore (times_of l.source) (times_of l.target) l.image l.len l.fn.rows l.j l.rows;
    }
