-- The rows lost no embedding that sends l to x, gained nothing, and are forced by each element before c.
use Rattle.products.specs.Tables.{times_of}
use Rattle.rows.specs.InnerRows.{has, Shrinks}
use Rattle.propagation.specs.InnerLone.{KeepsSending, ForcedBefore}
use Rattle.propagation.proofs.force_all.Given as goal

abbrev pub invariant-loop-c : goal.invariant-loop-c
invariant-loop-c l =
    record {
      keeps : KeepsSending l.source.order (times_of l.source) l.target.order (times_of l.target) l.l l.x (has l.fn.rows) (has l.rows);
      shrinks : Shrinks l.fn.rows l.rows;
      forced : ForcedBefore (times_of l.source) l.target.order (times_of l.target) l.l l.x l.fn.rows l.c l.rows;
    }
