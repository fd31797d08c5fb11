-- The rows lost no embedding that sends l to x, gained nothing, and those before c are narrowed.
use Rattle.std.proofs.Common.{◌≡◌, true, ℕ, ◌-◌}
use Rattle.semigroups.specs.Tables.{Element}
use Rattle.products.specs.Tables.{times_of}
use Rattle.rows.specs.InnerRows.{has, Shrinks}
use Rattle.propagation.specs.InnerRows.{Right, Narrows, NarrowedBefore}
use Rattle.propagation.specs.InnerLone.{KeepsSending}
use Rattle.propagation.proofs.narrow.Given as goal

abbrev pub invariant-loop-c : goal.invariant-loop-c
invariant-loop-c l =
    record {
      keeps : KeepsSending l.source.order (times_of l.source) l.target.order (times_of l.target) l.l l.x (has l.fn.rows) (has l.rows);
      shrinks : Shrinks l.fn.rows l.rows;
      narrows : Narrows (l.c - 1) (times_of l.source) l.target.order (times_of l.target) l.l l.x (has l.fn.rows) (has l.rows);
      some : (d : ℕ) → Element (l.c - 1) d → (y : ℕ) × Element l.target.order y × (has l.rows d y ≡ true);
      in_turn : NarrowedBefore (times_of l.source) l.target.order (times_of l.target) l.l l.x l.fn.rows l.c l.rows;
      right : Right l.target.order (times_of l.target) l.x l.last;
    }
