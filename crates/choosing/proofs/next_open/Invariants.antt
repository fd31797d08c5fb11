use Rattle.std.proofs.Common.{◌≡◌, ◌≤◌}
use Rattle.choosing.specs.InnerNext.{rank}
use Rattle.choosing.proofs.Next.{BestBefore}
use Rattle.choosing.proofs.next_open.Given as goal

abbrev pub invariant-loop-c : goal.invariant-loop-c
invariant-loop-c l =
    record {
      best : BestBefore l.m l.used (rank l.rows l.costs) l.c l.best.element;
      ranked : 1 ≤ l.best.element → l.best.rank ≡ rank l.rows l.costs l.best.element;
    }
