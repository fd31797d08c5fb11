use Rattle.std.proofs.Common.{◌≡◌, ◌+◌, ◌*◌, ◌≤◌}
use Rattle.products.specs.Tables.{times_of}
use Rattle.choosing.specs.InnerNext.{weight}
use Rattle.choosing.proofs.Adding.{sum_from, differing}
use Rattle.choosing.proofs.weight.Given as goal

abbrev pub invariant-loop-b : goal.invariant-loop-b
invariant-loop-b l =
    record {
      most : l.k + 2 ≤ 2 * l.b;
      rest : l.k + sum_from (differing (times_of l.source) l.c) l.source.order l.b ≡ weight l.source.order (times_of l.source) l.c;
    }
