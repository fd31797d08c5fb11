use Rattle.std.proofs.Common.{◌≡◌, ◌-◌}
use Rattle.semigroups.specs.Invariants.{row_frequency, column_frequency, commuting}
use Rattle.products.specs.InnerPerElement.{per_element}
use Rattle.products.specs.Tables.{times_of}
use Rattle.counts.proofs.all_counts.Given as goal

abbrev pub invariant-loop-a : goal.invariant-loop-a
invariant-loop-a l =
    record {
      row : l.row ≡ per_element (l.a - 1) (row_frequency l.n (times_of l.table));
      column : l.column ≡ per_element (l.a - 1) (column_frequency l.n (times_of l.table));
      commuting : l.commute ≡ per_element (l.a - 1) (commuting l.n (times_of l.table));
    }
