-- The arrays hold the values of the elements before a, then zeros.
use Rattle.std.proofs.Common.{◌≡◌, ◌-◌}
use Rattle.semigroups.specs.Invariants as marks
use Rattle.products.specs.InnerPerElement.{per_element}
use Rattle.products.specs.Tables.{times_of}
use Rattle.invariants.proofs.all_index_period_keys.Given as goal

abbrev pub invariant-loop-a : goal.invariant-loop-a
invariant-loop-a l = record {
  index : l.index ≡ per_element (l.a - 1) (marks.index l.table.order (times_of l.table));
  period : l.period ≡ per_element (l.a - 1) (marks.period l.table.order (times_of l.table));
}
