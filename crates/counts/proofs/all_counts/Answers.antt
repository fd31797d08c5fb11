use Rattle.std.proofs.Common.{◌+◌, ◌∙◌, arith}
use Rattle.semigroups.specs.Invariants.{diagonal_frequency, row_frequency, column_frequency, commuting}
use Rattle.products.specs.InnerCounting.{occurrences}
use Rattle.products.specs.Tables.{times_of}
use Rattle.products.proofs.PerElement.{per_element_same, fill_start, fill_step, fill_end}
use Rattle.counts.proofs.Counts.{diagonal_counted, row_at_most, column_at_most, commuting_at_most}
use Rattle.counts.proofs.all_counts.Goals as goal

pub loop-a-init : goal.loop-a-init
loop-a-init c =
    let t = c.args.table.now in
    record {
      row = fill_start (row_frequency t.order (times_of t));
      column = fill_start (column_frequency t.order (times_of t));
      commuting = fill_start (commuting t.order (times_of t));
    }

pub overflow_cast-row : goal.overflow_cast-row
overflow_cast-row c = let t = c.args.table.now in omega (arith, row_at_most t.order t.cells.now c.loop-a.a)

pub overflow_cast-column : goal.overflow_cast-column
overflow_cast-column c = let t = c.args.table.now in omega (arith, column_at_most t.order t.cells.now c.loop-a.a)

pub overflow_cast-commute : goal.overflow_cast-commute
overflow_cast-commute c = let t = c.args.table.now in omega (arith, commuting_at_most t.order t.cells.now c.loop-a.a)

pub loop-a-preserved : goal.loop-a-preserved
loop-a-preserved c =
    let t = c.args.table.now in
    let l = c.loop-a in
    record {
      row = fill_step (row_frequency t.order (times_of t)) l.a _ l.row l.invariant.row (omega arith) c.row_frequency.ensures.answer;
      column = fill_step (column_frequency t.order (times_of t)) l.a _ l.column l.invariant.column (omega arith) c.column_frequency.ensures.answer;
      commuting = fill_step (commuting t.order (times_of t)) l.a _ l.commute l.invariant.commuting (omega arith) c.commuting.ensures.answer;
    }

pub returns : goal.returns
returns c =
    let t = c.args.table.now in
    let n = t.order in
    let l = c.loop-a in
    record {
      answer = record {
        frequency = c.frequencies.ensures.answer;
        diagonal = c.tally.ensures.answer
            ∙ per_element_same n (λ a. occurrences a (n + 1) n t.cells.now) (diagonal_frequency n (times_of t)) (λ a h. diagonal_counted n t.cells.now a);
        row = fill_end (row_frequency n (times_of t)) n l.a l.row l.invariant.row (omega arith) (omega arith);
        column = fill_end (column_frequency n (times_of t)) n l.a l.column l.invariant.column (omega arith) (omega arith);
        commuting = fill_end (commuting n (times_of t)) n l.a l.commute l.invariant.commuting (omega arith) (omega arith);
      };
    }
