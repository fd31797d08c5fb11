use Rattle.std.proofs.Common.{◌∙◌}
use Rattle.semigroups.specs.Invariants as marks
use Rattle.products.proofs.Counting.{table_counted}
use Rattle.counts.proofs.Counts.{diagonal_counted}
use Rattle.invariants.proofs.Powers.{settled_idempotent}
use Rattle.invariants.proofs.profile_of.Goals as goal

pub returns : goal.returns
unfolding marks.profile
returns c =
    let s = c.args.accepted.now in
    let t = s.table in
    let e1 = c.index_period_of.ensures.answer ∙ settled_idempotent _ _ _ t.filled s.associative c.requires.element in
    let e2 = c.count.ensures.answer ∙ table_counted t.order t.cells.now t.filled.size c.args.a in
    let e3 = c.count-2.ensures.answer ∙ diagonal_counted t.order t.cells.now c.args.a in
    let e4 = c.row_frequency.ensures.answer in
    let e5 = c.column_frequency.ensures.answer in
    let e6 = c.commuting.ensures.answer in
    record { answer = cc }
