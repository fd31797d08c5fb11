use Rattle.products.specs.Tables.{times_of}
use Rattle.propagation.proofs.Narrowed.{narrowed_staying}
use Rattle.propagation.proofs.narrow_row.Goals as goal

-- Each part of the narrowing is read from the tables and the rows.
pub returns : goal.returns
returns c =
    let a = c.args in
    record { answer = cc (narrowed_staying (times_of a.source.now) a.target.now.order (times_of a.target.now) a.rows.now a.l a.x a.c, c.pattern-looks.ensures.answer, c.row_of-left.ensures.answer, c.row_of-right.ensures.answer, c.row_of-old.ensures.answer, c.keep_by-kept.ensures.answer, c.times-lc.ensures.answer, c.times-cl.ensures.answer) }
