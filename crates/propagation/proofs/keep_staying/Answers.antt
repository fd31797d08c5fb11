use Rattle.std.proofs.Common.{◌-◌, arith}
use Rattle.products.specs.Tables.{times_of}
use Rattle.rows.specs.InnerRows.{packed_row}
use Rattle.propagation.specs.InnerRows.{staying}
use Rattle.propagation.proofs.Narrowed.{low_staying, high_staying}
use Rattle.propagation.proofs.keep_staying.Goals as goal

-- The two words are packed of what the placing leaves.
pub returns : goal.returns
unfolding staying packed_row
returns c =
    let a = c.args in
    let t = times_of a.target.now in
    let low = c.low_count-low in
    let one = low_staying t a.x a.looks a.left a.right a.old low.result (omega arith) in
    let two = high_staying t a.x a.looks a.left a.right a.old (a.target.now.order - low.result) in
    record { answer = cc (one, two, low.ensures.answer, low.ensures.rest.2, c.narrow_word.ensures.answer, c.narrow_word-2.ensures.answer) }
