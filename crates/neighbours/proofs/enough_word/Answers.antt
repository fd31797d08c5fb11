use Rattle.std.proofs.Common.{ℕ, ◌+◌, ◌&&◌, refl, sym, ◌∙◌, arith}
use Rattle.std.proofs.Math.Pow.{pow_mono}
use Rattle.products.specs.Tables.{times_of}
use Rattle.rows.specs.InnerRows.{in_row, word}
use Rattle.rows.proofs.Words.{word_more, word_as_was, word_below}
use Rattle.neighbours.specs.InnerNeighbours.{enough}
use Rattle.neighbours.proofs.enough_word.Goals.{then-has_enough, else-has_enough}
use Rattle.neighbours.proofs.enough_word.Goals as goal

pub loop-k-init : goal.loop-k-init
unfolding word
loop-k-init c = refl

pub overflow_add-w : goal.overflow_add-w
overflow_add-w c =
    let a = c.args in
    let p = c.requires.le_from in
    let test = λ (y : ℕ). in_row a.row y && enough a.target.now.order (times_of a.target.now) a.few.now y in
    let m = word_more test a.from c.loop-k.k c.loop-k.w (omega arith) c.loop-k.invariant (sym c.has_enough.ensures.answer ∙ c.if-has_enough.true) in
    let w = word_below test a.from (c.loop-k.k + 1) in
    let q = pow_mono {i = c.loop-k.k + 1} {j = 60} (omega arith) in
    omega arith

pub loop-k-preserved : goal.loop-k-preserved
loop-k-preserved c =
    let a = c.args in
    let p = c.requires.le_from in
    let test = λ (y : ℕ). in_row a.row y && enough a.target.now.order (times_of a.target.now) a.few.now y in
    let here = c.has_enough.ensures.answer in
    elim c.if-has_enough.branch [
      | then-has_enough w ↦ w.w-is ∙ word_more test a.from c.loop-k.k c.loop-k.w (omega arith) c.loop-k.invariant (sym here ∙ w.if-has_enough.true)
      | else-has_enough w ↦ w.w-is ∙ word_as_was test a.from c.loop-k.k c.loop-k.w c.loop-k.invariant (sym here ∙ w.if-has_enough.false)
    ]
