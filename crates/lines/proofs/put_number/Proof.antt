-- `put_number` writes a decimal number, by the number of its digits.
-- Assumes nothing.
use mathlib.Core.Path.{ap}
use native.Mathlib.Omega.{arith}
use lib.ListN.{length, length-set}
use borrow.Author.Rules.{rules}
use Rattle.rfc4180.proofs.Decimals.{numeral_one, numeral_two, numeral_three}
use Rattle.rfc4180.proofs.Writing.{put_one, put_two, put_three}
use Rattle.lines.proofs.put_number.Statement.{statement}
use Rattle.lines.proofs.put_number.Tie as tie

overflow_add-out : tie.Need-overflow_add-out
overflow_add-out c = search rules

overflow_cast-out : tie.Need-overflow_cast-out
overflow_cast-out c = search rules

bounds-out-at : tie.Need-bounds-out-at
bounds-out-at c =
    let s = c in
    omega (arith, s.requires.1, ap length (numeral_one _ c.if-x-lt10.true))

overflow_add-result : tie.Need-overflow_add-result
overflow_add-result c = search rules

shape_of-out-then-x-lt10 : tie.Need-shape_of-out-then-x-lt10
shape_of-out-then-x-lt10 c = search rules

returns-then-x-lt10 : tie.Need-returns-then-x-lt10
returns-then-x-lt10 c = put_one _ _ _ c.if-x-lt10.true

overflow_add-out-then-x-lt100 : tie.Need-overflow_add-out-then-x-lt100
overflow_add-out-then-x-lt100 c = search rules

overflow_cast-out-then-x-lt100 : tie.Need-overflow_cast-out-then-x-lt100
overflow_cast-out-then-x-lt100 c = search rules

bounds-out-at-then-x-lt100 : tie.Need-bounds-out-at-then-x-lt100
bounds-out-at-then-x-lt100 c =
    let s = c in
    omega (arith, s.requires.1, ap length (numeral_two _ c.if-x-lt10.false c.if-x-lt100.true))

overflow_add-out-then-x-lt100-2 : tie.Need-overflow_add-out-then-x-lt100-2
overflow_add-out-then-x-lt100-2 c = search rules

overflow_cast-out-then-x-lt100-2 : tie.Need-overflow_cast-out-then-x-lt100-2
overflow_cast-out-then-x-lt100-2 c = search rules

overflow_add-out-then-x-lt100-3 : tie.Need-overflow_add-out-then-x-lt100-3
overflow_add-out-then-x-lt100-3 c = search rules

bounds-out-at-then-x-lt100-2 : tie.Need-bounds-out-at-then-x-lt100-2
bounds-out-at-then-x-lt100-2 c =
    let s = c in
    rw length-set (omega (arith, s.requires.1, ap length (numeral_two _ c.if-x-lt10.false c.if-x-lt100.true)))

overflow_add-result-then-x-lt100 : tie.Need-overflow_add-result-then-x-lt100
overflow_add-result-then-x-lt100 c = search rules

shape_of-out-then-x-lt100 : tie.Need-shape_of-out-then-x-lt100
shape_of-out-then-x-lt100 c = search rules

returns-then-x-lt100 : tie.Need-returns-then-x-lt100
returns-then-x-lt100 c = put_two _ _ _ c.if-x-lt10.false c.if-x-lt100.true

overflow_add-out-2 : tie.Need-overflow_add-out-2
overflow_add-out-2 c = search rules

overflow_cast-out-2 : tie.Need-overflow_cast-out-2
overflow_cast-out-2 c = search rules

bounds-out-at-2 : tie.Need-bounds-out-at-2
bounds-out-at-2 c =
    let s = c in
    omega (arith, s.requires.1, ap length (numeral_three _ c.if-x-lt100.false s.requires.0))

overflow_add-out-3 : tie.Need-overflow_add-out-3
overflow_add-out-3 c = search rules

overflow_cast-out-3 : tie.Need-overflow_cast-out-3
overflow_cast-out-3 c = search rules

overflow_add-out-4 : tie.Need-overflow_add-out-4
overflow_add-out-4 c = search rules

bounds-out-at-3 : tie.Need-bounds-out-at-3
bounds-out-at-3 c =
    let s = c in
    rw length-set (omega (arith, s.requires.1, ap length (numeral_three _ c.if-x-lt100.false s.requires.0)))

overflow_add-out-5 : tie.Need-overflow_add-out-5
overflow_add-out-5 c = search rules

overflow_cast-out-4 : tie.Need-overflow_cast-out-4
overflow_cast-out-4 c = search rules

overflow_add-out-6 : tie.Need-overflow_add-out-6
overflow_add-out-6 c = search rules

bounds-out-at-4 : tie.Need-bounds-out-at-4
bounds-out-at-4 c =
    let s = c in
    simp length-set (omega (arith, s.requires.1, ap length (numeral_three _ c.if-x-lt100.false s.requires.0)))

overflow_add-result-2 : tie.Need-overflow_add-result-2
overflow_add-result-2 c = search rules

shape_of-out : tie.Need-shape_of-out
shape_of-out c = search rules

returns : tie.Need-returns
returns c = put_three _ _ _ c.if-x-lt100.false c.requires.0

pub put_number_spec : {M : Type 1} → statement M
put_number_spec =
    tie.close
    (tie.spec
    overflow_add-out
    overflow_cast-out
    bounds-out-at
    overflow_add-result
    shape_of-out-then-x-lt10
    returns-then-x-lt10
    overflow_add-out-then-x-lt100
    overflow_cast-out-then-x-lt100
    bounds-out-at-then-x-lt100
    overflow_add-out-then-x-lt100-2
    overflow_cast-out-then-x-lt100-2
    overflow_add-out-then-x-lt100-3
    bounds-out-at-then-x-lt100-2
    overflow_add-result-then-x-lt100
    shape_of-out-then-x-lt100
    returns-then-x-lt100
    overflow_add-out-2
    overflow_cast-out-2
    bounds-out-at-2
    overflow_add-out-3
    overflow_cast-out-3
    overflow_add-out-4
    bounds-out-at-3
    overflow_add-out-5
    overflow_cast-out-4
    overflow_add-out-6
    bounds-out-at-4
    overflow_add-result-2
    shape_of-out
    returns)
