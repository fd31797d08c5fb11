-- For each degree from 1 to 3 only question 9 is left; any other fails question 8. Assumes nothing.
use Rattle.std.proofs.Common.{refl, arith}
use Rattle.semigroups.specs.Transformations.{transformation_order}
use Rattle.transformations.proofs.Degrees.{degree_refused, table_put}
use Rattle.transformations.proofs.fill.Goals as goal

pub returns-in-1 : goal.returns-in-1
unfolding transformation_order
returns-in-1 c =
    let r = table_put _ c.args.cells.now 1 c.in-1.is (omega arith) 1 refl _ c.degree_1.ensures.composed (c.put.ensures.answer, c.put.ensures.cells) in
    record { answer = r.0; cells = r.1 }

pub returns-in-2 : goal.returns-in-2
unfolding transformation_order
returns-in-2 c =
    let r = table_put _ c.args.cells.now 2 c.in-2.is (omega arith) 4 refl _ c.degree_2.ensures.composed (c.put-in-2.ensures.answer, c.put-in-2.ensures.cells) in
    record { answer = r.0; cells = r.1 }

pub returns-in-3 : goal.returns-in-3
unfolding transformation_order
returns-in-3 c =
    let r = table_put _ c.args.cells.now 3 c.in-3.is (omega arith) 27 refl _ c.degree_3.ensures.composed (c.put-in-3.ensures.answer, c.put-in-3.ensures.cells) in
    record { answer = r.0; cells = r.1 }

pub returns-in_default : goal.returns-in_default
returns-in_default c =
    let r = degree_refused c.args.degree c.args.cells.now (λ e. omega (arith, e)) (λ e. omega (arith, e)) (λ e. omega (arith, e)) in
    record { answer = r.0; cells = r.1 }
