use Rattle.std.proofs.Common.{sym, arith}
use Rattle.semigroups.proofs.Tables.{filled}
use Rattle.tables.proofs.Questions.{order_low, order_high, wrong_size, right_size}
use Rattle.tables.proofs.check_cells.Goals as goal
use Rattle.tables.proofs.check_cells.Goals.{then-n-lt1-via-then-n-lt1, then-n-lt1-via-else-n-lt1+then-n-gt-ORDER}

pub returns-then-n-lt1-clause-answer : goal.returns-then-n-lt1-clause-answer
returns-then-n-lt1-clause-answer c =
    elim c.then-n-lt1.branch [
      | then-n-lt1-via-then-n-lt1 w ↦ sym (order_low _ _ (omega arith))
      | then-n-lt1-via-else-n-lt1+then-n-gt-ORDER w ↦ sym (order_high _ _ (omega arith) (omega arith))
    ]

pub returns-then-cells-n-clause-answer : goal.returns-then-cells-n-clause-answer
returns-then-cells-n-clause-answer c = sym (wrong_size _ _ c.if-n-lt1.false c.if-n-gt-ORDER.false c.if-cells-n.true)

pub invariant_of-result : goal.invariant_of-result
invariant_of-result c = record { filled = filled _ _ (right_size _ _ c.if-n-lt1.false c.if-n-gt-ORDER.false c.if-cells-n.false _ (sym c.in-None.ensures.answer)) }

pub returns-in-Some-clause-answer : goal.returns-in-Some-clause-answer
returns-in-Some-clause-answer c = sym (right_size _ _ c.if-n-lt1.false c.if-n-gt-ORDER.false c.if-cells-n.false _ (sym c.in-Some.ensures.answer))

pub returns-in-None-clause-answer : goal.returns-in-None-clause-answer
returns-in-None-clause-answer c = sym (right_size _ _ c.if-n-lt1.false c.if-n-gt-ORDER.false c.if-cells-n.false _ (sym c.in-None.ensures.answer))
