-- The questions are asked one after another.
use Rattle.std.proofs.Common.{Err, [], ◌∷◌, ◌∙◌, sym, ap}
use Rattle.std.specs.Prelude.{Result}
use Rattle.std.proofs.Math.Option.{none, some}
use mathlib.Core.Logic.{⊎_elim}
use Rattle.semigroups.specs.Lists.{at}
use Rattle.semigroups.specs.InnerQuestions.{no}
use Rattle.semigroups.proofs.Tables.{filled}
use Rattle.tables.proofs.Questions.{order_low, order_high, wrong_size, right_size, cells_pass}
use Rattle.plain.specs.InnerSaid.{said_of}
use Rattle.plain.specs.declared.Said.{Said}
use Rattle.plain.proofs.Judging.{said_of_cells}
use Rattle.plain.proofs.judge.Goals as goal

pub returns-then-n-lt1 : goal.returns-then-n-lt1
unfolding at
returns-then-n-lt1 c =
    let low = ⊎_elim (order_low c.args.n c.args.cells.now) (λ h. order_high c.args.n c.args.cells.now h.0 h.1) c.then-n-lt1.either in
    record { answer = ap {B = Result (Unit {0}) Said} Err c.failed.ensures.answer ∙ said_of_cells _ _ (no 1 []) low }

pub returns-then-cells-n : goal.returns-then-cells-n
unfolding at
returns-then-cells-n c =
    record { answer = ap {B = Result (Unit {0}) Said} Err c.failed-then-cells-n.ensures.answer ∙ said_of_cells _ _ (no 2 []) (wrong_size _ _ c.if-n-lt1.false c.if-n-gt120.false c.if-cells-n.true) }

pub returns-in-Some : goal.returns-in-Some
unfolding at
returns-in-Some c =
    record {
      answer = ap {B = Result (Unit {0}) Said} Err c.failed-in-Some.ensures.answer
          ∙ said_of_cells _ _ (no 3 (c.in-Some.place ∷ [])) (right_size _ _ c.if-n-lt1.false c.if-n-gt120.false c.if-cells-n.false (some c.in-Some.place) (sym c.in-Some.ensures.answer));
    }

pub invariant_of-judge_triples : goal.invariant_of-judge_triples
invariant_of-judge_triples c = record { filled = filled _ _ (right_size _ _ c.if-n-lt1.false c.if-n-gt120.false c.if-cells-n.false none (sym c.in_default.ensures.answer)) }

pub returns : goal.returns
returns c =
    record {
      answer = c.judge_triples.ensures.answer
          ∙ sym (ap {B = Result (Unit {0}) Said} said_of (cells_pass _ _ (right_size _ _ c.if-n-lt1.false c.if-n-gt120.false c.if-cells-n.false none (sym c.in_default.ensures.answer))));
    }
