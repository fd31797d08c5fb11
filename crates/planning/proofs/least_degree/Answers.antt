-- One law for each way out of the questions; more than 27 elements fit nowhere; else the degrees are tried.
use Rattle.std.proofs.Common.{arith, sym, ap, ◌∙◌, ℕ}
use Rattle.std.proofs.Math.Option.{Option}
use Rattle.std.proofs.lemmas.Result.{err_from_is_err_and}
use Rattle.semigroups.specs.Calls.{Answer, refused, gives}
use Rattle.semigroups.proofs.Tables.{accepted}
use Rattle.planning.proofs.Questions.{table_kept, room_kept, answered, too_many}
use Rattle.planning.proofs.least_degree.Goals as goal

pub returns-in_err-check : goal.returns-in_err-check
returns-in_err-check c =
    let p = err_from_is_err_and c.from_residual.result c.from_residual.ensures.1 in
    let table = table_kept _ _ _ _ (sym c.in_err-check.ensures.answer) in
    record { answer = rw p.1 (ap {B = Answer (Option ℕ)} refused p.2 ∙ table.answer); positions = table.positions }

pub overflow_mul-m : goal.overflow_mul-m
overflow_mul-m c = let o = (accepted _ _ (sym c.in_ok-check.ensures.answer)).filled.order in omega arith

pub returns-then-positions-m : goal.returns-then-positions-m
returns-then-positions-m c = room_kept _ _ _ (sym c.in_ok-check.ensures.answer) c.if-positions-m.true

pub returns-then-m-gt27 : goal.returns-then-m-gt27
returns-then-m-gt27 c = too_many _ _ _ (sym c.in_ok-check.ensures.answer) c.if-positions-m.false c.if-m-gt27.true

pub place-requires-clause-accepted : goal.place-requires-clause-accepted
place-requires-clause-accepted c = accepted _ _ (sym c.in_ok-check.ensures.answer)

pub returns : goal.returns
returns c =
    answered _ _ _ (sym c.in_ok-check.ensures.answer) c.if-positions-m.false _ _ (ap {B = Answer (Option ℕ)} gives c.place.ensures.answer) c.place.ensures.positions
