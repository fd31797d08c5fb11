-- The questions of a text are asked in their order, and the cells are written where all pass. Assumes nothing.
use Rattle.std.proofs.Common.{◌∙◌, ap, sym, ◌≤◌, length, ℕ, arith}
use Rattle.std.proofs.lemmas.Bool.Decides.{nat_tests}
use Rattle.std.proofs.lemmas.Result.{err_from_is_err_and}
use Rattle.semigroups.specs.Calls.{Answer, gives}
use Rattle.rfc4180.proofs.Loading.{too_short, too_long, bad_byte, bad_grid, bad_order, bad_room, loads, load_refused, load_given, grid_passed, cells_length}
use Rattle.text.proofs.load.Goals as goal
use Rattle.text.proofs.load.Goals.{then-is_empty-via-then-is_empty, then-is_empty-via-else-is_empty+then-text-gt-TEXT}

pub returns-then-is_empty : goal.returns-then-is_empty
returns-then-is_empty c =
    let p =
    load_refused c.args.text.now c.args.cells.now
    (elim c.then-is_empty.branch [
      | then-is_empty-via-then-is_empty w ↦ too_short _ _ (grind (arith, nat_tests))
      | then-is_empty-via-else-is_empty+then-text-gt-TEXT w ↦ too_long _ _ w.if-text-gt-TEXT.true
    ]) in
    record { answer = p.0; cells = p.1 }

pub returns-in_err-judge_bytes : goal.returns-in_err-judge_bytes
returns-in_err-judge_bytes c =
    let e = err_from_is_err_and c.from_residual.result c.from_residual.ensures.1 in
    let one : 1 ≤ length c.args.text.now = grind (arith, nat_tests) in
    let p = load_refused _ c.args.cells.now (bad_byte _ _ one c.if-text-gt-TEXT.false (sym c.in_err-judge_bytes.ensures.answer)) in
    record { answer = rw (e.1, e.2) p.0; cells = p.1 }

pub returns-in_err-judge_fields : goal.returns-in_err-judge_fields
returns-in_err-judge_fields c =
    let e = err_from_is_err_and c.from_residual-in_err-judge_fields.result c.from_residual-in_err-judge_fields.ensures.1 in
    let one : 1 ≤ length c.args.text.now = grind (arith, nat_tests) in
    let p =
    load_refused _ c.args.cells.now
    (bad_grid _ _ one c.if-text-gt-TEXT.false (sym c.in_ok-judge_bytes.ensures.answer) c.columns-n.ensures.answer
    (sym c.in_err-judge_fields.ensures.answer)) in
    record { answer = rw (e.1, e.2) p.0; cells = p.1 }

pub returns-then-n-gt-ORDER : goal.returns-then-n-gt-ORDER
returns-then-n-gt-ORDER c =
    let one : 1 ≤ length c.args.text.now = grind (arith, nat_tests) in
    let p =
    load_refused _ c.args.cells.now
    (bad_order _ _ one c.if-text-gt-TEXT.false (sym c.in_ok-judge_bytes.ensures.answer) c.columns-n.ensures.answer (sym c.in_ok-judge_fields.ensures.answer)
    c.if-n-gt-ORDER.true) in
    record { answer = p.0; cells = p.1 }

pub returns-then-cells-n : goal.returns-then-cells-n
returns-then-cells-n c =
    let one : 1 ≤ length c.args.text.now = grind (arith, nat_tests) in
    let p =
    load_refused _ c.args.cells.now
    (bad_room _ _ one c.if-text-gt-TEXT.false (sym c.in_ok-judge_bytes.ensures.answer) c.columns-n.ensures.answer (sym c.in_ok-judge_fields.ensures.answer)
    c.if-n-gt-ORDER.false c.if-cells-n.true) in
    record { answer = p.0; cells = p.1 }

pub fill-requires-clause-numbers : goal.fill-requires-clause-numbers
fill-requires-clause-numbers c = (grid_passed _ _ (sym c.in_ok-judge_fields.ensures.answer)).numbers

pub fill-requires-clause-room : goal.fill-requires-clause-room
fill-requires-clause-room c = omega (arith, cells_length _ _ (grid_passed _ _ (sym c.in_ok-judge_fields.ensures.answer)))

pub returns : goal.returns
returns c =
    let one : 1 ≤ length c.args.text.now = grind (arith, nat_tests) in
    let p =
    load_given _ c.args.cells.now
    (loads _ _ one c.if-text-gt-TEXT.false (sym c.in_ok-judge_bytes.ensures.answer) c.columns-n.ensures.answer (sym c.in_ok-judge_fields.ensures.answer)
    c.if-n-gt-ORDER.false c.if-cells-n.false) in
    record { answer = ap {B = Answer ℕ} gives c.columns-n.ensures.answer ∙ p.0; cells = c.fill.ensures.cells ∙ p.1 }
