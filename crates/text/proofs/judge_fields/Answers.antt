-- Questions 23 to 26 are decided field by field. Assumes nothing.
use Rattle.std.proofs.Common.{sym, refl, arith}
use Rattle.std.proofs.lemmas.Result.{err_from_is_err_and}
use Rattle.rfc4180.proofs.Reading.{turn_forward}
use Rattle.rfc4180.proofs.Judging.{here, judge_first, judge_refused, judge_comma, judge_record, says_field, end_uneven, end_many, end_square}
use Rattle.text.proofs.Following.{next_place, no_place, same_record, comma_place, end_within}
use Rattle.text.proofs.judge_fields.Goals as goal

pub loop-column-init : goal.loop-column-init
loop-column-init c = judge_first c.requires.some c.requires.bytes

pub returns-in_err-judge_field : goal.returns-in_err-judge_field
returns-in_err-judge_field c =
    let p = err_from_is_err_and c.from_residual.result c.from_residual.ensures.1 in
    record { answer = rw (p.1, p.2) (says_field _ _ (judge_refused c.loop-column.invariant refl (sym c.in_err-judge_field.ensures.answer))) }

pub overflow_add-at : goal.overflow_add-at
overflow_add-at c = omega (arith, end_within _ _ c.next_field-field.ensures.answer (here c.loop-column.invariant refl).inside)

pub loop-column-preserved-then-field : goal.loop-column-preserved-then-field
loop-column-preserved-then-field c =
    let p = comma_place _ _ c.next_field-field.ensures.answer c.if-field.true in
    rw (p.0, p.1) at
    (judge_comma c.loop-column.invariant refl (sym c.in_ok-judge_field.ensures.answer) (same_record _ _ c.next_field-field.ensures.answer c.if-field.true))

pub loop-column-smaller : goal.loop-column-smaller
loop-column-smaller c =
    let p = next_place _ _ c.next_field-field.ensures.answer c.in-Some.is in
    rw p.1 at (turn_forward (here c.loop-column.invariant refl))

pub loop-column-preserved : goal.loop-column-preserved
loop-column-preserved c =
    let p = next_place _ _ c.next_field-field.ensures.answer c.in-Some.is in
    rw (p.0, p.1) at
    (judge_record c.loop-column.invariant refl (sym c.in_ok-judge_field.ensures.answer) (same_record _ _ c.next_field-field.ensures.answer c.if-field.false))

pub returns-in-None : goal.returns-in-None
returns-in-None c =
    let k = judge_record c.loop-column.invariant refl (sym c.in_ok-judge_field.ensures.answer) (same_record _ _ c.next_field-field.ensures.answer c.if-field.false) in
    record { answer = end_square k (no_place _ _ c.next_field-field.ensures.answer c.in-None.is) c.if-square.true c.if-row-n.true }

pub returns-in-None-2 : goal.returns-in-None-2
returns-in-None-2 c =
    let k = judge_record c.loop-column.invariant refl (sym c.in_ok-judge_field.ensures.answer) (same_record _ _ c.next_field-field.ensures.answer c.if-field.false) in
    record { answer = end_many k (no_place _ _ c.next_field-field.ensures.answer c.in-None.is) c.if-row-n.false }

pub returns-in-None-2-2 : goal.returns-in-None-2-2
returns-in-None-2-2 c =
    let k = judge_record c.loop-column.invariant refl (sym c.in_ok-judge_field.ensures.answer) (same_record _ _ c.next_field-field.ensures.answer c.if-field.false) in
    record { answer = end_uneven k (no_place _ _ c.next_field-field.ensures.answer c.in-None.is) c.if-square.false }
