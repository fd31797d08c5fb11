-- Each field of the first record is counted. Assumes nothing.
use Rattle.std.proofs.Common.{◌≡◌, refl, arith, true}
use borrow.Author.Tests.{not-true, not-false}
use Rattle.rfc4180.specs.InnerCursor.{comma_follows}
use Rattle.rfc4180.proofs.Judging.{count_first, count_turn, count_more, count_last}
use Rattle.text.proofs.Following.{same_record, comma_place, end_within}
use Rattle.text.proofs.columns.Goals as goal

pub loop-field-init : goal.loop-field-init
loop-field-init c = count_first c.requires.some c.requires.bytes

pub returns-then-not-field : goal.returns-then-not-field
returns-then-not-field c = record {
  answer = count_last (count_more c.loop-field.invariant refl) (same_record _ _ c.next_field-field.ensures.answer (not-true _ c.if-not-field.true));
}

pub overflow_add-at : goal.overflow_add-at
overflow_add-at c = omega (arith, end_within _ _ c.next_field-field.ensures.answer (count_turn c.loop-field.invariant refl).inside)

pub loop-field-preserved : goal.loop-field-preserved
loop-field-preserved c =
    let comma = not-false _ c.if-not-field.false in
    let p = comma_place _ _ c.next_field-field.ensures.answer comma in
    let q : comma_follows c.args.text.now c.loop-field.at ≡ true = same_record _ _ c.next_field-field.ensures.answer comma in
    rw (q, p.1) at (count_more c.loop-field.invariant refl)
