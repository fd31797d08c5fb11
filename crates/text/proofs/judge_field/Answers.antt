-- Questions 24, 23 and 25, about the digits at a place. Assumes nothing.
use Rattle.std.proofs.Common.{◌≡◌, ◌∙◌, sym, ◌≤◌, arith, List, ℕ, get_or, drop, length}
use Rattle.rfc4180.specs.InnerCursor.{digits}
use Rattle.rfc4180.proofs.Fields.{digit_here, digits_first, field_empty, field_long, field_zero, field_large, field_passes}
use Rattle.text.proofs.judge_field.Goals as goal

-- The field does not begin with 0 if its place does not.
leading : (t : List ℕ) (at : ℕ) → 1 ≤ length (digits (drop at t)) → (get_or t at 0 ≡ 48 → ⊥) → get_or (digits (drop at t)) 0 0 ≡ 48 → ⊥
leading t at one other e = other (sym (digits_first t at one) ∙ e)

pub returns-then-end-at-lt1 : goal.returns-then-end-at-lt1
returns-then-end-at-lt1 c = record { answer = field_empty (digits (drop c.args.at c.args.text.now)) (omega arith) }

pub bounds-text-at : goal.bounds-text-at
bounds-text-at c = (digit_here c.args.text.now c.args.at (omega arith)).0

pub returns-then-text-at-eq48 : goal.returns-then-text-at-eq48
returns-then-text-at-eq48 c = record { answer = field_zero (digits (drop c.args.at c.args.text.now)) (digits_first c.args.text.now c.args.at (omega arith) ∙ c.if-text-at-eq48.true) }

pub returns-then-end-at-gt3 : goal.returns-then-end-at-gt3
returns-then-end-at-gt3 c = record { answer = field_long (digits (drop c.args.at c.args.text.now)) (leading c.args.text.now c.args.at (omega arith) c.if-text-at-eq48.false) (omega arith) }

pub returns-then-read_number-gt-ORDER : goal.returns-then-read_number-gt-ORDER
returns-then-read_number-gt-ORDER c = record {
  answer =
      field_large (digits (drop c.args.at c.args.text.now)) (leading c.args.text.now c.args.at (omega arith) c.if-text-at-eq48.false) (omega arith) (omega arith)
      (rw c.read_number.ensures.answer at c.if-read_number-gt-ORDER.true);
}

pub returns : goal.returns
returns c = record {
  answer =
      field_passes (digits (drop c.args.at c.args.text.now)) (leading c.args.text.now c.args.at (omega arith) c.if-text-at-eq48.false) (omega arith) (omega arith)
      (rw c.read_number.ensures.answer at c.if-read_number-gt-ORDER.false);
}
