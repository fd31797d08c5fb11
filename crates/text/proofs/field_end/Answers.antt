-- The digits are counted one by one. Assumes nothing.
use Rattle.std.proofs.Common.{◌≡◌, ◌∙◌, sym, ◌+◌, arith, true, List, ℕ, get_or}
use Rattle.rfc4180.specs.Decimals.{is_digit}
use Rattle.text.proofs.Digits.{digits_from, none_from, one_more, digit_inside}
use Rattle.text.proofs.field_end.Goals as goal

-- A digit that stands at i is one more than those after it.
more : (t : List ℕ) (i : ℕ) → is_digit (get_or t i 0) ≡ true → digits_from t i ≡ 1 + digits_from t (i + 1)
more t i e = one_more t i (i + 1) (omega arith) e

two : (t : List ℕ) (i : ℕ) → is_digit (get_or t i 0) ≡ true → is_digit (get_or t (i + 1) 0) ≡ true → digits_from t i ≡ 2 + digits_from t (i + 2)
two t i e f = omega (arith, more t i e, one_more t (i + 1) (i + 2) (omega arith) f)

pub returns-then-not-digit_stands : goal.returns-then-not-digit_stands
returns-then-not-digit_stands c =
    let n = none_from c.args.text.now c.args.at (sym c.digit_stands.ensures.answer ∙ c.if-not-digit_stands.true) in
    record { answer = omega arith }

pub returns-then-not-digit_stands-2 : goal.returns-then-not-digit_stands-2
returns-then-not-digit_stands-2 c =
    let m = more c.args.text.now c.args.at (sym c.digit_stands.ensures.answer ∙ c.if-not-digit_stands.false) in
    let n = none_from c.args.text.now (c.args.at + 1) (sym c.digit_stands-2.ensures.answer ∙ c.if-not-digit_stands-2.true) in
    record { answer = omega arith }

pub returns-then-not-digit_stands-3 : goal.returns-then-not-digit_stands-3
returns-then-not-digit_stands-3 c =
    let m =
    two c.args.text.now c.args.at (sym c.digit_stands.ensures.answer ∙ c.if-not-digit_stands.false)
    (sym c.digit_stands-2.ensures.answer ∙ c.if-not-digit_stands-2.false) in
    let n = none_from c.args.text.now (c.args.at + 2) (sym c.digit_stands-3.ensures.answer ∙ c.if-not-digit_stands-3.true) in
    record { answer = omega arith }

pub digits_end-requires : goal.digits_end-requires
digits_end-requires c = omega (arith, digit_inside c.args.text.now (c.args.at + 2) (sym c.digit_stands-3.ensures.answer ∙ c.if-not-digit_stands-3.false))

pub returns : goal.returns
returns c =
    let m =
    two c.args.text.now c.args.at (sym c.digit_stands.ensures.answer ∙ c.if-not-digit_stands.false)
    (sym c.digit_stands-2.ensures.answer ∙ c.if-not-digit_stands-2.false) in
    let n = one_more c.args.text.now (c.args.at + 2) (c.args.at + 3) (omega arith) (sym c.digit_stands-3.ensures.answer ∙ c.if-not-digit_stands-3.false) in
    record { answer = omega (arith, c.digits_end.ensures.answer) }
