-- A name that lies in the buffer and passes leaves the question to those that are left. Assumes nothing.
use Rattle.std.proofs.Common.{◌≡◌, true, List, ℕ, ◌+◌, ◌≤◌, length, get_or, ap, sym, ◌∙◌, arith}
use Rattle.rfc4180.specs.Decimals.{numeral}
use Rattle.rfc4180.proofs.Decimals.{digits_few}
use Rattle.sheets.specs.Names.{is_name, name_text}
use Rattle.sheets.proofs.Numbers.{name_is}
use Rattle.sheets.proofs.Memory.{judge_names_first, judge_outside, judge_no_name, judge_names_next, judge_names_done, name_text_short}
use Rattle.names.proofs.Parts.{part_is}
use Rattle.names.proofs.judge_names.Goals as goal

pub loop-k-init : goal.loop-k-init
loop-k-init c = judge_names_first _ _

pub returns-then-names-start : goal.returns-then-names-start
returns-then-names-start c = record { answer = judge_outside _ _ _ _ c.loop-k-test.true _ c.loop-k.invariant c.if-names-start.true }

pub returns-then-not-is_name : goal.returns-then-not-is_name
returns-then-not-is_name c =
    let part = part_is c.args.names.now c.loop-k.start (get_or c.args.lengths.now c.loop-k.k 0) in
    let fails = ap is_name (sym part) ∙ sym c.is_name.ensures.answer ∙ c.if-not-is_name.true in
    record { answer = judge_no_name _ _ _ _ c.loop-k-test.true _ c.loop-k.invariant c.if-names-start.false fails }

pub name_length-requires : goal.name_length-requires
name_length-requires c = (name_is _ (sym c.is_name.ensures.answer ∙ c.if-not-is_name.false)).short

-- The pieces of a record have few bytes.
few : (k digits size : ℕ) (name : List ℕ) → digits ≡ length (numeral (k + 1)) → is_name name ≡ true → size ≡ length (name_text name) → digits + size + 3 ≤ 88
few k digits size name d n s = omega (arith, digits_few (k + 1), name_text_short name (name_is name n).short)

pub overflow_add-total : goal.overflow_add-total
overflow_add-total c =
    let f = few _ _ _ _ c.digit_count.ensures.answer (sym c.is_name.ensures.answer ∙ c.if-not-is_name.false) c.name_length.ensures.answer in
    omega arith

pub overflow_add-total-in-loop-k : goal.overflow_add-total-in-loop-k
overflow_add-total-in-loop-k c =
    let f = few _ _ _ _ c.digit_count.ensures.answer (sym c.is_name.ensures.answer ∙ c.if-not-is_name.false) c.name_length.ensures.answer in
    omega arith

pub overflow_add-total-in-loop-k-2 : goal.overflow_add-total-in-loop-k-2
overflow_add-total-in-loop-k-2 c =
    let f = few _ _ _ _ c.digit_count.ensures.answer (sym c.is_name.ensures.answer ∙ c.if-not-is_name.false) c.name_length.ensures.answer in
    let s = c.loop-k.invariant.small in
    omega arith

pub loop-k-preserved : goal.loop-k-preserved
loop-k-preserved c =
    let part = part_is c.args.names.now c.loop-k.start (get_or c.args.lengths.now c.loop-k.k 0) in
    let size = c.name_length.ensures.answer ∙ ap (λ (l : List ℕ). length (name_text l)) part in
    judge_names_next _ _ _ _ c.loop-k-test.true _ c.loop-k.invariant _ c.if-names-start.false
    (ap is_name (sym part) ∙ sym c.is_name.ensures.answer ∙ c.if-not-is_name.false) (omega (arith, size, c.digit_count.ensures.answer))

pub returns : goal.returns
returns c = record { answer = judge_names_done _ _ _ _ _ c.loop-k.invariant c.loop-k-test.false }
