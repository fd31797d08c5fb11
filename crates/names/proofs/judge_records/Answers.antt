-- A record whose number is right and whose name passes leaves the question to those that follow. Assumes nothing.
use Rattle.std.proofs.Common.{Bool, ◌+◌, drop, sym, subst, ◌∙◌, arith}
use borrow.Author.Tests.{lt-ltb, le-ltb}
use Rattle.sheets.specs.InnerCursor.{value_at}
use Rattle.sheets.proofs.Numbers.{name_is, cut_length}
use Rattle.sheets.proofs.Records.{Judging, judge_first, judge_turn, judge_number, judge_name, judge_next, judge_done}
use Rattle.names.proofs.Values.{holds_short}
use Rattle.names.proofs.Turns.{some_byte, comma_inside, name_held, end_is, number_told, name_told}
use Rattle.names.proofs.judge_records.Goals as goal

pub loop-at-init : goal.loop-at-init
loop-at-init c = λ p. subst (λ (b : Bool). Judging c.args.text.now p 0 1 0 b) (sym (some_byte c.args.text.now p)) (judge_first c.args.text.now p)

pub overflow_add-k : goal.overflow_add-k
overflow_add-k c = let h = (c.loop-at.invariant c.requires).high in omega arith

pub returns-then-not-is_number : goal.returns-then-not-is_number
returns-then-not-is_number c = record {
  answer = λ p.
      judge_number (c.loop-at.invariant p) (lt-ltb _ _ c.loop-at-test.true)
      (number_told _ _ c.read_field-number.ensures.value _ c.held.ensures.value _ _ c.is_number.ensures.answer ∙ c.if-not-is_number.true);
}

pub overflow_add-number : goal.overflow_add-number
overflow_add-number c =
    let h = comma_inside _ _ _ c.read_field-number.ensures.end (judge_turn (c.loop-at.invariant c.requires) (lt-ltb _ _ c.loop-at-test.true)) in
    omega arith

pub read_field-name-requires : goal.read_field-name-requires
read_field-name-requires c = comma_inside _ _ _ c.read_field-number.ensures.end (judge_turn (c.loop-at.invariant c.requires) (lt-ltb _ _ c.loop-at-test.true))

pub returns-then-not-is_name : goal.returns-then-not-is_name
returns-then-not-is_name c =
    let number = number_told _ _ c.read_field-number.ensures.value _ c.held.ensures.value _ _ c.is_number.ensures.answer ∙ c.if-not-is_number.false in
    let held = name_held _ _ _ c.read_field-number.ensures.end _ c.read_field-name.ensures.value in
    record {
      answer = λ p.
          judge_name (c.loop-at.invariant p) (lt-ltb _ _ c.loop-at-test.true) number
          (name_told _ _ held _ c.held-in-loop-at.ensures.value _ c.is_name.ensures.answer ∙ c.if-not-is_name.true);
    }

pub overflow_add-total : goal.overflow_add-total
overflow_add-total c =
    let j = c.loop-at.invariant c.requires in
    omega (arith, j.few, j.high, c.read_field-name.ensures.value.size, cut_length (value_at (drop (c.read_field-number.result.end + 1) c.args.text.now)))

pub overflow_add-at : goal.overflow_add-at
overflow_add-at c =
    let e = end_is _ _ _ c.read_field-number.ensures.end _ c.read_field-name.ensures.end in
    let h = (judge_turn (c.loop-at.invariant c.requires) (lt-ltb _ _ c.loop-at-test.true)).end_inside in
    omega arith

pub loop-at-preserved : goal.loop-at-preserved
loop-at-preserved c =
    let number = number_told _ _ c.read_field-number.ensures.value _ c.held.ensures.value _ _ c.is_number.ensures.answer ∙ c.if-not-is_number.false in
    let held = name_held _ _ _ c.read_field-number.ensures.end _ c.read_field-name.ensures.value in
    let name = name_told _ _ held _ c.held-in-loop-at.ensures.value _ c.is_name.ensures.answer ∙ c.if-not-is_name.false in
    λ p.
    rw (end_is _ _ _ c.read_field-number.ensures.end _ c.read_field-name.ensures.end)
    (judge_next (c.loop-at.invariant p) (lt-ltb _ _ c.loop-at-test.true) number _ name (holds_short _ _ held (name_is _ name).short).0)

pub returns : goal.returns
returns c = record {
  answer = λ p.
      let done = judge_done (c.loop-at.invariant p) (le-ltb _ _ c.loop-at-test.false) in
      (done.0, omega (arith, done.1), done.2);
}
