-- A byte that is allowed is passed, and no other. Assumes nothing.
use Rattle.std.proofs.Common.{◌∙◌, arith}
use Rattle.rfc4180.proofs.Scan.{begin, begin_clear, pass, fail, finish, digit, comma, clear, pass_pair, clear_pair, lone_last, lone_inside, low, high, other_refused, none_refused}
use Rattle.text.proofs.judge_bytes.Goals as goal

pub loop-i-init : goal.loop-i-init
loop-i-init c = record { apart = begin_clear _; ahead = begin _ }

pub loop-i-preserved-in-44-1 : goal.loop-i-preserved-in-44-1
loop-i-preserved-in-44-1 c = record {
  apart = clear _ _ (λ e. omega (arith, c.in-44.is));
  ahead = c.loop-i.invariant.ahead ∙ pass _ _ c.loop-i-test.true (comma _ _ c.in-44.is);
}

pub loop-i-preserved-then-text-i-eq10 : goal.loop-i-preserved-then-text-i-eq10
loop-i-preserved-then-text-i-eq10 c = record {
  apart = clear_pair _ _ c.if-text-i-eq10.true;
  ahead = c.loop-i.invariant.ahead ∙ pass_pair _ _ (omega arith) c.in-13.is c.if-text-i-eq10.true;
}

pub loop-i-preserved : goal.loop-i-preserved
loop-i-preserved c = record {
  apart = clear _ _ (λ e. omega (arith, e));
  ahead = c.loop-i.invariant.ahead ∙ pass _ _ c.loop-i-test.true (digit _ _ (omega arith) (omega arith));
}

pub returns-in_default : goal.returns-in_default
returns-in_default c =
    let v = c.loop-i.invariant in
    record { answer = other_refused _ _ (v.ahead ∙ fail _ _ c.loop-i-test.true (lone_inside _ _ v.apart c.in-13.is c.if-text-i-eq10.false)) }

pub returns-in_default-2 : goal.returns-in_default-2
returns-in_default-2 c =
    let v = c.loop-i.invariant in
    record { answer = other_refused _ _ (v.ahead ∙ fail _ _ c.loop-i-test.true (lone_last _ _ v.apart c.if-text-i-ge2.false c.in-13.is)) }

pub returns-in_default-3 : goal.returns-in_default-3
returns-in_default-3 c =
    let v = c.loop-i.invariant in
    record { answer = other_refused _ _ (v.ahead ∙ fail _ _ c.loop-i-test.true (low _ _ v.apart (omega arith) (λ e. omega (arith, e)) (λ e. omega (arith, e)))) }

pub returns-in_default-4 : goal.returns-in_default-4
returns-in_default-4 c =
    let v = c.loop-i.invariant in
    record { answer = other_refused _ _ (v.ahead ∙ fail _ _ c.loop-i-test.true (high _ _ v.apart (omega arith) (λ e. omega (arith, e)) (λ e. omega (arith, e)))) }

pub returns : goal.returns
returns c = record { answer = none_refused _ (c.loop-i.invariant.ahead ∙ finish _ _ c.loop-i-test.false) }
