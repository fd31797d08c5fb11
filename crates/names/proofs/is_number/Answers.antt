-- One law for each way out. Assumes nothing.
use Rattle.std.proofs.Common.{length, sym, ◌∙◌, arith}
use borrow.Author.Tests.{eqb-true, eqb-false}
use Rattle.rfc4180.proofs.Fields.{below_digit, above_digit}
use Rattle.sheets.proofs.Numbers.{number_high, number_empty, number_long, number_zero, count_first, count_next, count_other, count_done}
use Rattle.names.proofs.is_number.Goals as goal
use Rattle.names.proofs.is_number.Goals.{then-k-gt-ORDER-via-then-k-gt-ORDER, then-k-gt-ORDER-via-else-k-gt-ORDER+then-is_empty, then-k-gt-ORDER-via-else-k-gt-ORDER+else-is_empty+then-bytes-gt3, then-k-gt-ORDER-via-else-k-gt-ORDER+else-is_empty+else-bytes-gt3+then-bytes-eq48}

pub returns-then-k-gt-ORDER : goal.returns-then-k-gt-ORDER
returns-then-k-gt-ORDER c = record {
  answer = elim c.then-k-gt-ORDER.branch [
    | then-k-gt-ORDER-via-then-k-gt-ORDER w ↦ number_high _ _ w.if-k-gt-ORDER.true
    | then-k-gt-ORDER-via-else-k-gt-ORDER+then-is_empty w ↦ number_empty _ _ (omega (arith, eqb-true (length c.args.bytes.now) 0 (sym w.is_empty.ensures ∙ w.if-is_empty.true)))
    | then-k-gt-ORDER-via-else-k-gt-ORDER+else-is_empty+then-bytes-gt3 w ↦ number_long _ _ w.if-bytes-gt3.true
    | then-k-gt-ORDER-via-else-k-gt-ORDER+else-is_empty+else-bytes-gt3+then-bytes-eq48 w ↦ number_zero _ _ w.if-bytes-eq48.true
  ];
}

pub loop-b-init : goal.loop-b-init
loop-b-init c = count_first _

pub returns-in_default : goal.returns-in_default
returns-in_default c = record { answer = count_other _ _ _ c.loop-b.invariant c.loop-b-test.true _ (below_digit _ (omega arith)) }

pub returns-in_default-2 : goal.returns-in_default-2
returns-in_default-2 c = record { answer = count_other _ _ _ c.loop-b.invariant c.loop-b-test.true _ (above_digit _ (omega arith)) }

pub loop-b-preserved : goal.loop-b-preserved
loop-b-preserved c = count_next _ _ _ c.loop-b.invariant c.loop-b-test.true (omega arith) (omega arith)

pub returns : goal.returns
returns c =
    let some = eqb-false (length c.args.bytes.now) 0 (sym c.is_empty.ensures ∙ c.if-is_empty.false) in
    record { answer = count_done _ _ _ _ c.loop-b.invariant c.loop-b-test.false c.if-k-gt-ORDER.false (omega arith, c.if-bytes-gt3.false) c.if-bytes-eq48.false }
