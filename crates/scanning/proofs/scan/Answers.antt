-- The scan goes byte by byte, up to the first that leads nowhere. Assumes nothing.
use Rattle.std.proofs.Common.{◌≡◌, length, ap, sym, ◌∙◌, arith}
use Rattle.std.proofs.Math.Option.{some}
use Rattle.sheets.proofs.Scan.{scan_first, scan_next, scan_dead, scan_sheet, scan_open}
use Rattle.sheets.proofs.Places.{dead_same}
use Rattle.scanning.proofs.scan.Goals as goal

pub loop-i-init : goal.loop-i-init
loop-i-init c = scan_first _

pub loop-i-preserved : goal.loop-i-preserved
loop-i-preserved c = scan_next _ _ _ c.loop-i.invariant c.loop-i-test.true _ c.step-state.ensures.answer (sym c.is_dead.ensures.answer ∙ c.if-is_dead.false)

pub returns-then-is_dead : goal.returns-then-is_dead
returns-then-is_dead c = record {
  answer =
      sym (scan_dead _ _ _ c.loop-i.invariant c.loop-i-test.true (sym c.step-state.ensures.answer ∙ dead_same _ (sym c.is_dead.ensures.answer ∙ c.if-is_dead.true)));
}

pub returns-then-may_end : goal.returns-then-may_end
returns-then-may_end c = record { answer = sym (scan_sheet _ _ _ c.loop-i.invariant c.loop-i-test.false (sym c.may_end.ensures.answer ∙ c.if-may_end.true)) }

pub returns-else-may_end : goal.returns-else-may_end
returns-else-may_end c =
    let whole : length c.args.text.now ≡ c.loop-i.i = omega arith in
    record { answer = ap some whole ∙ sym (scan_open _ _ _ c.loop-i.invariant c.loop-i-test.false (sym c.may_end.ensures.answer ∙ c.if-may_end.false)) }
