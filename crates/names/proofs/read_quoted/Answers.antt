-- A quote mark before another stands for itself; any other ends the field. Assumes nothing.
use Rattle.std.proofs.Common.{◌≡◌, [], drop, refl, ap, sym, ◌∙◌, arith}
use Rattle.sheets.specs.InnerCursor.{quoted_value, quoted_size}
use Rattle.sheets.proofs.Cursor.{quoted_goes_on, quoted_ends, quoted_stops, quoted_pair, nothing_quoted}
use Rattle.names.specs.InnerReading.{extended}
use Rattle.names.proofs.Values.{gathered_first, gathered_next, gathered_last}
use Rattle.names.proofs.read_quoted.Goals as goal
use Rattle.names.proofs.read_quoted.Goals.{else-i-text-via-then-i-text+else-text-i-eq34, else-i-text-via-else-i-text}

pub loop-i-init : goal.loop-i-init
loop-i-init c = gathered_first _ _ _ _ _ c.requires c.empty-value.ensures.value

pub loop-i-preserved-then-text-i-ne34 : goal.loop-i-preserved-then-text-i-ne34
loop-i-preserved-then-text-i-ne34 c =
    gathered_next _ _ _ _ _ _ c.loop-i.invariant _ _ _ (omega arith) (omega arith) (quoted_goes_on _ _ c.loop-i-test.true c.if-text-i-ne34.true) c.with-value.ensures.value

pub loop-i-preserved : goal.loop-i-preserved
loop-i-preserved c =
    gathered_next _ _ _ _ _ _ c.loop-i.invariant _ _ _ (omega arith) (omega arith)
    (quoted_pair _ _ c.loop-i-test.true c.if-i-text.true c.if-text-i-ne34.false c.if-text-i-eq34.true)
    (c.with-value-then-text-i-eq34.ensures.value ∙ ap (extended c.loop-i.value) (sym c.if-text-i-ne34.false))

pub returns-else-i-text : goal.returns-else-i-text
returns-else-i-text c =
    let stops : (quoted_value (drop c.loop-i.i c.args.text.now) ≡ []) × (quoted_size (drop c.loop-i.i c.args.text.now) ≡ 1) = elim c.else-i-text.branch [
      | else-i-text-via-then-i-text+else-text-i-eq34 w ↦ quoted_stops _ _ c.loop-i-test.true w.if-i-text.true c.if-text-i-ne34.false w.if-text-i-eq34.false
      | else-i-text-via-else-i-text w ↦ quoted_ends _ _ c.loop-i-test.true c.if-text-i-ne34.false (omega arith)
    ] in
    let last = gathered_last _ _ _ _ _ _ c.loop-i.invariant _ _ 1 stops refl c.ending.ensures.value in
    record { value = last.0; end = last.1 }

pub returns : goal.returns
returns c =
    let last = gathered_last _ _ _ _ _ _ c.loop-i.invariant _ _ 0 (nothing_quoted _ _ c.loop-i-test.false) (omega arith) c.ending-2.ensures.value in
    record { value = last.0; end = last.1 }
