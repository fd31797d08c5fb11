-- A quote mark counts twice in a quoted name. Assumes nothing.
use Rattle.std.proofs.Common.{◌≡◌, ◌+◌, length, drop, sym, ap, ◌∙◌, arith}
use Rattle.sheets.specs.Names.{doubled}
use Rattle.sheets.proofs.Memory.{unquoted, quoted_length, name_text_short, doubled_pair, doubled_single, doubled_end}
use Rattle.names.proofs.name_length.Goals as goal
use Rattle.names.proofs.name_length.Goals.{then-b-eq34, else-b-eq34}

pub returns-then-not-needs_quotes : goal.returns-then-not-needs_quotes
returns-then-not-needs_quotes c = record { answer = sym (ap length (unquoted _ (sym c.needs_quotes.ensures.answer ∙ c.if-not-needs_quotes.true))) }

pub overflow_add-total-then-b-eq34 : goal.overflow_add-total-then-b-eq34
overflow_add-total-then-b-eq34 c =
    let s = c.args.name.now in
    let whole = quoted_length s (sym c.needs_quotes.ensures.answer ∙ c.if-not-needs_quotes.false) in
    omega (arith, c.loop-b.invariant, whole, name_text_short s c.requires)

pub loop-b-preserved : goal.loop-b-preserved
loop-b-preserved c =
    let s = c.args.name.now in
    let i = c.loop-b.b-index in
    elim c.if-b-eq34.branch [
      | then-b-eq34 w ↦ omega (arith, c.loop-b.invariant, w.total-is, ap length (doubled_pair s i c.loop-b-test.true w.if-b-eq34.true))
      | else-b-eq34 w ↦ omega (arith, c.loop-b.invariant, w.total-is, ap length (doubled_single s i c.loop-b-test.true w.if-b-eq34.false))
    ]

pub returns : goal.returns
returns c =
    let s = c.args.name.now in
    let whole = quoted_length s (sym c.needs_quotes.ensures.answer ∙ c.if-not-needs_quotes.false) in
    record { answer = omega (arith, c.loop-b.invariant, whole, ap length (doubled_end s c.loop-b.b-index c.loop-b-test.false)) }
