-- A name that needs quote marks is written doubled between two. Assumes nothing.
use Rattle.std.proofs.Common.{◌≡◌, length, sym, ◌∙◌, arith, length-set}
use Rattle.sheets.proofs.Memory.{quoted_length, put_quoted}
use Rattle.names.proofs.put_name.Goals as goal

pub put_doubled-at-requires : goal.put_doubled-at-requires
put_doubled-at-requires c =
    let q = quoted_length _ (sym c.needs_quotes.ensures.answer ∙ c.if-not-needs_quotes.false) in
    rw length-set (omega arith)

pub bounds-text-at : goal.bounds-text-at
bounds-text-at c =
    let q = quoted_length _ (sym c.needs_quotes.ensures.answer ∙ c.if-not-needs_quotes.false) in
    let kept : length c.put_doubled-at.new.text ≡ length c.args.text.now = c.put_doubled-at.auto.text ∙ simp length-set in
    omega (arith, c.put_doubled-at.ensures.answer)

pub returns-clause-text : goal.returns-clause-text
returns-clause-text c =
    let quoted = sym c.needs_quotes.ensures.answer ∙ c.if-not-needs_quotes.false in
    (put_quoted _ _ _ _ _ quoted c.put_doubled-at.ensures.answer c.put_doubled-at.ensures.text).1
