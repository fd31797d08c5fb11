-- `put_record` writes the fields and the line break. Assumes nothing.
use mathlib.Core.List.{◌∷◌, []}
use native.Mathlib.Omega.{arith}
use Rattle.rfc4180.specs.Decimals.{numeral}
use Rattle.lines.proofs.Records.{line_more, line_written}
use borrow.Author.Rules.{rules}
use Rattle.lines.proofs.put_record.Statement.{statement}
use Rattle.lines.proofs.put_record.Tie as tie

put_fields-place-requires : tie.Need-put_fields-place-requires
put_fields-place-requires c κs = let s = c in (s.requires.0, omega (arith, s.requires.1, line_more (s.args.word.now ∷ numeral s.args.a ∷ numeral s.args.b ∷ [])))

put_break-requires : tie.Need-put_break-requires
put_break-requires c κs =
    let fields = c.put_fields-place in
    let s = c in
    omega (arith, s.requires.1, line_more (s.args.word.now ∷ numeral s.args.a ∷ numeral s.args.b ∷ []), fields.ensures.0, fields.auto.out)

shape_of-out : tie.Need-shape_of-out
shape_of-out c = search rules

returns : tie.Need-returns
returns c =
    let line-end = c.put_break.ensures in
    let fields = c.put_fields-place.ensures in
    line_written _ _ _ fields.0 fields.1 line-end.0 line-end.1

pub put_record_spec : {M : Type 1} → statement M
put_record_spec = tie.close (tie.spec put_fields-place-requires put_break-requires shape_of-out returns)
