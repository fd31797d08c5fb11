-- `put_fields` writes the word and the two numbers, each number after a comma. Assumes nothing.
use native.Mathlib.Omega.{arith}
use Rattle.lines.proofs.Records.{fields_length, fields_written}
use borrow.Author.Rules.{rules}
use Rattle.lines.proofs.put_fields.Statement.{statement}
use Rattle.lines.proofs.put_fields.Tie as tie

put_bytes-place-requires : tie.Need-put_bytes-place-requires
put_bytes-place-requires c κs = let s = c in omega (arith, s.requires.1, fields_length s.args.word.now s.args.a s.args.b)

put_field-place-requires : tie.Need-put_field-place-requires
put_field-place-requires c κs =
    let bytes = c.put_bytes-place in
    let s = c in
    (s.requires.0.0, omega (arith, s.requires.1, fields_length s.args.word.now s.args.a s.args.b, bytes.ensures.0, bytes.auto.out))

put_field-requires : tie.Need-put_field-requires
put_field-requires c κs =
    let first = c.put_field-place in
    let bytes = c.put_bytes-place in
    let s = c in
    (s.requires.0.1, omega (arith, s.requires.1, fields_length s.args.word.now s.args.a s.args.b, bytes.ensures.0, bytes.auto.out, first.ensures.0, first.auto.out))

shape_of-out : tie.Need-shape_of-out
shape_of-out c = search rules

returns : tie.Need-returns
returns c =
    let second = c.put_field.ensures in
    let first = c.put_field-place.ensures in
    let bytes = c.put_bytes-place.ensures in
    fields_written _ _ _ _ _ bytes.0 bytes.1 first.0 first.1 second.0 second.1

pub put_fields_spec : {M : Type 1} → statement M
put_fields_spec =
    tie.close
    (tie.spec put_bytes-place-requires put_field-place-requires put_field-requires shape_of-out returns)
