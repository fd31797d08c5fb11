-- `put_field` writes a comma and a number. Assumes nothing.
use mathlib.Core.Path.{◌∙◌}
use native.Mathlib.Numerals.{add-one}
use native.Mathlib.Omega.{arith}
use borrow.Author.Rules.{rules}
use lib.ListN.{length-set}
use Rattle.lines.proofs.put_field.Statement.{statement}
use Rattle.lines.proofs.put_field.Tie as tie

shape_of-out : tie.Need-shape_of-out
shape_of-out c = c.put_number.auto.out ∙ simp length-set

returns : tie.Need-returns
returns c = (let e = c.put_number.ensures.0 in omega arith, c.put_number.ensures.1 ∙ rw add-one)

pub put_field_spec : {M : Type 1} → statement M
put_field_spec =
    tie.close (tie.spec (λ c. search rules) (λ c. search rules) (λ c κs. search rules) shape_of-out returns)
