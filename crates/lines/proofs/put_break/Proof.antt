-- `put_break` writes CR LF. Assumes nothing.
use mathlib.Core.Path.{refl}
use native.Mathlib.Numerals.{add-one}
use native.Mathlib.Omega.{arith}
use borrow.Author.Rules.{rules}
use lib.ListN.{length-set}
use Rattle.lines.proofs.put_break.Statement.{statement}
use Rattle.lines.proofs.put_break.Tie as tie

bounds-out-at-2 : tie.Need-bounds-out-at-2
bounds-out-at-2 c = rw length-set (omega arith)

returns : tie.Need-returns
returns c = (refl, rw add-one)

pub put_break_spec : {M : Type 1} → statement M
put_break_spec =
    tie.close (tie.spec (λ c. search rules) (λ c. search rules) bounds-out-at-2 (λ c. search rules) (λ c. search rules) returns)
