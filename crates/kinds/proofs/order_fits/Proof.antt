-- `order_fits` meets its contract: each kind has its own test. Assumes nothing.
use mathlib.Core.Path.{ap, sym}
use mathlib.Core.Bool.{Bool}
use Rattle.calls.specs.Kinds.{order_fits}
use Rattle.semigroups.specs.InnerSearch.{plain_kind}
use Rattle.kinds.proofs.order_fits.Statement.{statement}
use Rattle.kinds.proofs.order_fits.Tie as tie

returns-then-onto : tie.Need-returns-then-onto
returns-then-onto c = let a = c.args in ap (λ (b : Bool). order_fits (plain_kind b) a.m a.n) (sym c.if-onto.true)

returns : tie.Need-returns
returns c = let a = c.args in ap (λ (b : Bool). order_fits (plain_kind b) a.m a.n) (sym c.if-onto.false)

pub order_fits_spec : {M : Type 1} → statement M
order_fits_spec = tie.close (tie.spec returns-then-onto returns)
