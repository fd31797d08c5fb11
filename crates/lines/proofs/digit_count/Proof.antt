-- `digit_count` returns the length of a decimal number.
-- Assumes nothing.
use mathlib.Core.Path.{ap, sym}
use lib.ListN.{length}
use Rattle.rfc4180.proofs.Decimals.{numeral_one, numeral_two, numeral_three}
use Rattle.lines.proofs.digit_count.Statement.{statement}
use Rattle.lines.proofs.digit_count.Tie as tie

returns-then-k-lt10 : tie.Need-returns-then-k-lt10
returns-then-k-lt10 c = sym (ap length (numeral_one _ c.if-k-lt10.true))

returns-then-k-lt100 : tie.Need-returns-then-k-lt100
returns-then-k-lt100 c = sym (ap length (numeral_two _ c.if-k-lt10.false c.if-k-lt100.true))

returns : tie.Need-returns
returns c = sym (ap length (numeral_three _ c.if-k-lt100.false c.requires))

pub digit_count_spec : {M : Type 1} → statement M
digit_count_spec = tie.close (tie.spec returns-then-k-lt10 returns-then-k-lt100 returns)
