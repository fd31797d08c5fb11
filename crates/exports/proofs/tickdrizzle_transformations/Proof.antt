-- `tickdrizzle_transformations` meets its contract: it writes what `transformations::fill` answers, and the cells are as that leaves them.
-- Assumes nothing.
use borrow.Author.Rules.{rules}
use Rattle.exports.proofs.tickdrizzle_transformations.Statement.{statement}
use Rattle.exports.proofs.tickdrizzle_transformations.Tie as tie

returns : tie.Need-returns
returns c =
    let called = c.fill.ensures in
    (rw called.0 at c.numbered_words.ensures, called.1)

pub tickdrizzle_transformations_spec : {M : Type 1} → statement M
tickdrizzle_transformations_spec =
    tie.close (tie.spec (λ c κs. search rules) (λ c κs. search rules) (λ c. search rules) returns)
