-- `tickdrizzle_least_degree` meets its contract: it writes what `planning::least_degree` answers, and the positions are as that leaves them.
-- Assumes nothing.
use borrow.Author.Rules.{rules}
use Rattle.exports.proofs.tickdrizzle_least_degree.Statement.{statement}
use Rattle.exports.proofs.tickdrizzle_least_degree.Tie as tie

returns : tie.Need-returns
returns c =
    let called = c.least_degree.ensures in
    (rw called.0 at c.degree_words.ensures, called.1)

pub tickdrizzle_least_degree_spec : {M : Type 1} → statement M
tickdrizzle_least_degree_spec =
    tie.close (tie.spec (λ c κs. search rules) (λ c κs. search rules) (λ c. search rules) returns)
