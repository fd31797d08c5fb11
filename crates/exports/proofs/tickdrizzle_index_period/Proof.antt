-- `tickdrizzle_index_period` meets its contract: it writes what `invariants::index_period` answers.
-- Assumes nothing.
use borrow.Author.Rules.{rules}
use Rattle.exports.proofs.tickdrizzle_index_period.Statement.{statement}
use Rattle.exports.proofs.tickdrizzle_index_period.Tie as tie

returns : tie.Need-returns
returns c = rw c.index_period.ensures at c.index_period_words.ensures

pub tickdrizzle_index_period_spec : {M : Type 1} → statement M
tickdrizzle_index_period_spec =
    tie.close (tie.spec (λ c κs. search rules) (λ c κs. search rules) returns)
