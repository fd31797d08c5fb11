-- `tickdrizzle_check_table` meets its contract: it writes what `tables::check` answers.
-- Assumes nothing.
use borrow.Author.Rules.{rules}
use Rattle.exports.proofs.tickdrizzle_check_table.Statement.{statement}
use Rattle.exports.proofs.tickdrizzle_check_table.Tie as tie

returns : tie.Need-returns
returns c = rw c.check.ensures at c.verdict_words.ensures

pub tickdrizzle_check_table_spec : {M : Type 1} → statement M
tickdrizzle_check_table_spec = tie.close (tie.spec (λ c κs. search rules) (λ c κs. search rules) returns)
