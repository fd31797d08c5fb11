-- `tickdrizzle_check_map` meets its contract: it writes what `maps::check` answers.
-- Assumes nothing.
use borrow.Author.Rules.{rules}
use Rattle.exports.proofs.tickdrizzle_check_map.Statement.{statement}
use Rattle.exports.proofs.tickdrizzle_check_map.Tie as tie

returns : tie.Need-returns
returns c = rw c.check.ensures at c.map_words.ensures

pub tickdrizzle_check_map_spec : {M : Type 1} → statement M
tickdrizzle_check_map_spec = tie.close (tie.spec (λ c κs. search rules) (λ c κs. search rules) returns)
