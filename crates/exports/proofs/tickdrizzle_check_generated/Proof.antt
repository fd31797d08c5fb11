-- `tickdrizzle_check_generated` meets its contract: it writes what `generated::check` answers.
-- Assumes nothing.
use borrow.Author.Rules.{rules}
use Rattle.exports.proofs.tickdrizzle_check_generated.Statement.{statement}
use Rattle.exports.proofs.tickdrizzle_check_generated.Tie as tie

returns : tie.Need-returns
returns c = rw c.check.ensures at c.generators_words.ensures

pub tickdrizzle_check_generated_spec : {M : Type 1} → statement M
tickdrizzle_check_generated_spec = tie.close (tie.spec (λ c κs. search rules) (λ c κs. search rules) returns)
