-- `tickdrizzle_profile` meets its contract: it writes what `invariants::profile` answers.
-- Assumes nothing.
use borrow.Author.Rules.{rules}
use Rattle.exports.proofs.tickdrizzle_profile.Statement.{statement}
use Rattle.exports.proofs.tickdrizzle_profile.Tie as tie

returns : tie.Need-returns
returns c = rw c.profile.ensures at c.profile_words.ensures

pub tickdrizzle_profile_spec : {M : Type 1} → statement M
tickdrizzle_profile_spec = tie.close (tie.spec (λ c κs. search rules) (λ c κs. search rules) returns)
