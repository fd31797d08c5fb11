-- `tickdrizzle_subsemigroup` meets its contract: it writes what `parts::subsemigroup` answers, and both buffers are as that leaves them.
-- Assumes nothing.
use borrow.Author.Rules.{rules}
use Rattle.exports.proofs.tickdrizzle_subsemigroup.Statement.{statement}
use Rattle.exports.proofs.tickdrizzle_subsemigroup.Tie as tie

returns : tie.Need-returns
returns c =
    let called = c.subsemigroup.ensures in
    (rw called.0 at c.numbered_words.ensures, called.1)

pub tickdrizzle_subsemigroup_spec : {M : Type 1} → statement M
tickdrizzle_subsemigroup_spec =
    tie.close
    (tie.spec (λ c κs. search rules) (λ c κs. search rules) (λ c. search rules) (λ c. search rules) returns)
