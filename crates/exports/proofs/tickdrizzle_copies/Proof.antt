-- `tickdrizzle_copies` meets its contract: it writes what `copies::copies` answers, and scratch is as that leaves it.
-- Assumes nothing.
use borrow.Author.Rules.{rules}
use Rattle.exports.proofs.tickdrizzle_copies.Statement.{statement}
use Rattle.exports.proofs.tickdrizzle_copies.Tie as tie

returns : tie.Need-returns
returns c =
    let called = c.copies.ensures in
    (rw called.0 at c.copies_words.ensures, called.1)

pub tickdrizzle_copies_spec : {M : Type 1} → statement M
tickdrizzle_copies_spec = tie.close (tie.spec (λ c κs. search rules) (λ c κs. search rules) (λ c. search rules) returns)
