-- `tickdrizzle_load_names` meets its contract: it writes what `names::load` answers, and both buffers are as that leaves them.
-- Assumes nothing.
use borrow.Author.Rules.{rules}
use Rattle.exports.proofs.tickdrizzle_load_names.Statement.{statement}
use Rattle.exports.proofs.tickdrizzle_load_names.Tie as tie

returns : tie.Need-returns
returns c =
    let called = c.load.ensures in
    ((λ w. rw (called.0 w) at c.numbered_words.ensures), called.1)

pub tickdrizzle_load_names_spec : {M : Type 1} → statement M
tickdrizzle_load_names_spec =
    tie.close
    (tie.spec (λ c κs. search rules) (λ c κs. search rules) (λ c. search rules) (λ c. search rules) returns)
