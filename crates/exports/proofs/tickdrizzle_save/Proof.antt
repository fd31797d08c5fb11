-- `tickdrizzle_save` meets its contract: it writes what `saving::save` answers, and the text is as that leaves it.
-- Assumes nothing.
use borrow.Author.Rules.{rules}
use Rattle.exports.proofs.tickdrizzle_save.Statement.{statement}
use Rattle.exports.proofs.tickdrizzle_save.Tie as tie

returns : tie.Need-returns
returns c =
    let called = c.save.ensures in
    (rw called.0 at c.numbered_words.ensures, called.1)

pub tickdrizzle_save_spec : {M : Type 1} → statement M
tickdrizzle_save_spec = tie.close (tie.spec (λ c κs. search rules) (λ c κs. search rules) (λ c. search rules) returns)
