-- `tickdrizzle_next_embedding_among` meets its contract: it writes what `search::next_among` answers, and both buffers are as that leaves them.
-- Assumes nothing.
use borrow.Author.Rules.{rules}
use Rattle.numbers.specs.Numbers.{sought_values}
use Rattle.numbers.proofs.Returned.{words_left}
use Rattle.exports.proofs.tickdrizzle_next_embedding_among.Statement.{statement}
use Rattle.exports.proofs.tickdrizzle_next_embedding_among.Tie as tie

returns : tie.Need-returns
returns c = words_left sought_values _ c.search_words.ensures c.next_among.ensures

pub tickdrizzle_next_embedding_among_spec : {M : Type 1} → statement M
tickdrizzle_next_embedding_among_spec =
    tie.close
    (tie.spec (λ c κs. search rules) (λ c κs. search rules) (λ c. search rules) (λ c. search rules) returns)
