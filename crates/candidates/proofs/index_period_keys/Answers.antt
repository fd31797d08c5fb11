-- Two parts are appended, one after the other.
use Rattle.semigroups.specs.Invariants.{index_period}
use Rattle.candidates.specs.InnerKeys.{packed, index_period_key}
use Rattle.candidates.proofs.Keys.{append_index, append_period}
use Rattle.candidates.proofs.index_period_keys.Goals as goal

pub append-indices-requires : goal.append-indices-requires
append-indices-requires c =
    let powers = c.all_index_period_keys-powers in
    (c.requires.order.1, (append_index c.args.n c.args.cells.now c.requires powers.result.index powers.ensures.answer.index).0)

pub append-requires : goal.append-requires
append-requires c =
    let n = c.args.n in
    let cells = c.args.cells.now in
    let powers = c.all_index_period_keys-powers in
    let with_index = (append_index n cells c.requires powers.result.index powers.ensures.answer.index).1 c.append-indices.result c.append-indices.ensures.answer in
    (c.requires.order.1, (append_period n cells c.requires c.append-indices.result with_index powers.result.period powers.ensures.answer.period).0)

pub returns : goal.returns
unfolding index_period_key packed index_period
returns c =
    let n = c.args.n in
    let cells = c.args.cells.now in
    let powers = c.all_index_period_keys-powers in
    let with_index = (append_index n cells c.requires powers.result.index powers.ensures.answer.index).1 c.append-indices.result c.append-indices.ensures.answer in
    record { answer = ((append_period n cells c.requires c.append-indices.result with_index powers.result.period powers.ensures.answer.period).1 c.append.result c.append.ensures.answer).each }
