-- The counts are appended to the key of the index-period, one after the other.
use Rattle.semigroups.specs.Invariants.{profile}
use Rattle.candidates.specs.InnerKeys.{packed, profile_key}
use Rattle.candidates.proofs.Keys.{powers_keys, append_frequency, append_diagonal, append_row, append_column, append_commuting}
use Rattle.candidates.proofs.profile_keys.Goals as goal

pub append-frequencies-requires : goal.append-frequencies-requires
append-frequencies-requires c =
    let n = c.args.n in
    let cells = c.args.cells.now in
    let r = c.all_counts-counts.result in
    let e = c.all_counts-counts.ensures.answer in
    let k0 = powers_keys n cells c.requires r e c.index_period_keys-powers.result c.index_period_keys-powers.ensures.answer in
    (c.requires.order.1, (append_frequency n cells c.requires r e c.index_period_keys-powers.result k0).0)

pub append-diagonals-requires : goal.append-diagonals-requires
append-diagonals-requires c =
    let n = c.args.n in
    let cells = c.args.cells.now in
    let r = c.all_counts-counts.result in
    let e = c.all_counts-counts.ensures.answer in
    let k0 = powers_keys n cells c.requires r e c.index_period_keys-powers.result c.index_period_keys-powers.ensures.answer in
    let k1 = (append_frequency n cells c.requires r e c.index_period_keys-powers.result k0).1 c.append-frequencies.result c.append-frequencies.ensures.answer in
    (c.requires.order.1, (append_diagonal n cells c.requires r e c.append-frequencies.result k1).0)

pub append-rows-requires : goal.append-rows-requires
append-rows-requires c =
    let n = c.args.n in
    let cells = c.args.cells.now in
    let r = c.all_counts-counts.result in
    let e = c.all_counts-counts.ensures.answer in
    let k0 = powers_keys n cells c.requires r e c.index_period_keys-powers.result c.index_period_keys-powers.ensures.answer in
    let k1 = (append_frequency n cells c.requires r e c.index_period_keys-powers.result k0).1 c.append-frequencies.result c.append-frequencies.ensures.answer in
    let k2 = (append_diagonal n cells c.requires r e c.append-frequencies.result k1).1 c.append-diagonals.result c.append-diagonals.ensures.answer in
    (c.requires.order.1, (append_row n cells c.requires r e c.append-diagonals.result k2).0)

pub append-columns-requires : goal.append-columns-requires
append-columns-requires c =
    let n = c.args.n in
    let cells = c.args.cells.now in
    let r = c.all_counts-counts.result in
    let e = c.all_counts-counts.ensures.answer in
    let k0 = powers_keys n cells c.requires r e c.index_period_keys-powers.result c.index_period_keys-powers.ensures.answer in
    let k1 = (append_frequency n cells c.requires r e c.index_period_keys-powers.result k0).1 c.append-frequencies.result c.append-frequencies.ensures.answer in
    let k2 = (append_diagonal n cells c.requires r e c.append-frequencies.result k1).1 c.append-diagonals.result c.append-diagonals.ensures.answer in
    let k3 = (append_row n cells c.requires r e c.append-diagonals.result k2).1 c.append-rows.result c.append-rows.ensures.answer in
    (c.requires.order.1, (append_column n cells c.requires r e c.append-rows.result k3).0)

pub append-requires : goal.append-requires
append-requires c =
    let n = c.args.n in
    let cells = c.args.cells.now in
    let r = c.all_counts-counts.result in
    let e = c.all_counts-counts.ensures.answer in
    let k0 = powers_keys n cells c.requires r e c.index_period_keys-powers.result c.index_period_keys-powers.ensures.answer in
    let k1 = (append_frequency n cells c.requires r e c.index_period_keys-powers.result k0).1 c.append-frequencies.result c.append-frequencies.ensures.answer in
    let k2 = (append_diagonal n cells c.requires r e c.append-frequencies.result k1).1 c.append-diagonals.result c.append-diagonals.ensures.answer in
    let k3 = (append_row n cells c.requires r e c.append-diagonals.result k2).1 c.append-rows.result c.append-rows.ensures.answer in
    let k4 = (append_column n cells c.requires r e c.append-rows.result k3).1 c.append-columns.result c.append-columns.ensures.answer in
    (c.requires.order.1, (append_commuting n cells c.requires r e c.append-columns.result k4).0)

pub returns : goal.returns
unfolding packed profile_key profile
returns c =
    let n = c.args.n in
    let cells = c.args.cells.now in
    let r = c.all_counts-counts.result in
    let e = c.all_counts-counts.ensures.answer in
    let k0 = powers_keys n cells c.requires r e c.index_period_keys-powers.result c.index_period_keys-powers.ensures.answer in
    let k1 = (append_frequency n cells c.requires r e c.index_period_keys-powers.result k0).1 c.append-frequencies.result c.append-frequencies.ensures.answer in
    let k2 = (append_diagonal n cells c.requires r e c.append-frequencies.result k1).1 c.append-diagonals.result c.append-diagonals.ensures.answer in
    let k3 = (append_row n cells c.requires r e c.append-diagonals.result k2).1 c.append-rows.result c.append-rows.ensures.answer in
    let k4 = (append_column n cells c.requires r e c.append-rows.result k3).1 c.append-columns.result c.append-columns.ensures.answer in
    record { answer = ((append_commuting n cells c.requires r e c.append-columns.result k4).1 c.append.result c.append.ensures.answer).each }
