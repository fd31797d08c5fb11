-- A failed question changes no byte; once every question has passed, the call says and leaves what is found.
use Rattle.std.proofs.Common.{sym}
use Rattle.calls.specs.Calls.{Lent, lend}
use Rattle.search.proofs.Among.{stands_among, refused_among, passing_among}
use Rattle.search.proofs.search_among.Goals as goal

pub returns-in-Err : goal.returns-in-Err
returns-in-Err c =
    let a = c.args in
    let l : Lent = lend a.source.now a.m a.target.now a.n a.map.now a.scratch.now in
    record { call = sym (refused_among _ a.pairs.now l _ (sym c.in-Err.ensures.answer)) }

pub find_among-requires-clause-map_len : goal.find_among-requires-clause-map_len
find_among-requires-clause-map_len c =
    let a = c.args in
    let l : Lent = lend a.source.now a.m a.target.now a.n a.map.now a.scratch.now in
    (stands_among a.pairs.now l (sym c.in_default.ensures.answer)).1.0

pub find_among-requires-clause-n_in_bounds : goal.find_among-requires-clause-n_in_bounds
find_among-requires-clause-n_in_bounds c =
    let a = c.args in
    let l : Lent = lend a.source.now a.m a.target.now a.n a.map.now a.scratch.now in
    (stands_among a.pairs.now l (sym c.in_default.ensures.answer)).1.1

pub returns-then-not-find_among : goal.returns-then-not-find_among
returns-then-not-find_among c =
    let a = c.args in
    let l : Lent = lend a.source.now a.m a.target.now a.n a.map.now a.scratch.now in
    record { call = passing_among _ a.pairs.now l (sym c.in_default.ensures.answer) c.find_among.result _ c.if-not-find_among.true c.find_among.ensures.call }

pub returns : goal.returns
returns c =
    let a = c.args in
    let l : Lent = lend a.source.now a.m a.target.now a.n a.map.now a.scratch.now in
    record { call = passing_among _ a.pairs.now l (sym c.in_default.ensures.answer) c.find_among.result _ c.if-not-find_among.false c.find_among.ensures.call }
