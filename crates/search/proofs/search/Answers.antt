-- A failed question changes no byte; once every question has passed, the call finds the map asked for.
use Rattle.std.proofs.Common.{sym}
use Rattle.kinds.specs.Answers.{kind_of}
use Rattle.calls.specs.Calls.{Lent, lend}
use Rattle.search.proofs.Calls.{stands, refused_unchanged, passing}
use Rattle.search.proofs.search.Goals as goal

pub returns-in-Err : goal.returns-in-Err
returns-in-Err c =
    let a = c.args in
    let l : Lent = lend a.source.now a.m a.target.now a.n a.map.now a.scratch.now in
    record { call = sym (refused_unchanged (kind_of a.kind) l _ _ (sym c.in-Err.ensures.answer)) }

pub find-requires-clause-map_len : goal.find-requires-clause-map_len
find-requires-clause-map_len c =
    let a = c.args in
    let l : Lent = lend a.source.now a.m a.target.now a.n a.map.now a.scratch.now in
    (stands l (sym c.in_default.ensures.answer)).1

pub returns-then-find : goal.returns-then-find
returns-then-find c =
    let a = c.args in
    let l : Lent = lend a.source.now a.m a.target.now a.n a.map.now a.scratch.now in
    record { call = passing (kind_of a.kind) l _ (sym c.in_default.ensures.answer) c.find.result _ c.if-find.true c.find.ensures.call }

pub returns : goal.returns
returns c =
    let a = c.args in
    let l : Lent = lend a.source.now a.m a.target.now a.n a.map.now a.scratch.now in
    record { call = passing (kind_of a.kind) l _ (sym c.in_default.ensures.answer) c.find.result _ c.if-find.false c.find.ensures.call }
