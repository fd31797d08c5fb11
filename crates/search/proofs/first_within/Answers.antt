-- A failed question changes no byte; once every question has passed, the call says and leaves what the limit allows.
use Rattle.std.proofs.Common.{sym, true, false, ◌∙◌}
use Rattle.kinds.specs.Answers.{kind_of}
use Rattle.calls.specs.Calls.{Lent, lend}
use Rattle.search.proofs.Calls.{stands}
use Rattle.search.proofs.Limited.{refused_unchanged, left_within, as_stopped, as_ended}
use Rattle.search.proofs.first_within.Goals as goal

pub returns-in-Err : goal.returns-in-Err
returns-in-Err c =
    let a = c.args in
    let l : Lent = lend a.source.now a.m a.target.now a.n a.map.now a.scratch.now in
    record { call = sym (refused_unchanged (kind_of a.kind) a.limit l _ (sym c.in-Err.ensures.answer)) }

pub search_kind-result-requires-clause-map_len : goal.search_kind-result-requires-clause-map_len
search_kind-result-requires-clause-map_len c =
    let a = c.args in
    let l : Lent = lend a.source.now a.m a.target.now a.n a.map.now a.scratch.now in
    (stands l (sym c.in_default.ensures.answer)).1

pub overflow_sub-trials : goal.overflow_sub-trials
overflow_sub-trials c =
    let a = c.args in
    let l : Lent = lend a.source.now a.m a.target.now a.n a.map.now a.scratch.now in
    left_within (kind_of a.kind) a.limit l (sym c.in_default.ensures.answer) c.search_kind-result.result c.search_kind-result.ensures.call c.in-Ok.ended c.in-Ok.is

pub returns-in_default-result : goal.returns-in_default-result
returns-in_default-result c =
    let a = c.args in
    let l : Lent = lend a.source.now a.m a.target.now a.n a.map.now a.scratch.now in
    let w = c.search_kind-result in
    record { call = as_stopped (kind_of a.kind) a.limit l (sym c.in_default.ensures.answer) w.result w.ensures.call c.in_default-result.field-0 c.in_default-result.is }

pub returns-then-is_some : goal.returns-then-is_some
returns-then-is_some c =
    let a = c.args in
    let l : Lent = lend a.source.now a.m a.target.now a.n a.map.now a.scratch.now in
    let w = c.search_kind-result in
    record { call = as_ended (kind_of a.kind) a.limit l (sym c.in_default.ensures.answer) w.result w.ensures.call c.in-Ok.ended c.in-Ok.is true (sym c.is_some.ensures ∙ c.if-is_some.true) }

pub returns : goal.returns
returns c =
    let a = c.args in
    let l : Lent = lend a.source.now a.m a.target.now a.n a.map.now a.scratch.now in
    let w = c.search_kind-result in
    record { call = as_ended (kind_of a.kind) a.limit l (sym c.in_default.ensures.answer) w.result w.ensures.call c.in-Ok.ended c.in-Ok.is false (sym c.is_some.ensures ∙ c.if-is_some.false) }
