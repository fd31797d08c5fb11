use Rattle.std.proofs.Common.{refl, ap, ◌∙◌, Bool, false}
use Rattle.std.specs.Prelude.{is_some}
use mathlib.Core.Option.{none}
use Rattle.semigroups.specs.Calls.{gives}
use Rattle.semigroups.specs.Tables.{product}
use Rattle.backtrack.specs.InnerState.{bounded}
use Rattle.kinds.specs.Answers.{sought_if}
use Rattle.kinds.specs.InnerSearching.{marked_work}
use Rattle.calls.specs.Calls.{lend, called}
use Rattle.kinds.proofs.Marked.{map_says, put_written}
use Rattle.kinds.proofs.Allowed.{work_allowed, allowed_none}
use Rattle.kinds.proofs.Searching.{as_answered_among}
use Rattle.kinds.proofs.find_among.Goals as goal

pub returns-then-n-m : goal.returns-then-n-m
returns-then-n-m c =
    let a = c.args in
    record {
      call = as_answered_among (bounded a.next a.map.now) a.pairs.now (lend a.source.now a.m a.target.now a.n a.map.now a.scratch.now) false none
          (allowed_none a.m (product a.m a.source.now) a.n (product a.n a.target.now) a.pairs.now (bounded a.next a.map.now) c.if-n-m.true)
          refl refl c.mark_among-all.ensures.scratch;
    }

pub returns : goal.returns
returns c =
    let a = c.args in
    let r = c.find_allowed-found.result in
    let is = c.find_allowed-found.ensures.answer in
    let accepted = c.requires.accepted in
    record {
      call = ap (λ (b : Bool). called (gives (sought_if b)) c.put_found.new.map c.mark_among-all.new.scratch) c.is_some.ensures
          ∙ as_answered_among (bounded a.next a.map.now) a.pairs.now (lend a.source.now a.m a.target.now a.n a.map.now a.scratch.now) (is_some r) _
          (work_allowed a.next a.m a.source.now a.n a.target.now a.pairs.now a.map.now a.scratch.now _ accepted.0 accepted.1 c.mark_among-all.ensures.scratch)
          (map_says (marked_work a.next a.m a.source.now a.n a.target.now a.map.now _) r is)
          (c.put_found.ensures.map ∙ put_written a.next a.m a.source.now a.n a.target.now a.map.now _ accepted.0.filled r is)
          c.mark_among-all.ensures.scratch;
    }
