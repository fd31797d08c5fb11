use Rattle.std.proofs.Common.{ap, ◌∙◌, Bool}
use Rattle.std.specs.Prelude.{is_some}
use Rattle.semigroups.specs.Calls.{gives}
use Rattle.kinds.specs.Answers.{kind_of, sought_if}
use Rattle.calls.specs.Calls.{lend, called}
use Rattle.kinds.proofs.Searching.{as_answered}
use Rattle.kinds.proofs.find.Goals as goal

pub returns : goal.returns
returns c =
    let a = c.args in
    let r = c.requires.accepted in
    record {
      call = ap (λ (b : Bool). called (gives (sought_if b)) c.search_kind-result.new.map c.search_kind-result.new.scratch) (c.is_some.ensures ∙ ap is_some c.map_of.ensures.answer)
          ∙ as_answered (kind_of a.kind) a.next (lend a.source.now a.m a.target.now a.n a.map.now a.scratch.now) r.0 r.1 c.search_kind-result.result c.search_kind-result.ensures.call;
    }
