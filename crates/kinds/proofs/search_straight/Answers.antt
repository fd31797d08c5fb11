use Rattle.std.proofs.Common.{sym, ap, ◌∙◌, ℕ, List}
use Rattle.std.specs.Prelude.{Option as Optional, None, Result, Ok}
use mathlib.Core.Option.{none}
use Rattle.semigroups.specs.InnerSearch.{plain_kind}
use Rattle.semigroups.specs.Trials.{work}
use Rattle.backtrack.specs.declared.Ended.{Ended}
use Rattle.backtrack.specs.declared.Stopped.{Stopped}
use Rattle.backtrack.specs.InnerState.{bounded}
use Rattle.calls.specs.Calls.{lend}
use Rattle.kinds.specs.InnerSearching.{put}
use Rattle.kinds.proofs.Marked.{no_work, nothing_written, written}
use Rattle.kinds.proofs.Searching.{as_searched}
use Rattle.kinds.proofs.Works.{work_unfit, work_marked}
use Rattle.kinds.proofs.search_straight.Goals as goal

pub returns-then-not-order_fits : goal.returns-then-not-order_fits
returns-then-not-order_fits c =
    let a = c.args in
    record {
      call = as_searched (plain_kind a.onto) a.next a.limit (lend a.source.now a.m a.target.now a.n a.map.now a.scratch.now) _ (work none 0)
          (work_unfit (plain_kind a.onto) (bounded a.next a.map.now) a.m a.source.now a.n a.target.now (sym c.order_fits.ensures.answer ∙ c.if-not-order_fits.true))
          (ap {B = Result Ended Stopped} (λ (left : ℕ). Ok (record { left = left; map = None })) c.allowance.ensures.answer ∙ no_work a.limit) (nothing_written a.limit a.map.now) c.mark.ensures.scratch;
    }

pub returns : goal.returns
returns c =
    let a = c.args in
    let filled = c.mark.ensures.scratch in
    let is = c.find_marked-result.ensures.answer in
    let accepted = c.requires.accepted in
    record {
      call = as_searched (plain_kind a.onto) a.next a.limit (lend a.source.now a.m a.target.now a.n a.map.now a.scratch.now) c.find_marked-result.result _
          (work_marked a.onto a.next a.m a.source.now a.n a.target.now a.map.now a.scratch.now _ filled (sym c.order_fits.ensures.answer ∙ c.if-not-order_fits.false))
          is
          (c.put_found.ensures.map ∙ ap (λ (o : Optional (List ℕ)). put a.m o a.map.now) c.map_of.ensures.answer ∙ written a.next a.m a.source.now a.n a.target.now a.map.now _ accepted.0.filled a.limit c.find_marked-result.result is)
          filled;
    }
