use Rattle.std.proofs.Common.{sym, ap, ◌∙◌, List, ℕ}
use Rattle.std.specs.Prelude.{Option as Optional, Result, Ok}
use Rattle.backtrack.specs.declared.Ended.{Ended}
use Rattle.backtrack.specs.declared.Stopped.{Stopped}
use Rattle.backtrack.specs.InnerState.{ended_of}
use Rattle.kinds.specs.InnerSearching.{remainder_under, marked_work}
use Rattle.kinds.proofs.Marked.{marked_unlimited}
use Rattle.kinds.proofs.find_marked.Goals as goal

pub returns-in-None : goal.returns-in-None
unfolding ended_of
returns-in-None c =
    let a = c.args in
    record {
      answer = ap {B = Result Ended Stopped} (λ (o : Optional (List ℕ)). Ok (record { left = 0; map = o })) (c.find.ensures.answer ∙ marked_unlimited a.next a.m a.source.now a.n a.target.now a.after.now a.scratch.now)
          ∙ ap (λ (l : Optional ℕ). ended_of (remainder_under l (marked_work a.next a.m a.source.now a.n a.target.now a.after.now a.scratch.now))) (sym c.in-None.is);
    }

pub returns-in-Some : goal.returns-in-Some
returns-in-Some c =
    let a = c.args in
    record {
      answer = c.find_within.ensures.answer
          ∙ ap (λ (l : Optional ℕ). ended_of (remainder_under l (marked_work a.next a.m a.source.now a.n a.target.now a.after.now a.scratch.now))) (sym c.in-Some.is);
    }
