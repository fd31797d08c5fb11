-- A source that is refused is left out.
use Rattle.std.proofs.Common.{ℕ, sym, ap, ◌∙◌}
use Rattle.plain.proofs.Judging.{judged_accepted}
use Rattle.judging.specs.InnerTally.{agreed}
use Rattle.judging.proofs.Counting.{agreed_none}
use Rattle.comparisons.proofs.Walking.{left_out, taken_in}
use Rattle.comparisons.proofs.small.maps_from.Goals as goal

pub returns-then-is_err : goal.returns-then-is_err
returns-then-is_err c =
    record { answer = agreed_none c.args.tally (left_out c.args.m c.args.source.now _ c.judge.result c.judge.ensures.answer (sym c.is_err.ensures.value ∙ c.if-is_err.true)) }

pub maps_to-requires-clause-accepted : goal.maps_to-requires-clause-accepted
maps_to-requires-clause-accepted c = judged_accepted _ _ _ c.judge.ensures.answer (sym c.is_err.ensures.value ∙ c.if-is_err.false)

pub returns : goal.returns
returns c =
    let a = judged_accepted _ _ _ c.judge.ensures.answer (sym c.is_err.ensures.value ∙ c.if-is_err.false) in
    record { answer = c.maps_to.ensures.answer ∙ ap (λ (x : ℕ). agreed x c.args.tally) (sym (taken_in c.args.m c.args.source.now _ a)) }
