-- A target that is refused is left out, and both walks agree.
use Rattle.std.proofs.Common.{ℕ, sym, ap, ◌∙◌}
use Rattle.plain.proofs.Judging.{judged_accepted}
use Rattle.judging.specs.InnerTally.{agreed}
use Rattle.judging.proofs.Counting.{agreed_none, agreed_add}
use Rattle.comparisons.proofs.Walking.{left_out, taken_in}
use Rattle.comparisons.proofs.small.maps_between.Goals as goal

pub returns-then-is_err : goal.returns-then-is_err
returns-then-is_err c =
    record { answer = agreed_none c.args.tally (left_out c.args.n c.args.target.now _ c.judge.result c.judge.ensures.answer (sym c.is_err.ensures.value ∙ c.if-is_err.true)) }

pub invariant_of-pair : goal.invariant_of-pair
invariant_of-pair c =
    record {
      source_accepted = c.requires.accepted;
      target_accepted = judged_accepted _ _ _ c.judge.ensures.answer (sym c.is_err.ensures.value ∙ c.if-is_err.false);
      small = c.requires.small;
    }

pub returns : goal.returns
returns c =
    let t = c.args.tally in
    let a = judged_accepted _ _ _ c.judge.ensures.answer (sym c.is_err.ensures.value ∙ c.if-is_err.false) in
    record { answer = c.walk.ensures.answer ∙ ap (agreed _) c.walk-embedded.ensures.answer ∙ sym (agreed_add _ _ t) ∙ ap (λ (x : ℕ). agreed x t) (sym (taken_in c.args.n c.args.target.now _ a)) }
