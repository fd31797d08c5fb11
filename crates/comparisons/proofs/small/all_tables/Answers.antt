use Rattle.std.proofs.Common.{◌≡◌, ◌^◌, ◌*◌, ℕ, true, refl, ap, ◌∙◌, arith}
use Rattle.judging.specs.declared.tally.Tally.{Tally}
use Rattle.judging.specs.InnerTally.{empty, counted, agreed}
use Rattle.judging.proofs.Counting.{agreed_next}
use Rattle.comparisons.proofs.small.all_tables.Goals as goal

pub loop-k-init : goal.loop-k-init
unfolding agreed
loop-k-init c = c.start-tally.ensures.answer

pub loop-k-preserved : goal.loop-k-preserved
loop-k-preserved c = agreed_next _ _ true (c.compared-tally.ensures.same ∙ ap (λ (t : Tally). counted t true) c.loop-k.invariant) refl

pub returns : goal.returns
returns c =
    let e : c.loop-k.k ≡ c.args.n ^ (c.args.n * c.args.n) = omega arith in
    record { answer = c.loop-k.invariant ∙ ap (λ (x : ℕ). agreed x empty) e }
