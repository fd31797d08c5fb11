use Rattle.std.proofs.Common.{◌≡◌, ◌^◌, ◌*◌, ℕ, ap, ◌∙◌, arith}
use Rattle.plain.proofs.Fronts.{front_read}
use Rattle.judging.specs.InnerTally.{agreed}
use Rattle.comparisons.specs.InnerWalking.{calls_to}
use Rattle.comparisons.proofs.Walking.{calls_begin, calls_next}
use Rattle.comparisons.proofs.small.maps_to.Goals as goal

pub loop-k-init : goal.loop-k-init
loop-k-init c = calls_begin c.args.source.now c.args.m c.args.n c.args.tally

pub loop-k-preserved : goal.loop-k-preserved
loop-k-preserved c =
    let n = c.args.n in
    calls_next _ _ _ _ _ _ (front_read (n * n) n c.loop-k.k (omega arith) _ c.list_number-target.ensures.list) c.loop-k.invariant c.maps_between-tally.ensures.answer

pub returns : goal.returns
returns c =
    let a = c.args in
    let e : c.loop-k.k ≡ a.n ^ (a.n * a.n) = omega arith in
    record { answer = c.loop-k.invariant ∙ ap (λ (x : ℕ). agreed (calls_to a.source.now a.m a.n x) a.tally) e }
