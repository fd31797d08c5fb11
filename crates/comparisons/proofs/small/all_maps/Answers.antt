use Rattle.std.proofs.Common.{◌≡◌, ◌^◌, ◌*◌, ℕ, ap, ◌∙◌, arith}
use Rattle.plain.proofs.Fronts.{front_read}
use Rattle.judging.specs.InnerTally.{empty, agreed}
use Rattle.comparisons.specs.InnerWalking.{calls_from}
use Rattle.comparisons.proofs.Walking.{from_begin, from_next}
use Rattle.comparisons.proofs.small.all_maps.Goals as goal

pub loop-k-init : goal.loop-k-init
loop-k-init c = from_begin c.args.m c.args.n c.start-tally.ensures.answer

pub loop-k-preserved : goal.loop-k-preserved
loop-k-preserved c =
    let m = c.args.m in
    from_next _ _ _ _ _ (front_read (m * m) m c.loop-k.k (omega arith) _ c.list_number-source.ensures.list) c.loop-k.invariant c.maps_from-tally.ensures.answer

pub returns : goal.returns
returns c =
    let a = c.args in
    let e : c.loop-k.k ≡ a.m ^ (a.m * a.m) = omega arith in
    record { answer = c.loop-k.invariant ∙ ap (λ (x : ℕ). agreed (calls_from a.m a.n x) empty) e }
