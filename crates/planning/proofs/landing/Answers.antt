use Rattle.std.proofs.Common.{◌-◌, ◌/◌, arith, subst}
use Rattle.planning.proofs.Points.{Left, left_begin, left_next, left_image}
use Rattle.planning.proofs.landing.Goals as goal

pub loop-point-init : goal.loop-point-init
loop-point-init c = λ h. subst (Left c.args.degree c.args.k h c.args.x (c.args.k - 1)) (omega arith) (left_begin _ _ h _ c.requires.point)

pub loop-point-preserved : goal.loop-point-preserved
loop-point-preserved c =
    λ h.
    subst (Left c.args.degree c.args.k h c.args.x (c.loop-point.rest / c.args.degree)) (omega arith)
    (left_next _ _ h _ _ _ c.requires.point (c.loop-point.invariant h) (omega arith))

pub returns : goal.returns
returns c = record { answer = left_image _ _ c.requires.number _ _ _ c.requires.point (c.loop-point.invariant c.requires.number) (omega arith) }
