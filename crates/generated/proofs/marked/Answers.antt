use Rattle.std.proofs.Common.{refl, arith}
use Rattle.semigroups.proofs.NoRepeats.{place_mem}
use Rattle.light.proofs.Indicators.{indicator_nil, indicator_next, indicator_all}
use Rattle.generated.proofs.marked.Goals as goal

pub loop-x-init : goal.loop-x-init
loop-x-init c = indicator_nil

pub bounds-marks-x : goal.bounds-marks-x
bounds-marks-x c =
    let b = c.requires _ (place_mem 0 _ _ c.loop-x-test.true) in
    omega arith

pub loop-x-preserved : goal.loop-x-preserved
loop-x-preserved c = indicator_next _ _ _ c.loop-x.invariant c.loop-x-test.true _ (c.requires _ (place_mem 0 _ _ c.loop-x-test.true)).1 refl

pub returns : goal.returns
returns c = record { answer = indicator_all _ _ _ c.loop-x.invariant c.loop-x-test.false }
