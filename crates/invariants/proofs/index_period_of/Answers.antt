use Rattle.std.proofs.Common.{arith}
use Rattle.semigroups.proofs.Tables.{filled_closed}
use Rattle.invariants.proofs.Powers.{walk_start, walk_short, walk_step, walk_settled}
use Rattle.invariants.proofs.index_period_of.Goals as goal

pub loop-met-init : goal.loop-met-init
loop-met-init c = walk_start _ _ _ c.requires.element

pub bounds-walk-k : goal.bounds-walk-k
bounds-walk-k c =
    let t = c.args.table.now in
    let o = t.filled.order in
    let h = walk_short _ _ _ (filled_closed _ _ t.filled) c.requires.element _ _ _ _ c.loop-met.invariant c.loop-met-test.true in
    let w = c.loop-met.invariant.from_one in
    omega arith

pub loop-met-smaller : goal.loop-met-smaller
loop-met-smaller c =
    let h = walk_short _ _ _ (filled_closed _ _ c.args.table.now.filled) c.requires.element _ _ _ _ c.loop-met.invariant c.loop-met-test.true in
    omega arith

pub loop-met-preserved : goal.loop-met-preserved
loop-met-preserved c =
    let t = c.args.table.now in
    walk_step _ _ _ (filled_closed _ _ t.filled) c.requires.element _ _ _ _ c.loop-met.invariant t.filled.order.1 c.loop-met-test.true _ c.times-power.ensures.answer

pub returns : goal.returns
returns c = record { answer = walk_settled _ _ _ (filled_closed _ _ c.args.table.now.filled) c.requires.element _ _ _ _ c.loop-met.invariant c.loop-met-test.false }
