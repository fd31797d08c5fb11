use Rattle.std.proofs.Common.{◌≡◌, ℕ, ap, arith}
use Rattle.semigroups.specs.Tables.{Product, Element}
use Rattle.semigroups.specs.Invariants as marks
use Rattle.semigroups.proofs.Tables.{filled_closed}
use Rattle.products.proofs.PerElement.{fill_start, fill_step}
use Rattle.invariants.specs.InnerPowers.{settled}
use Rattle.invariants.proofs.Powers.{index_at_most, period_at_most}
use Rattle.invariants.proofs.all_index_period_keys.Goals as goal

module _ (n : ℕ) (s : Product) (a : ℕ) (r : marks.IndexPeriod) (e : r ≡ settled n s a) where
  index_is : r.index ≡ marks.index n s a
  unfolding settled
  index_is = ap (λ (v : marks.IndexPeriod). v.index) e

  period_is : r.period ≡ marks.period n s a
  unfolding settled
  period_is = ap (λ (v : marks.IndexPeriod). v.period) e

pub loop-a-init : goal.loop-a-init
loop-a-init c = record { index = fill_start _; period = fill_start _ }

pub overflow_cast-index : goal.overflow_cast-index
overflow_cast-index c =
    let t = c.args.table.now in
    let o = t.filled.order in
    let a : Element t.order c.loop-a.a = omega arith in
    let e = index_is _ _ _ _ c.index_period_of-powers.ensures.answer in
    omega (arith, index_at_most _ _ _ (filled_closed _ _ t.filled) a)

pub overflow_cast-period : goal.overflow_cast-period
overflow_cast-period c =
    let t = c.args.table.now in
    let o = t.filled.order in
    let a : Element t.order c.loop-a.a = omega arith in
    let e = period_is _ _ _ _ c.index_period_of-powers.ensures.answer in
    omega (arith, period_at_most _ _ _ (filled_closed _ _ t.filled) a)

pub loop-a-preserved : goal.loop-a-preserved
loop-a-preserved c =
    let o = c.args.table.now.filled.order in
    let e = c.index_period_of-powers.ensures.answer in
    record {
      index = fill_step _ c.loop-a.a _ _ c.loop-a.invariant.index (omega arith) (index_is _ _ _ _ e);
      period = fill_step _ c.loop-a.a _ _ c.loop-a.invariant.period (omega arith) (period_is _ _ _ _ e);
    }
