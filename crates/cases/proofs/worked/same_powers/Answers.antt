-- If numbers are given, it is the definition's comparison.
use Rattle.std.proofs.Common.{sym, ap}
use Rattle.semigroups.specs.Invariants.{same_index_period}
use Rattle.invariants.specs.Answers.{index_period_value, index_period_says}
use Rattle.cases.specs.InnerAnswering.{same_given_powers}
use Rattle.cases.proofs.worked.same_powers.Goals as goal

pub returns : goal.returns
unfolding same_index_period
returns c = record { answer = sym (ap (λ x. same_given_powers (index_period_says x) (index_period_value c.args.b)) c.in-Ok.is) }
