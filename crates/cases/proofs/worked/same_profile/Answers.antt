-- If numbers are given, it is the definition's comparison.
use Rattle.std.proofs.Common.{sym, ap}
use Rattle.semigroups.specs.Invariants.{same_index_period, same_profile}
use Rattle.invariants.specs.Answers.{profile_value, profile_says}
use Rattle.cases.specs.InnerAnswering.{same_given_profile}
use Rattle.cases.proofs.worked.same_profile.Goals as goal

pub returns : goal.returns
unfolding same_profile same_index_period
returns c = record { answer = sym (ap (λ x. same_given_profile (profile_says x) (profile_value c.args.b)) c.in-Ok.is) }
