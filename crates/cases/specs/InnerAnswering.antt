-- Answers of the library with a "no" as numbers, and tests of whether an answer is the one that the rules give (RULES 4 and 7).
-- Assumes nothing.
use Rattle.std.specs.Prelude.{Bool, false, ◌&&◌, List, ℕ, eqb, Result, Ok, Err}
use Rattle.std.specs.Result.{result_eq}
use Rattle.semigroups.specs.Calls.{Answer, refused, gives}
use Rattle.semigroups.specs.Invariants.{IndexPeriod, same_index_period, Profile, same_profile}
use Rattle.semigroups.specs.Copies.{same_list}
use Rattle.plain.specs.InnerSaid.{refusal_said}
use Rattle.plain.specs.declared.Said.{Said}
use Rattle.judging.specs.InnerSaid.{same_no}
use Rattle.judging.specs.InnerTally.{counted}
use Rattle.judging.specs.declared.tally.Tally.{Tally}

-- The answer: the number given, or the number of the failed question and the values that it carries.
abbrev pub answer_said : Answer ℕ → Result ℕ Said
answer_said (gives k) = Ok k
answer_said (refused r) = Err (refusal_said r)

-- Whether both give the same number, or both refuse with the same number and values.
abbrev pub same_answer : Result ℕ Said → Result ℕ Said → Bool
same_answer = result_eq eqb same_no

-- The tally after two comparisons: whether the answer is this one, and whether the buffer is this afterwards.
abbrev pub numbered_tally : Answer ℕ → Result ℕ Said → List ℕ → List ℕ → Tally → Tally
numbered_tally answer said buffer after t = counted (counted t (same_answer (answer_said answer) said)) (same_list buffer after)

-- Whether the index, the period and the idempotent power given are these.
abbrev pub same_given_powers : Answer IndexPeriod → IndexPeriod → Bool
same_given_powers (gives p) b = same_index_period p b && eqb p.idempotent b.idempotent
same_given_powers (refused r) b = false

-- Whether the profile given is this one, its idempotent power included.
abbrev pub same_given_profile : Answer Profile → Profile → Bool
same_given_profile (gives p) b = same_profile p b && eqb p.powers.idempotent b.powers.idempotent
same_given_profile (refused r) b = false
