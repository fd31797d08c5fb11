-- What the answers about an element mean (RULES 7 and 4): the number of the failed question and the values said with
-- it, or the numbers that were asked for. Assumes nothing.
use Rattle.std.specs.Prelude.{Result}
use Rattle.std.proofs.Math.Option.{Option}
use Rattle.semigroups.specs.Questions.{Refusal}
use Rattle.semigroups.specs.Calls.{Answer}
use Rattle.semigroups.specs.Results.{refusal_in, answer_in}
use Rattle.semigroups.specs.Invariants as marks
use Rattle.answers.specs.Answers.{no_refusal}
use Rattle.answers.specs.declared.No.{No}
use Rattle.invariants.specs.declared.IndexPeriod.{IndexPeriod}
use Rattle.invariants.specs.declared.ElementProfile.{ElementProfile}

-- ---- questions

-- The refusal of a verdict; there is none if every question has passed.
abbrev pub element_verdict_refusal : {A : Type 0} → Result A No → Option Refusal
element_verdict_refusal said = refusal_in no_refusal said

-- ---- answers

-- The index-period that the code's numbers stand for.
abbrev pub index_period_value : IndexPeriod → marks.IndexPeriod
index_period_value r = record { index = r.index; period = r.period; idempotent = r.idempotent }

-- What an answer about the index-period says.
abbrev pub index_period_says : Result IndexPeriod No → Answer marks.IndexPeriod
index_period_says said = answer_in index_period_value no_refusal said

-- The profile that the code's numbers stand for.
abbrev pub profile_value : ElementProfile → marks.Profile
profile_value r =
    record {
      powers = index_period_value r.powers;
      frequency = r.frequency;
      diagonal = r.diagonal;
      row = r.row;
      column = r.column;
      commuting = r.commuting;
    }

-- What an answer about the profile says.
abbrev pub profile_says : Result ElementProfile No → Answer marks.Profile
profile_says said = answer_in profile_value no_refusal said
