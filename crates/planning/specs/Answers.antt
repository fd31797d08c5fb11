-- What the answers about the least degree mean (RULES 17): the degree, none of these, or the number of the question and the values said with it.
-- Assumes nothing.
use Rattle.std.specs.Prelude.{ℕ, Option as Optional, Result}
use Rattle.std.proofs.Math.Option.{Option}
use Rattle.semigroups.specs.Calls.{Answer}
use Rattle.semigroups.specs.Results.{optional, answer_in}
use Rattle.answers.specs.Answers.{no_refusal}
use Rattle.answers.specs.declared.No.{No}

-- What an answer of the code says.
abbrev pub degree_answer_says : Result (Optional ℕ) No → Answer (Option ℕ)
degree_answer_says r = answer_in optional no_refusal r
