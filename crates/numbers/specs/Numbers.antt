-- The sixteen numbers of an answer, as a call from another language gets them (RULES 7.6): the number of the failed question or 0, the side that it names
-- or 0, the values, and zeros. Assumes nothing.
use Rattle.std.specs.Prelude.{List, [], ◌∷◌, ℕ}
use Rattle.std.proofs.Math.Option.{Option, none, some}
use Rattle.semigroups.specs.Questions.{Refusal}
use Rattle.semigroups.specs.Calls.{Answer, refused, gives}
use Rattle.semigroups.specs.Invariants.{IndexPeriod, Profile}
use Rattle.semigroups.specs.MapCheck.{Checked, holds, outside, equal_images, wrong_product}
use Rattle.semigroups.specs.Maps.{Sought, found, nothing}
use Rattle.semigroups.specs.Trials.{Limited, stopped, ended}
use Rattle.semigroups.specs.Copies as copies
use Rattle.numbers.specs.Words.{words}

-- ---- what a call says

-- The sixteen numbers of an answer: those of the refusal; or 0, no side, and the values of what is given.
abbrev pub answer_words : {A : Type 0} → (A → List ℕ) → Answer A → List ℕ
answer_words values (refused r) = words r.number r.side r.values
answer_words values (gives x) = words 0 0 (values x)

-- The sixteen numbers of a call that only asks questions, and so gives no values.
abbrev pub question_words : Option Refusal → List ℕ
question_words (some r) = words r.number r.side r.values
question_words none = words 0 0 []

-- ---- values

-- The values of an index-period: the index, the period and the idempotent power.
abbrev pub index_period_values : IndexPeriod → List ℕ
index_period_values r = r.index ∷ r.period ∷ r.idempotent ∷ []

-- The values of a profile: those of its index-period, then the five counts.
abbrev pub profile_values : Profile → List ℕ
profile_values r = r.powers.index ∷ r.powers.period ∷ r.powers.idempotent ∷ r.frequency ∷ r.diagonal ∷ r.row ∷ r.column ∷ r.commuting ∷ []

-- The values of a map check: 0 for a map that holds; 1 and the element whose image is outside; 2 and the pair with equal images; 3 and the pair whose product
-- fails.
abbrev pub checked_values : Checked → List ℕ
checked_values holds = 0 ∷ []
checked_values (outside i) = 1 ∷ i ∷ []
checked_values (equal_images pair) = 2 ∷ pair
checked_values (wrong_product pair) = 3 ∷ pair

-- The value of a search: 1 for found, 0 for none.
abbrev pub sought_values : Sought → List ℕ
sought_values found = 1 ∷ []
sought_values nothing = 0 ∷ []

-- The values of a search with a limit: 1 for found or 0 for none, with the number of trials; or 2 for stopped.
abbrev pub limited_values : Limited → List ℕ
limited_values (ended found trials) = 1 ∷ trials ∷ []
limited_values (ended nothing trials) = 0 ∷ trials ∷ []
limited_values stopped = 2 ∷ []

-- The value of an answer that is a number: an order, a length or a count.
abbrev pub number_values : ℕ → List ℕ
number_values x = x ∷ []

-- The value of a least degree: the degree, or 0 for none of 1 to 3.
abbrev pub degree_values : Option ℕ → List ℕ
degree_values (some d) = d ∷ []
degree_values none = 0 ∷ []

-- The values of a count of copies: 0 and the number; or 1 for more.
abbrev pub copies_values : copies.Capped → List ℕ
copies_values (copies.number k) = 0 ∷ k ∷ []
copies_values copies.more = 1 ∷ []
