-- The numbers of some answers, as a program in C or Rust reads them. Assumes nothing.
use Rattle.std.specs.Prelude.{◌≡◌, List, [], ◌∷◌, ℕ, replicate}
use Rattle.std.proofs.Math.Option.{none, some}
use Rattle.semigroups.specs.Questions.{Refusal}
use Rattle.semigroups.specs.Calls.{refused, gives}
use Rattle.semigroups.specs.Invariants.{IndexPeriod}
use Rattle.semigroups.specs.MapCheck.{holds, outside, equal_images, wrong_product}
use Rattle.semigroups.specs.Maps.{found, nothing}
use Rattle.semigroups.specs.Trials.{stopped, ended}
use Rattle.semigroups.specs.Copies as copies
use Rattle.numbers.specs.Numbers.{question_words, answer_words, index_period_values, profile_values, checked_values, sought_values, limited_values, number_values, degree_values, copies_values}

-- All sixteen numbers of an answer: where no question fails; where question 4 refuses the target, with the triple; and where a number is given.
abbrev pub WordsExamples : Type 0
WordsExamples =
    let r : Refusal = record { number = 4; side = 2; values = 5 ∷ 6 ∷ 7 ∷ [] } in
    let said : List ℕ = 4 ∷ 2 ∷ 5 ∷ 6 ∷ 7 ∷ replicate 11 0 in
    (question_words none ≡ replicate 16 0) × (question_words (some r) ≡ said)
    × (answer_words number_values (refused r) ≡ said) × (answer_words number_values (gives 9) ≡ 0 ∷ 0 ∷ 9 ∷ replicate 13 0)

-- The values of each kind of answer.
abbrev pub ValuesExamples : Type 0
ValuesExamples =
    let powers : IndexPeriod = record { index = 1; period = 2; idempotent = 3 } in
    (index_period_values powers ≡ 1 ∷ 2 ∷ 3 ∷ [])
    × (profile_values (record { powers = powers; frequency = 4; diagonal = 5; row = 6; column = 7; commuting = 8 }) ≡ 1 ∷ 2 ∷ 3 ∷ 4 ∷ 5 ∷ 6 ∷ 7 ∷ 8 ∷ [])
    × (checked_values holds ≡ 0 ∷ []) × (checked_values (outside 5) ≡ 1 ∷ 5 ∷ [])
    × (checked_values (equal_images (5 ∷ 6 ∷ [])) ≡ 2 ∷ 5 ∷ 6 ∷ []) × (checked_values (wrong_product (5 ∷ 6 ∷ [])) ≡ 3 ∷ 5 ∷ 6 ∷ [])
    × (sought_values found ≡ 1 ∷ []) × (sought_values nothing ≡ 0 ∷ [])
    × (limited_values (ended found 5) ≡ 1 ∷ 5 ∷ []) × (limited_values (ended nothing 5) ≡ 0 ∷ 5 ∷ []) × (limited_values stopped ≡ 2 ∷ [])
    × (degree_values (some 3) ≡ 3 ∷ []) × (degree_values none ≡ 0 ∷ [])
    × (copies_values (copies.number 5) ≡ 0 ∷ 5 ∷ []) × (copies_values copies.more ≡ 1 ∷ [])
