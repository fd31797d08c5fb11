-- `elements` meets its contract: the numbers of RULES 23.2 are those of the definitions. Assumes nothing.
use mathlib.Core.Path.{◌≡◌, refl}
use mathlib.Core.List.{flat_map}
use mathlib.Core.Option.{or_else}
use Rattle.semigroups.specs.Lists.{range, elements, at, find, sum, count, least, lists, first_of}
use Rattle.semigroups.specs.Tables.{product, is_element, associates, bad_cell, bad_triple}
use Rattle.semigroups.specs.InnerQuestions.{cells_refusal}
use Rattle.semigroups.specs.Questions.{table_refusal, element_refusal}
use Rattle.semigroups.specs.Calls.{given_unless}
use Rattle.semigroups.specs.Invariants.{power, period_from, index, period, idempotent_power, index_period, same_index_period, frequency, diagonal_frequency, row_frequency, column_frequency, commuting, profile, same_profile}
use Rattle.cases.specs.InnerAnswering.{same_given_powers, same_given_profile}
use Rattle.cases.specs.InnerEmbedded.{mat5_cells}
use Rattle.judging.specs.InnerTally.{empty, counted, agreed}
use Rattle.cases.proofs.worked.elements.Goals as goal

-- Cases 4 and 5.
both_agree :
    counted
    (counted empty (same_given_powers (given_unless (element_refusal 5 mat5_cells 3) (index_period 5 (product 5 mat5_cells) 3)) (record { index = 2; period = 1; idempotent = 1 })))
    (same_given_profile (given_unless (element_refusal 5 mat5_cells 4) (profile 5 (product 5 mat5_cells) 4)) (record { powers = record { index = 1; period = 1; idempotent = 4 }; frequency = 3; diagonal = 1; row = 2; column = 2; commuting = 2 }))
    ≡ agreed 2 empty
unfolding agreed range elements at find sum count least lists product is_element associates bad_cell bad_triple first_of cells_refusal table_refusal element_refusal power period_from index period idempotent_power frequency diagonal_frequency row_frequency column_frequency commuting index_period same_index_period profile same_profile or_else flat_map
both_agree = refl

pub returns : goal.returns
returns c = record { answer = cc both_agree }
