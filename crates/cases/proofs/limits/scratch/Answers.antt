-- The bytes of the two cases are those of the definitions. Assumes nothing.
use Rattle.std.specs.Prelude.{true, Ok, Err}
use mathlib.Core.Path.{◌≡◌, refl, ap, ◌∙◌}
use mathlib.Core.List.{[], ◌∷◌, flat_map}
use mathlib.Core.Option.{or_else}
use Rattle.semigroups.specs.Lists.{range, elements, at, all, find, keep, member, distinct, sum, count, least, lists, first_of}
use Rattle.semigroups.specs.Tables.{product, grid, is_element, associates, bad_cell, bad_triple}
use Rattle.semigroups.specs.InnerQuestions.{cells_refusal, tables_refusal}
use Rattle.semigroups.specs.Questions.{table_refusal, check_refusal, search_refusal}
use Rattle.semigroups.specs.Scratch.{packed_byte, scratch_size, marks}
use Rattle.semigroups.specs.InnerCalls.{scratch_after}
use Rattle.semigroups.specs.Invariants.{power, period_from, index, period, index_period, same_index_period}
use Rattle.semigroups.specs.Candidates.{candidate}
use Rattle.semigroups.specs.Maps.{is_homomorphism, is_embedding, maps, earliest}
use Rattle.calls.specs.Calls.{call}
use Rattle.semigroups.specs.Copies.{same_list}
use Rattle.cases.specs.InnerEmbedded.{embedded_tally}
use Rattle.judging.specs.InnerTally.{empty, agreed}
use Rattle.cases.proofs.limits.scratch.Goals as goal

both : embedded_tally 1 (Ok true) (2 ∷ 3 ∷ []) (75 ∷ 255 ∷ 255 ∷ []) (embedded_tally 0 (Err 6) (0 ∷ 0 ∷ []) (255 ∷ 255 ∷ 255 ∷ []) empty) ≡ agreed 6 empty
unfolding agreed range elements at find keep all member distinct sum count least lists packed_byte marks product grid is_element associates bad_cell bad_triple first_of cells_refusal table_refusal tables_refusal check_refusal search_refusal scratch_size scratch_after power period_from index period index_period same_index_period candidate is_homomorphism is_embedding maps earliest call same_list or_else flat_map
both = refl

pub returns : goal.returns
returns c =
    record {
      answer =
          c.embedded.ensures.answer
          ∙ ap (embedded_tally 1 (Ok true) (2 ∷ 3 ∷ []) (75 ∷ 255 ∷ 255 ∷ [])) (c.embedded-short.ensures.answer ∙ ap (embedded_tally 0 (Err 6) (0 ∷ 0 ∷ []) (255 ∷ 255 ∷ 255 ∷ [])) c.start.ensures.answer)
          ∙ both;
    }
