-- The examples, computed from the definitions. Assumes nothing.
use mathlib.Core.Path.{refl}
use mathlib.Core.List.{flat_map}
use mathlib.Core.Option.{or_else}
use Rattle.semigroups.specs.Lists.{range, elements, at, all, find, keep, sum, first_of, least, member, distinct, earlier, lists, count}
use Rattle.semigroups.specs.Tables.{product, grid, is_element, associates, bad_cell, bad_triple}
use Rattle.semigroups.specs.Scratch.{packed_byte, bit, scratch_size, marks, marked}
use Rattle.semigroups.specs.Questions.{search_refusal}
use Rattle.semigroups.specs.Invariants.{power, period_from, index, period, idempotent_power, index_period, same_index_period}
use Rattle.semigroups.specs.Maps.{is_homomorphism, is_embedding, maps, earliest}
use Rattle.semigroups.specs.Candidates.{candidate}
use Rattle.semigroups.specs.Trials.{fits, passes, in_turn, trial_work, search_work, limited, found_within}
use Rattle.semigroups.specs.Generated.{generated, grown, set_of, products}
use Rattle.semigroups.specs.Subsemigroups.{part_cells, renumbered, number_in, subsemigroup_refusal}
use Rattle.semigroups.specs.Copies.{same_list, without_repeats, image_sets, copies, capped, copies_capped, copies_refusal}
use Rattle.calls.specs.Calls.{call}
use Rattle.calls.specs.Limited.{first_work, limited_call}
use Rattle.calls.specs.Allowed.{allows, allowed}
use Rattle.calls.specs.Among.{among_refusal, call_among}
use Rattle.calls.specs.Subsemigroups.{subsemigroup_says, part_after, elements_after}
use Rattle.calls.specs.Copies.{copies_says, copies_scratch}
use Rattle.calls.specs.CallsExamples.{SearchExamples, LimitedExamples, CallAmongExamples, SubsemigroupCallExamples, CopiesCallExamples}

pub search_examples : SearchExamples
unfolding call search_refusal earliest maps is_embedding is_homomorphism candidate marks marked packed_byte bit scratch_size grid product is_element bad_cell bad_triple power period_from index period idempotent_power index_period same_index_period range elements at all find keep sum first_of least member distinct earlier lists count or_else flat_map associates
search_examples = (refl, refl, refl, refl, refl)

pub limited_examples : LimitedExamples
unfolding limited_call limited found_within first_work search_work trial_work in_turn fits passes search_refusal candidate marks marked packed_byte bit scratch_size grid product is_element bad_cell bad_triple power period_from index period idempotent_power index_period same_index_period range elements at all find keep sum first_of least member distinct earlier lists count or_else flat_map associates
limited_examples = (refl, refl, refl, refl)

pub among_examples : CallAmongExamples
unfolding call_among among_refusal allowed allows earliest maps is_embedding is_homomorphism candidate marks marked packed_byte bit scratch_size grid product is_element bad_cell bad_triple power period_from index period idempotent_power index_period same_index_period range elements at all find keep sum first_of least member distinct earlier lists count or_else flat_map associates
among_examples = (refl, refl, refl, refl)

pub subsemigroup_examples : SubsemigroupCallExamples
unfolding subsemigroup_says part_after elements_after subsemigroup_refusal first_of or_else is_element bad_cell bad_triple generated grown set_of products associates product grid part_cells renumbered number_in least lists elements range at all find keep member flat_map
subsemigroup_examples = (refl, refl, refl)

pub copies_examples : CopiesCallExamples
unfolding copies_says copies_scratch copies_refusal copies_capped capped copies image_sets without_repeats same_list set_of candidate marks packed_byte bit power period_from index period idempotent_power index_period same_index_period first_of or_else bad_cell bad_triple associates scratch_size product grid is_element is_homomorphism is_embedding maps lists elements range at all find keep sum count least member distinct earlier flat_map
copies_examples = (refl, refl)
