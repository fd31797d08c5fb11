-- The worked examples of the least degree. First embeddings are computed by the search of `semigroups` with every element a candidate, which finds the
-- earliest map of the full list. Assumes nothing.
use mathlib.Core.Path.{◌≡◌, refl, sym, ap, ◌∙◌}
use mathlib.Core.Bool.{Bool, true}
use mathlib.Core.List.{[], ◌∷◌, flat_map}
use mathlib.Core.Option.{Option, none, some, map, or_else}
use Prim.Native.Nat.{ℕ}
use native.Mathlib.Omega.{arith}
use Rattle.semigroups.specs.Lists.{range, elements, at, all, find, first_of, sum, count, member, earlier, lists}
use Rattle.semigroups.specs.Tables.{Product, product, grid, is_element, associates, bad_cell, bad_triple}
use Rattle.semigroups.specs.TablesLaws.{Closed}
use Rattle.semigroups.specs.Questions.{table_refusal}
use Rattle.semigroups.specs.Maps.{first, after}
use Rattle.semigroups.specs.Trials.{fits, passes}
use Rattle.semigroups.specs.InnerSearch.{admits, search}
use Rattle.semigroups.specs.Transformations.{transformations, transformation_order, transformation, number_of, transformation_product}
use Rattle.semigroups.specs.Cases.{Table, one, swap, left, right, mat5}
use Rattle.semigroups.proofs.Tables.{accepted, accepted_closed}
use Rattle.semigroups.proofs.Completions.{first_of_same}
use Rattle.semigroups.proofs.Search.{search_earliest}
use Rattle.planning.specs.Degrees.{Fit, fit, first_at, least_fit, least_degree, position, landings, fit_positions, degree_refusal}
use Rattle.planning.specs.DegreesLaws.{IsLeastDegree}
use Rattle.planning.specs.Examples.{cyclic4, least_fit_of, DegreeExamples, DegreeQuestionExamples}
use Rattle.planning.proofs.Agreement.{first_by_product}
use Rattle.planning.proofs.Larger.{larger_degree}
use Rattle.planning.proofs.Degrees.{least_degree_law, landing_positions}

any : ℕ → ℕ → Bool
any i j = true

-- The least fit by that search.
searched : ℕ → Product → Option Fit
searched m s = first_of (λ d. map (fit d) (search s (transformation_product d) any first (transformation_order d) m [])) (elements 3)

least_searched : (m : ℕ) (s : Product) → Closed m s → least_fit m s ≡ searched m s
unfolding least_fit searched any
least_searched m s closed =
    first_of_same (λ d. map (fit d) (first_at m s d)) (λ d. map (fit d) (search s (transformation_product d) any first (transformation_order d) m [])) (elements 3)
    (λ d k. ap (map (fit d)) (first_by_product m s d ∙ sym (search_earliest m s (transformation_order d) (transformation_product d) closed any (λ f F i h. refl) first)))

module _ (t : Table) (e : table_refusal t.order t.cells ≡ none) where
  table_closed : Closed t.order (product t.order t.cells)
  table_closed = accepted_closed t.order t.cells (accepted t.order t.cells e)

  table_searched : least_fit_of t ≡ searched t.order (product t.order t.cells)
  table_searched = least_searched t.order (product t.order t.cells) table_closed

-- ---- the tables

mat5_fit : least_fit_of mat5 ≡ some (fit 3 (1 ∷ 3 ∷ 2 ∷ 9 ∷ 5 ∷ []))
unfolding searched any search admits passes fits product at all find member range elements transformation_order transformation_product number_of transformation transformations lists count sum earlier after first_of flat_map or_else table_refusal is_element bad_cell bad_triple associates
mat5_fit = table_searched mat5 refl ∙ refl

others : (least_fit_of one ≡ some (fit 1 (1 ∷ []))) × (least_fit_of swap ≡ some (fit 2 (2 ∷ 3 ∷ []))) × (least_fit_of right ≡ some (fit 2 (1 ∷ 4 ∷ [])))
    × (least_fit_of left ≡ some (fit 3 (3 ∷ 9 ∷ []))) × (least_fit_of cyclic4 ≡ none)
unfolding searched any search admits passes fits product at all find member range elements transformation_order transformation_product number_of transformation transformations lists count sum earlier after first_of flat_map or_else table_refusal is_element bad_cell bad_triple associates
others = (table_searched one refl, table_searched swap refl, table_searched right refl, table_searched left refl, table_searched cyclic4 refl)

mat5_landings : landings 5 3 (1 ∷ 3 ∷ 2 ∷ 9 ∷ 5 ∷ []) ≡ 1 ∷ 1 ∷ 1 ∷ 1 ∷ 1 ∷ 3 ∷ 1 ∷ 1 ∷ 2 ∷ 1 ∷ 3 ∷ 3 ∷ 1 ∷ 2 ∷ 2 ∷ []
unfolding landings position grid at range elements transformation transformations lists flat_map
mat5_landings = refl

closed : Closed 5 (product 5 mat5.cells) × Closed 2 (product 2 swap.cells)
unfolding table_refusal first_of or_else is_element bad_cell bad_triple associates product lists elements range at find flat_map
closed = (table_closed mat5 refl, table_closed swap refl)

swap_embeds : IsLeastDegree 2 (product 2 swap.cells) 2
swap_embeds = (least_degree_law 2 (product 2 swap.cells) 2).0 (unfold least_degree in ap (map (λ (x : Fit). x.degree)) others.1)

pub degree_examples : DegreeExamples
degree_examples =
    record {
      mat5_three = unfold least_degree in ap (map (λ (x : Fit). x.degree)) mat5_fit;
      mat5_positions = ap (fit_positions 5) mat5_fit ∙ mat5_landings;
      mat5_lands = (landing_positions 5 (product 5 mat5.cells) closed.0 (fit 3 (1 ∷ 3 ∷ 2 ∷ 9 ∷ 5 ∷ [])) mat5_fit (1 ∷ 3 ∷ 2 ∷ 9 ∷ 5 ∷ []) (fit_positions 5 (least_fit_of mat5))).0 (refl, refl);
      one_first = others.0;
      swap_second = others.1;
      swap_larger = larger_degree 2 (product 2 swap.cells) closed.1 2 3 (omega arith) swap_embeds.embedding swap_embeds.embeds;
      right_second = others.2;
      left_third = others.3;
      cyclic4_none = others.4;
    }

pub degree_question_examples : DegreeQuestionExamples
unfolding degree_refusal first_of or_else is_element bad_cell bad_triple associates product lists elements range at find flat_map
degree_question_examples = (refl, refl, refl, refl, refl)
