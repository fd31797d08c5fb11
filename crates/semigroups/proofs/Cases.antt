-- The thirteen worked cases under one claim: by the definitions each query has the result that stands beside it, and the tables that the cases name are
-- accepted. Assumes nothing.
use mathlib.Core.Path.{◌≡◌, refl, sym, ap, ◌∙◌}
use mathlib.Core.List.{List, ◌∷◌, map, flat_map, Memᴰ, head-eq_of_cons-eq, tail-eq_of_cons-eq}
use mathlib.Core.Option.{none, or_else}
use Rattle.semigroups.specs.Lists.{range, elements, at, all, find, keep, first_of, sum, count, least, member, distinct, earlier, lists}
use Rattle.semigroups.specs.Tables.{product, grid, is_element, associates, bad_cell, bad_triple}
use Rattle.semigroups.specs.Questions.{table_refusal}
use Rattle.semigroups.specs.Invariants.{power, period_from, index, period, idempotent_power, index_period, frequency, diagonal_frequency, row_frequency, column_frequency, commuting, profile, same_index_period, same_profile}
use Rattle.semigroups.specs.Maps.{is_homomorphism, is_embedding, is_isomorphism, maps, earliest, after}
use Rattle.semigroups.specs.Transformations.{transformations, transformation_order, transformation, number_of, transformation_product, transformation_cells}
use Rattle.semigroups.specs.Cases.{Table, left, two, tables, Case, result, cases, Worked}
use Rattle.semigroups.specs.MistakesExamples.{WholeProfiles, TurnedRound}
use Rattle.semigroups.proofs.Tables.{accepted}

-- Two functions that give the same list over a list give the same at each entry.
each : {A B : Type 0} (f g : A → B) (l : List A) → map f l ≡ map g l → (c : A) → Memᴰ c l → f c ≡ g c
each f g mathlib.Core.List.[] e c m = elim m [ ]
each f g (x ∷ xs) e c (Memᴰ.head q) = ap f q ∙ head-eq_of_cons-eq e ∙ sym (ap g q)
each f g (x ∷ xs) e c (Memᴰ.tail m) = each f g xs (tail-eq_of_cons-eq e) c m

computed : map (λ (c : Case). result c.asks) cases ≡ map (λ (c : Case). c.says) cases
unfolding result cases two range elements at all find keep sum count least member distinct earlier lists product grid is_element associates bad_cell bad_triple first_of table_refusal power period_from index period idempotent_power index_period frequency diagonal_frequency row_frequency column_frequency commuting profile is_homomorphism is_embedding is_isomorphism maps earliest after transformations transformation_order transformation number_of transformation_product transformation_cells or_else flat_map
computed = refl

-- No question about any of the tables fails.
passed : map (λ (t : Table). table_refusal t.order t.cells) tables ≡ map (λ (t : Table). none) tables
unfolding two range elements at sum count earlier find lists product grid is_element associates bad_cell bad_triple first_of table_refusal after transformations transformation_order transformation number_of transformation_product transformation_cells or_else flat_map
passed = refl

pub worked : Worked
worked =
    record {
      thirteen = unfold cases in refl;
      results = each (λ (x : Case). result x.asks) (λ (x : Case). x.says) cases computed;
      accepted = λ t m. accepted t.order t.cells (each (λ (x : Table). table_refusal x.order x.cells) (λ (x : Table). none) tables passed t m);
      two_printed = unfold two range elements at sum count earlier lists grid after transformations transformation_order transformation number_of transformation_product transformation_cells flat_map in refl;
      degrees_printed = unfold range elements lists grid transformations transformation_order transformation_cells flat_map in refl;
    }

-- Row and column counts differ where products depend on the side: in left, element 1 stands twice in its row and once in its column.
row_and_column : (row_frequency 2 (product 2 left.cells) 1 ≡ 2) × (column_frequency 2 (product 2 left.cells) 1 ≡ 1)
unfolding range elements sum count product row_frequency column_frequency
row_and_column = (refl, refl)

-- ---- the mistakes of RULES 24

whole_profiles : WholeProfiles
unfolding two range elements at all find keep sum count least member distinct earlier lists product grid is_element power period_from index period idempotent_power index_period same_index_period frequency diagonal_frequency row_frequency column_frequency commuting profile same_profile is_homomorphism is_embedding maps after transformations transformation_order transformation number_of transformation_product transformation_cells flat_map
whole_profiles = record { in_right = refl; in_two = refl; no_candidate = refl; right_fits = refl }

turned_round : TurnedRound
unfolding two range elements at all keep sum count member distinct earlier lists product grid is_element is_homomorphism is_embedding maps after transformations transformation_order transformation number_of transformation_product transformation_cells flat_map
turned_round = record { left_would_fit = refl; right_would_not = refl }
