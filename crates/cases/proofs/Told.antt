-- What RULES 23.2 prints of cases 6 to 13, call by call: each is what the definition says and leaves, computed. Assumes nothing.
use mathlib.Core.Path.{◌≡◌, refl}
use mathlib.Core.Bool.{true, false}
use Rattle.std.specs.Prelude.{Ok}
use mathlib.Core.List.{[], ◌∷◌, flat_map}
use mathlib.Core.Option.{or_else}
use Rattle.semigroups.specs.Lists.{range, elements, at, all, find, keep, sum, count, member, distinct, earlier, lists, first_of}
use Rattle.semigroups.specs.Tables.{product, is_element, associates, bad_cell, bad_triple}
use Rattle.semigroups.specs.InnerQuestions.{cells_refusal, tables_refusal}
use Rattle.semigroups.specs.Questions.{table_refusal, check_refusal, search_refusal}
use Rattle.semigroups.specs.Scratch.{scratch_size}
use Rattle.semigroups.specs.Maps.{embeddings, isomorphisms, is_homomorphism, is_embedding, is_isomorphism, maps, earliest}
use Rattle.semigroups.specs.Copies.{same_list}
use Rattle.calls.specs.Calls.{call}
use Rattle.judging.specs.declared.tally.Tally.{Tally}
use Rattle.judging.specs.InnerTally.{agreed}
use Rattle.cases.specs.InnerEmbedded.{mat5_cells}
use Rattle.cases.proofs.Tables.{one, swap, right, left, null, two}
use Rattle.cases.specs.InnerPrinted.{told_tally, first_two}

-- Case 6, swap in two: one embedding.
pub case_6 : (t : Tally) → first_two embeddings swap 2 two 4 (2 ∷ 3 ∷ 0 ∷ 0 ∷ 0 ∷ []) (Ok false) (2 ∷ 3 ∷ 0 ∷ 0 ∷ 0 ∷ []) t ≡ agreed 4 t
unfolding agreed range elements at all find keep sum count member distinct earlier lists product is_element associates bad_cell bad_triple first_of cells_refusal table_refusal tables_refusal check_refusal search_refusal scratch_size is_homomorphism is_embedding is_isomorphism maps earliest call same_list or_else flat_map
case_6 t = refl

-- Case 7, right in two: two embeddings.
pub case_7 : (t : Tally) → first_two embeddings right 2 two 4 (1 ∷ 4 ∷ 0 ∷ 0 ∷ 0 ∷ []) (Ok true) (4 ∷ 1 ∷ 0 ∷ 0 ∷ 0 ∷ []) t ≡ agreed 4 t
unfolding agreed range elements at all find keep sum count member distinct earlier lists product is_element associates bad_cell bad_triple first_of cells_refusal table_refusal tables_refusal check_refusal search_refusal scratch_size is_homomorphism is_embedding is_isomorphism maps earliest call same_list or_else flat_map
case_7 t = refl

pub last_7 : (t : Tally) → told_tally embeddings true right 2 two 4 (4 ∷ 1 ∷ 0 ∷ 0 ∷ 0 ∷ []) (Ok false) (4 ∷ 1 ∷ 0 ∷ 0 ∷ 0 ∷ []) t ≡ agreed 2 t
unfolding agreed range elements at all find keep sum count member distinct earlier lists product is_element associates bad_cell bad_triple first_of cells_refusal table_refusal tables_refusal check_refusal search_refusal scratch_size is_homomorphism is_embedding is_isomorphism maps earliest call same_list or_else flat_map
last_7 t = refl

-- Case 8, left in two: none.
pub case_8 : (t : Tally) → told_tally embeddings false left 2 two 4 (0 ∷ 0 ∷ 0 ∷ 0 ∷ 0 ∷ []) (Ok false) (0 ∷ 0 ∷ 0 ∷ 0 ∷ 0 ∷ []) t ≡ agreed 2 t
unfolding agreed range elements at all find keep sum count member distinct earlier lists product is_element associates bad_cell bad_triple first_of cells_refusal table_refusal tables_refusal check_refusal search_refusal scratch_size is_homomorphism is_embedding is_isomorphism maps earliest call same_list or_else flat_map
case_8 t = refl

-- Case 9, one in two: three embeddings.
pub case_9 : (t : Tally) → first_two embeddings one 1 two 4 (1 ∷ 0 ∷ 0 ∷ 0 ∷ 0 ∷ []) (Ok true) (2 ∷ 0 ∷ 0 ∷ 0 ∷ 0 ∷ []) t ≡ agreed 4 t
unfolding agreed range elements at all find keep sum count member distinct earlier lists product is_element associates bad_cell bad_triple first_of cells_refusal table_refusal tables_refusal check_refusal search_refusal scratch_size is_homomorphism is_embedding is_isomorphism maps earliest call same_list or_else flat_map
case_9 t = refl

pub last_9 : (t : Tally) → told_tally embeddings true one 1 two 4 (2 ∷ 0 ∷ 0 ∷ 0 ∷ 0 ∷ []) (Ok true) (4 ∷ 0 ∷ 0 ∷ 0 ∷ 0 ∷ []) t ≡ agreed 2 t
unfolding agreed range elements at all find keep sum count member distinct earlier lists product is_element associates bad_cell bad_triple first_of cells_refusal table_refusal tables_refusal check_refusal search_refusal scratch_size is_homomorphism is_embedding is_isomorphism maps earliest call same_list or_else flat_map
last_9 t = refl

-- Case 10, two onto itself: two isomorphisms.
pub case_10 : (t : Tally) → first_two isomorphisms two 4 two 4 (1 ∷ 2 ∷ 3 ∷ 4 ∷ 0 ∷ []) (Ok true) (4 ∷ 2 ∷ 3 ∷ 1 ∷ 0 ∷ []) t ≡ agreed 4 t
unfolding agreed range elements at all find keep sum count member distinct earlier lists product is_element associates bad_cell bad_triple first_of cells_refusal table_refusal tables_refusal check_refusal search_refusal scratch_size is_homomorphism is_embedding is_isomorphism maps earliest call same_list or_else flat_map
case_10 t = refl

-- Case 11, null3 onto itself: two isomorphisms; the second is also the next one after bytes that are no map.
pub case_11 : (t : Tally) → first_two isomorphisms null 3 null 3 (1 ∷ 2 ∷ 3 ∷ 0 ∷ 0 ∷ []) (Ok true) (1 ∷ 3 ∷ 2 ∷ 0 ∷ 0 ∷ []) t ≡ agreed 4 t
unfolding agreed range elements at all find keep sum count member distinct earlier lists product is_element associates bad_cell bad_triple first_of cells_refusal table_refusal tables_refusal check_refusal search_refusal scratch_size is_homomorphism is_embedding is_isomorphism maps earliest call same_list or_else flat_map
case_11 t = refl

pub last_11 : (t : Tally) → told_tally isomorphisms true null 3 null 3 (1 ∷ 2 ∷ 200 ∷ 0 ∷ 0 ∷ []) (Ok true) (1 ∷ 3 ∷ 2 ∷ 0 ∷ 0 ∷ []) t ≡ agreed 2 t
unfolding agreed range elements at all find keep sum count member distinct earlier lists product is_element associates bad_cell bad_triple first_of cells_refusal table_refusal tables_refusal check_refusal search_refusal scratch_size is_homomorphism is_embedding is_isomorphism maps earliest call same_list or_else flat_map
last_11 t = refl

-- Case 12, mat5 onto itself: the identity only.
pub case_12 : (t : Tally) → first_two isomorphisms mat5_cells 5 mat5_cells 5 (1 ∷ 2 ∷ 3 ∷ 4 ∷ 5 ∷ []) (Ok false) (1 ∷ 2 ∷ 3 ∷ 4 ∷ 5 ∷ []) t ≡ agreed 4 t
unfolding agreed range elements at all find keep sum count member distinct earlier lists product is_element associates bad_cell bad_triple first_of cells_refusal table_refusal tables_refusal check_refusal search_refusal scratch_size is_homomorphism is_embedding is_isomorphism maps earliest call same_list or_else flat_map
case_12 t = refl

-- Case 13, two in swap: none.
pub case_13 : (t : Tally) → told_tally embeddings false two 4 swap 2 (0 ∷ 0 ∷ 0 ∷ 0 ∷ 0 ∷ []) (Ok false) (0 ∷ 0 ∷ 0 ∷ 0 ∷ 0 ∷ []) t ≡ agreed 2 t
unfolding agreed range elements at all find keep sum count member distinct earlier lists product is_element associates bad_cell bad_triple first_of cells_refusal table_refusal tables_refusal check_refusal search_refusal scratch_size is_homomorphism is_embedding is_isomorphism maps earliest call same_list or_else flat_map
case_13 t = refl
