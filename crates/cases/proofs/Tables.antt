-- The tables of RULES 23.1 as lists of cells; each is accepted, computed. Assumes nothing.
use mathlib.Core.Path.{refl}
use mathlib.Core.List.{List, [], ◌∷◌, flat_map}
use mathlib.Core.Option.{or_else}
use Prim.Native.Nat.{ℕ}
use Rattle.semigroups.specs.Lists.{range, elements, at, find, lists, first_of}
use Rattle.semigroups.specs.Tables.{Accepted, product, is_element, associates, bad_cell, bad_triple}
use Rattle.semigroups.specs.InnerQuestions.{cells_refusal}
use Rattle.semigroups.specs.Questions.{table_refusal}
use Rattle.semigroups.proofs.Tables.{accepted}
use Rattle.cases.specs.InnerEmbedded.{mat5_cells}

abbrev pub one : List ℕ
one = 1 ∷ []

abbrev pub swap : List ℕ
swap = 1 ∷ 2 ∷ 2 ∷ 1 ∷ []

abbrev pub right : List ℕ
right = 1 ∷ 2 ∷ 1 ∷ 2 ∷ []

abbrev pub left : List ℕ
left = 1 ∷ 1 ∷ 2 ∷ 2 ∷ []

abbrev pub null : List ℕ
null = 1 ∷ 1 ∷ 1 ∷ 1 ∷ 1 ∷ 1 ∷ 1 ∷ 1 ∷ 1 ∷ []

abbrev pub two : List ℕ
two = 1 ∷ 1 ∷ 4 ∷ 4 ∷ 1 ∷ 2 ∷ 3 ∷ 4 ∷ 1 ∷ 3 ∷ 2 ∷ 4 ∷ 1 ∷ 4 ∷ 1 ∷ 4 ∷ []

pub one_table : Accepted 1 one
unfolding range elements at find lists product is_element associates bad_cell bad_triple first_of cells_refusal table_refusal or_else flat_map
one_table = accepted 1 one refl

pub swap_table : Accepted 2 swap
unfolding range elements at find lists product is_element associates bad_cell bad_triple first_of cells_refusal table_refusal or_else flat_map
swap_table = accepted 2 swap refl

pub right_table : Accepted 2 right
unfolding range elements at find lists product is_element associates bad_cell bad_triple first_of cells_refusal table_refusal or_else flat_map
right_table = accepted 2 right refl

pub left_table : Accepted 2 left
unfolding range elements at find lists product is_element associates bad_cell bad_triple first_of cells_refusal table_refusal or_else flat_map
left_table = accepted 2 left refl

pub null_table : Accepted 3 null
unfolding range elements at find lists product is_element associates bad_cell bad_triple first_of cells_refusal table_refusal or_else flat_map
null_table = accepted 3 null refl

pub two_table : Accepted 4 two
unfolding range elements at find lists product is_element associates bad_cell bad_triple first_of cells_refusal table_refusal or_else flat_map
two_table = accepted 4 two refl

pub mat5_table : Accepted 5 mat5_cells
unfolding range elements at find lists product is_element associates bad_cell bad_triple first_of cells_refusal table_refusal or_else flat_map
mat5_table = accepted 5 mat5_cells refl
