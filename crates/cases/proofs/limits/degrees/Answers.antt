-- What RULES 23.4 says of the four degrees is what the definition says. Assumes nothing.
use Rattle.std.specs.Prelude.{Result, Ok, Err}
use Rattle.plain.specs.declared.Said.{Said}
use mathlib.Core.Path.{◌≡◌, refl}
use mathlib.Core.List.{List, ◌∷◌, flat_map}
use mathlib.Core.Option.{or_else}
use Prim.Native.Nat.{ℕ}
use lib.ListN.{replicate}
use Rattle.semigroups.specs.Lists.{range, elements, at, sum, count, earlier, lists, first_of}
use Rattle.semigroups.specs.Tables.{grid, is_element}
use Rattle.semigroups.specs.Maps.{after}
use Rattle.semigroups.specs.Transformations.{transformations, transformation_order, transformation, number_of, transformation_product, transformation_cells, transformation_refusal}
use Rattle.transformations.specs.Calls.{transformation_says, transformation_cells_after}
use Rattle.semigroups.specs.Copies.{same_list}
use Rattle.judging.specs.declared.tally.Tally.{Tally}
use Rattle.cases.specs.InnerAnswering.{numbered_tally}
use Rattle.judging.specs.InnerTally.{empty, agreed}
use Rattle.cases.proofs.limits.degrees.Goals as goal

abbrev told : ℕ → Result ℕ Said → List ℕ → Tally → Tally
told d said = numbered_tally (transformation_says d 20) said (transformation_cells_after d (replicate 20 7))

abbrev no : ℕ → Said
no number = record { number = number; first = 0; second = 0; third = 0 }

abbrev square : List ℕ
square = 1 ∷ 1 ∷ 4 ∷ 4 ∷ 1 ∷ 2 ∷ 3 ∷ 4 ∷ 1 ∷ 3 ∷ 2 ∷ 4 ∷ 1 ∷ 4 ∷ 1 ∷ 4 ∷ replicate 4 7

all_agree : told 4 (Err (no 8)) (replicate 20 7) (told 3 (Err (no 9)) (replicate 20 7) (told 2 (Ok 4) square (told 1 (Ok 1) (1 ∷ replicate 19 7) empty))) ≡ agreed 8 empty
unfolding agreed same_list at range elements lists sum count earlier grid is_element first_of after transformations transformation_order transformation number_of transformation_product transformation_cells transformation_refusal transformation_says transformation_cells_after or_else flat_map
all_agree = refl

pub returns : goal.returns
returns c = record { answer = cc all_agree }
