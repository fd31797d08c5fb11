-- A part of mat5, computed from the definitions.
-- Assumes nothing.
use Rattle.std.specs.Prelude.{◌≡◌, [], ◌∷◌}
use Rattle.std.proofs.Math.Option.{none, some}
use Rattle.semigroups.specs.Tables.{product}
use Rattle.semigroups.specs.InnerQuestions.{no}
use Rattle.semigroups.specs.Generated.{generated}
use Rattle.semigroups.specs.Cases.{mat5}
use Rattle.semigroups.specs.Subsemigroups.{part_cells, subsemigroup_refusal}

-- In mat5, 5 and 2 generate 1, 2, 3 and 5, with the table `1,1,1,1/1,2,3,3/1,1,1,3/1,1,1,4`; buffers of 16 and of 4 bytes are enough, and
-- shorter ones are not.
abbrev pub SubsemigroupExamples : Type 0
SubsemigroupExamples =
    (generated 5 (product 5 mat5.cells) (5 ∷ 2 ∷ []) ≡ 1 ∷ 2 ∷ 3 ∷ 5 ∷ [])
    × (part_cells (product 5 mat5.cells) (1 ∷ 2 ∷ 3 ∷ 5 ∷ []) ≡ 1 ∷ 1 ∷ 1 ∷ 1 ∷ 1 ∷ 2 ∷ 3 ∷ 3 ∷ 1 ∷ 1 ∷ 1 ∷ 3 ∷ 1 ∷ 1 ∷ 1 ∷ 4 ∷ [])
    × (subsemigroup_refusal 5 mat5.cells (5 ∷ 2 ∷ []) 16 4 ≡ none) × (subsemigroup_refusal 5 mat5.cells [] 16 4 ≡ some (no 60 []))
    × (subsemigroup_refusal 5 mat5.cells (5 ∷ 6 ∷ []) 16 4 ≡ some (no 60 [])) × (subsemigroup_refusal 5 mat5.cells (5 ∷ 2 ∷ []) 15 3 ≡ some (no 61 []))
    × (subsemigroup_refusal 5 mat5.cells (5 ∷ 2 ∷ []) 16 3 ≡ some (no 62 []))
