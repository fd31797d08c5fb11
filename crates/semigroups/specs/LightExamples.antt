-- The shorter check of a table, computed from the definitions.
-- Assumes nothing.
use Rattle.std.specs.Prelude.{◌≡◌, [], ◌∷◌}
use Rattle.std.proofs.Math.Option.{none, some}
use Rattle.semigroups.specs.InnerQuestions.{no}
use Rattle.semigroups.specs.Cases.{mat5}
use Rattle.semigroups.specs.Light.{generators_refusal}

-- 3 and 4 generate mat5; 6 is not one of its elements; 2 and 5 generate four of its elements; an empty list generates nothing; a cell above the order is
-- asked about first. The table of case 1 is refused with a later triple than that of the full check, 1, 1, 2, whose middle is not on the list.
abbrev pub LightsExamples : Type 0
LightsExamples =
    (generators_refusal 5 mat5.cells (3 ∷ 4 ∷ 3 ∷ []) ≡ none) × (generators_refusal 5 mat5.cells (3 ∷ 6 ∷ []) ≡ some (no 50 []))
    × (generators_refusal 5 mat5.cells (2 ∷ 5 ∷ []) ≡ some (no 51 [])) × (generators_refusal 1 (1 ∷ []) [] ≡ some (no 51 []))
    × (generators_refusal 2 (1 ∷ 3 ∷ 1 ∷ 1 ∷ []) (3 ∷ []) ≡ some (no 3 (2 ∷ []))) × (generators_refusal 2 (2 ∷ 1 ∷ 1 ∷ 1 ∷ []) (2 ∷ []) ≡ some (no 4 (1 ∷ 2 ∷ 2 ∷ [])))
