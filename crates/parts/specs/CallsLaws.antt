-- A refused call changes no byte.
-- Assumes nothing.
use Rattle.std.specs.Prelude.{◌≡◌, List, ℕ, length}
use Rattle.std.proofs.Math.Option.{some}
use Rattle.semigroups.specs.Questions.{Refusal}
use Rattle.semigroups.specs.Subsemigroups.{subsemigroup_refusal}
use Rattle.calls.specs.Subsemigroups.{part_after, elements_after}

-- A refusal changes no byte of either buffer.
abbrev pub SubsemigroupKeeps : Type 0
SubsemigroupKeeps =
    (n : ℕ) (cells l part elements : List ℕ) (r : Refusal) → subsemigroup_refusal n cells l (length part) (length elements) ≡ some r
    → (part_after n cells l part (length elements) ≡ part) × (elements_after n cells l (length part) elements ≡ elements)
