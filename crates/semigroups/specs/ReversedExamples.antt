-- Reversed isomorphisms between the worked tables, computed from the definitions.
-- Assumes nothing.
use Rattle.std.specs.Prelude.{◌≡◌, List, [], ◌∷◌, ℕ, length}
use Rattle.semigroups.specs.InnerTables.{turned_cells}
use Rattle.semigroups.specs.Maps.{Kind, isomorphisms, reversed}
use Rattle.semigroups.specs.Cases.{Table, swap, left, right, two}
use Rattle.semigroups.specs.ReversedLaws.{between}

-- The full list of a kind between two of the worked tables.
abbrev pub worked : Kind → Table → Table → List (List ℕ)
worked kind s t = between kind s.order s.cells t.order t.cells

-- Between left and right every list is a reversed isomorphism and none is a plain one; from left onto left it is the other way round. The degree 2 table has
-- two plain ones onto itself and no reversed one; swap is commutative. So every sentence of the two records has an instance.
abbrev pub ReversedExamples : Type 0
ReversedExamples =
    (worked reversed left right ≡ (1 ∷ 2 ∷ []) ∷ (2 ∷ 1 ∷ []) ∷ []) × (worked isomorphisms left right ≡ [])
    × (worked reversed left left ≡ []) × (worked isomorphisms left left ≡ (1 ∷ 2 ∷ []) ∷ (2 ∷ 1 ∷ []) ∷ [])
    × (worked reversed right left ≡ (1 ∷ 2 ∷ []) ∷ (2 ∷ 1 ∷ []) ∷ [])
    × (worked reversed two two ≡ []) × (length (worked isomorphisms two two) ≡ 2)
    × (worked reversed swap swap ≡ (1 ∷ 2 ∷ []) ∷ []) × (worked reversed swap two ≡ [])
    × (turned_cells 2 left.cells ≡ right.cells)
