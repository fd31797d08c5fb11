-- What a call that makes a table of a part says, and what it leaves in both buffers (RULES 16). Assumes nothing.
use Rattle.std.specs.Prelude.{List, ℕ, length}
use Rattle.semigroups.specs.Tables.{product}
use Rattle.semigroups.specs.Calls.{Answer, given_unless, written_unless}
use Rattle.semigroups.specs.Generated.{generated}
use Rattle.semigroups.specs.Subsemigroups.{part_cells, subsemigroup_refusal}

-- What a call answers for a table, a list of chosen elements, and buffers of these lengths for cells and elements: the order of the part.
unfoldable pub subsemigroup_says : ℕ → List ℕ → List ℕ → ℕ → ℕ → Answer ℕ
subsemigroup_says n cells l cellsLength elementsLength = given_unless (subsemigroup_refusal n cells l cellsLength elementsLength) (length (generated n (product n cells) l))

-- The cell buffer after the call: the part's cells; later bytes are untouched, and a refusal changes no byte.
unfoldable pub part_after : ℕ → List ℕ → List ℕ → List ℕ → ℕ → List ℕ
part_after n cells l before elementsLength = written_unless (subsemigroup_refusal n cells l (length before) elementsLength) (part_cells (product n cells) (generated n (product n cells) l)) before

-- The element buffer after the call: the part's elements; later bytes are untouched, and a refusal changes no byte.
unfoldable pub elements_after : ℕ → List ℕ → List ℕ → ℕ → List ℕ → List ℕ
elements_after n cells l cellsLength before = written_unless (subsemigroup_refusal n cells l cellsLength (length before)) (generated n (product n cells) l) before
