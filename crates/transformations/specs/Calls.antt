-- What a call that writes the table of all transformations says and leaves in the buffer (RULES 14 and 7).
-- Assumes nothing.
use Rattle.std.specs.Prelude.{List, ℕ, length}
use Rattle.semigroups.specs.Calls.{Answer, given_unless, written_unless}
use Rattle.semigroups.specs.Transformations.{transformation_order, transformation_cells, transformation_refusal}

-- What a call answers for degree d and a buffer of `size` bytes: the order.
unfoldable pub transformation_says : ℕ → ℕ → Answer ℕ
transformation_says d size = given_unless (transformation_refusal d size) (transformation_order d)

-- The buffer after the call: the cells of the table; later bytes are untouched, and a refusal changes no byte.
unfoldable pub transformation_cells_after : ℕ → List ℕ → List ℕ
transformation_cells_after d before = written_unless (transformation_refusal d (length before)) (transformation_cells d) before
