-- What passes the questions of each call, in plain words (RULES 7.3): a call is not refused exactly if this holds. For a table it is `Accepted`, and for
-- cells that are saved `Filled` (Tables).
-- Assumes nothing.
use Rattle.std.specs.Prelude.{◌≡◌, List, ℕ, ◌*◌, ◌≤◌}
use Rattle.semigroups.specs.Tables.{Element, Accepted}
use Rattle.semigroups.specs.Scratch.{scratch_size}
use Rattle.semigroups.specs.Transformations.{transformation_order}

-- What passes the questions about an element: it is an element of an accepted table.
pub record ElementPasses (n : ℕ) (cells : List ℕ) (a : ℕ) : Type 0 where
  pub table : Accepted n cells
  pub element : Element n a

-- What passes the questions of a map check: two accepted tables, and exactly m bytes of a map.
pub record CheckPasses (m : ℕ) (source : List ℕ) (n : ℕ) (target : List ℕ) (mapLength : ℕ) : Type 0 where
  pub source_table : Accepted m source
  pub target_table : Accepted n target
  pub map_size : mapLength ≡ m

-- What passes the questions of a search: two accepted tables, exactly m bytes of a map, and at least the scratch bytes that the marks take.
pub record SearchPasses (m : ℕ) (source : List ℕ) (n : ℕ) (target : List ℕ) (mapLength scratchLength : ℕ) : Type 0 where
  pub check : CheckPasses m source n target mapLength
  pub scratch_room : scratch_size m n ≤ scratchLength

-- What passes the questions about a table of transformations: degree 1 to 3, and a buffer with room for its cells.
pub record TransformationsPass (d room : ℕ) : Type 0 where
  pub degree : Element 3 d
  pub cells_room : transformation_order d * transformation_order d ≤ room
