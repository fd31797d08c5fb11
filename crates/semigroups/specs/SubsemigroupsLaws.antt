-- What is claimed of the part that a list generates (RULES 16).
-- Assumes nothing.
use Rattle.std.specs.Prelude.{◌≡◌, ◌↔◌, ℕ, ◌*◌, ◌≤◌, ◌<◌, length}
use mathlib.Core.List.{List, Memᴰ}
use Rattle.semigroups.specs.InnerLists.{Sorted}
use Rattle.semigroups.specs.Tables.{product, Accepted}
use Rattle.semigroups.specs.InnerMaps.{Embedding}
use Rattle.semigroups.specs.GeneratedLaws.{Smallest}
use Rattle.semigroups.specs.InnerGenerated.{Inside}
use Rattle.semigroups.specs.Generated.{generated}
use Rattle.semigroups.specs.Subsemigroups.{part_cells}

-- What passes the questions: an accepted table, a list of its elements that is not empty, and buffers for what it generates.
pub record SubsemigroupPasses (n : ℕ) (cells l : List ℕ) (cellsLength elementsLength : ℕ) : Type 0 where
  pub table : Accepted n cells
  pub one : 1 ≤ length l
  pub inside : Inside n l
  pub cells_room : length (generated n (product n cells) l) * length (generated n (product n cells) l) ≤ cellsLength
  pub elements_room : length (generated n (product n cells) l) ≤ elementsLength

-- The elements e and the cells are the part of the table that the list generates: the smallest set, in rising order; its table, accepted; and the elements
-- as a map that embeds it.
pub record Subsemigroup (n : ℕ) (table l e cells : List ℕ) : Type 1 where
  pub smallest : Smallest (product n table) l (λ x. Memᴰ x e)
  pub rising : Sorted ◌<◌ e
  pub embeds : Embedding (length e) (product (length e) cells) n (product n table) e
  pub accepted : Accepted (length e) cells

-- For every accepted table and every list of its elements that is not empty, `generated` and `part_cells` give that part, and nothing else is that part.
abbrev pub SubsemigroupTheorem : Type 1
SubsemigroupTheorem =
    (n : ℕ) (table l : List ℕ) → Accepted n table → Inside n l → 1 ≤ length l → (e cells : List ℕ)
    → ((e ≡ generated n (product n table) l) × (cells ≡ part_cells (product n table) (generated n (product n table) l))) ↔ Subsemigroup n table l e cells
