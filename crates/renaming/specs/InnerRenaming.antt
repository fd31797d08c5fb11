-- A table with its elements numbered anew: first those that are no product of two elements, then the others by their first places in the table.
-- Assumes nothing.
use Rattle.std.specs.Prelude.{not, List, ℕ}
use Rattle.semigroups.specs.Lists.{elements, keep, member}
use Rattle.semigroups.specs.Tables.{product}
use Rattle.semigroups.specs.Subsemigroups.{part_cells}
use Rattle.light.specs.InnerFound.{adding_all}

-- The elements 1 to n that stand nowhere in the cells, in rising order: they are no product of two elements.
unfoldable pub non_products : ℕ → List ℕ → List ℕ
non_products n cells = keep (λ x. not (member x cells)) (elements n)

-- The elements of a table of order n, each once: first those that are no product, in rising order; then the others by their first places in the cells, read row
-- after row, the earliest first.
unfoldable pub products_last : ℕ → List ℕ → List ℕ
products_last n cells = adding_all (non_products n cells) cells

-- The cells of the table in which each element has the number of its place in that list.
unfoldable pub renamed_cells : ℕ → List ℕ → List ℕ
renamed_cells n cells = part_cells (product n cells) (products_last n cells)
