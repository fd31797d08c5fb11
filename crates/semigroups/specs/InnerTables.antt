-- Lists of elements, and the table with rows and columns exchanged. Assumes nothing.
use Rattle.std.specs.Prelude.{◌≡◌, ℕ, length}
use mathlib.Core.List.{List, Memᴰ}
use Rattle.semigroups.specs.Tables.{grid, turned, product, Element}

-- The cells of the table with rows and columns exchanged.
unfoldable pub turned_cells : ℕ → List ℕ → List ℕ
turned_cells n cells = grid n n (turned (product n cells))

-- A list of m entries, each an element of a table of order n.
pub record IsList (m n : ℕ) (f : List ℕ) : Type 0 where
  pub size : length f ≡ m
  pub entries : (x : ℕ) → Memᴰ x f → Element n x
