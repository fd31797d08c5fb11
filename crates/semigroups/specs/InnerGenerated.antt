-- Lists inside a table, and products of their entries taken from left to right. Assumes nothing.
use Rattle.std.specs.Prelude.{◌≡◌, ℕ}
use mathlib.Core.List.{List, Memᴰ}
use Rattle.semigroups.specs.Tables.{Product, Element}

-- Every entry of the list is an element of a table of order n.
abbrev pub Inside : ℕ → List ℕ → Type 0
Inside n l = (x : ℕ) → Memᴰ x l → Element n x

-- x is an entry of the list, or a product of entries taken from left to right, as ((a·b)·c)·d. If the product is associative, these are all that the list
-- generates.
pub data LeftProduct (s : Product) (l : List ℕ) : ℕ → Type 0 where
  entry : (x : ℕ) → Memᴰ x l → LeftProduct s l x
  further : (x y z : ℕ) → LeftProduct s l x → Memᴰ y l → z ≡ s x y → LeftProduct s l z
