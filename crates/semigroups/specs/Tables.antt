-- Cayley tables, called multiplication tables in arXiv 1603.06204, section 2. A table is its order n and its cells row after row.
-- Statements are about an order and a product of elements, not about cells, so that they also hold of a product with its factors exchanged and of a part.
-- Assumes nothing.
use Rattle.std.specs.Prelude.{◌≡◌, Bool, ◌&&◌, not, ℕ, ◌+◌, ◌-◌, ◌*◌, ◌≤◌, ◌<◌, eqb, leb, length, get_or}
use mathlib.Core.List.{List, map, flat_map}
use Rattle.std.proofs.Math.Option.{Option}
use Rattle.semigroups.specs.Lists.{range, elements, at, find, lists}

-- The largest order of a table (RULES 3.1).
abbrev pub largest_order : ℕ
largest_order = 120

-- A product of elements; i times j is `s i j`. Outside its order a product may be anything: no statement depends on it.
abbrev pub Product : Type 0
Product = ℕ → ℕ → ℕ

-- The place of the cell in row i and column j, counted from 0, where the rows stand one after another and have n cells each (RULES 3.1).
abbrev pub cell_place : ℕ → ℕ → ℕ → ℕ
cell_place n i j = (i - 1) * n + (j - 1)

-- The product i·j of the table of order n with these cells: row i, column j holds k when i·j = k (1603.06204, section 2; RULES 3.3).
unfoldable pub product : ℕ → List ℕ → Product
product n cells i j = get_or cells (cell_place n i j) 0

-- m rows of n cells, row after row: the cell of row i and column j is f i j.
unfoldable pub grid : ℕ → ℕ → (ℕ → ℕ → ℕ) → List ℕ
grid m n f = flat_map (λ i. map (f i) (elements n)) (elements m)

-- The product with its factors exchanged: the rows of its table are the columns of the given one. It serves tables in which the column's element comes first
-- (RULES 10.1).
abbrev pub turned : Product → Product
turned s = λ i j. s j i

-- i is an element of a table of order n: elements are numbered from 1 (RULES 3.2).
abbrev pub Element : ℕ → ℕ → Type 0
Element n i = (1 ≤ i) × (i ≤ n)

-- The product is associative: (i·j)·k = i·(j·k) for every i, j, k (RULES 3.4).
abbrev pub Associative : ℕ → Product → Type 0
Associative n s = (i j k : ℕ) → Element n i → Element n j → Element n k → s (s i j) k ≡ s i (s j k)

-- The cells fill a table of order n, from 1 to 120: there are n × n of them, each 1 to n (RULES 3.1). These are questions 1 to 3.
pub record Filled (n : ℕ) (cells : List ℕ) : Type 0 where
  pub order : Element largest_order n
  pub size : length cells ≡ n * n
  pub in_range : (k : ℕ) → k < length cells → Element n (get_or cells k 0)

-- A table is accepted: its cells fill it, and it is associative (RULES 3.4).
pub record Accepted (n : ℕ) (cells : List ℕ) : Type 0 where
  pub filled : Filled n cells
  pub associative : Associative n (product n cells)

-- Whether x is an element of a table of order n (RULES 3.2).
unfoldable pub is_element : ℕ → ℕ → Bool
is_element n x = leb 1 x && leb x n

-- Whether the triple i, j, k associates: (i·j)·k = i·(j·k) (RULES 3.4).
unfoldable pub associates : Product → ℕ → ℕ → ℕ → Bool
associates s i j k = eqb (s (s i j) k) (s i (s j k))

-- The first cell that is not 1 to n, counted from 1, or none (question 3).
unfoldable pub bad_cell : ℕ → List ℕ → Option ℕ
bad_cell n cells = find (λ k. not (is_element n (at cells k))) (range 1 (length cells))

-- The first triple i, j, k that does not associate, or none (question 4). Triples are compared by i, then by j, then by k.
unfoldable pub bad_triple : ℕ → Product → Option (List ℕ)
bad_triple n s = find (λ l. not (associates s (at l 1) (at l 2) (at l 3))) (lists 3 n)
