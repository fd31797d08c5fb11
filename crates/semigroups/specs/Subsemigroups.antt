-- The part of an accepted table that a list of chosen elements generates, as a table of its own (RULES 16). It is the subsemigroup that the list generates
-- (East, Egri-Nagy and Mitchell, arXiv 1403.0274, section 2); its elements are renumbered in rising order. Assumes nothing.
use Rattle.std.specs.Prelude.{◌&&◌, List, [], ◌∷◌, ◌++◌, ℕ, ◌*◌, eqb, leb, length}
use Rattle.std.proofs.Math.Option.{Option}
use Rattle.semigroups.specs.Lists.{at, all, least}
use Rattle.semigroups.specs.Tables.{Product, product, grid, is_element}
use Rattle.semigroups.specs.Questions.{Question, ask, Refusal, first_no, table_questions}
use Rattle.semigroups.specs.Generated.{generated}

-- The number of x among the entries of a list, counted from 1; if x is not among them, one more than the length of the list.
unfoldable pub number_in : List ℕ → ℕ → ℕ
number_in e x = least (length e) (λ i. eqb (at e i) x)

-- The product of the entries numbered i and j, as a number among the entries.
unfoldable pub renumbered : Product → List ℕ → Product
renumbered s e i j = number_in e (s (at e i) (at e j))

-- The cells of the table of the entries, renumbered (RULES 16.2).
unfoldable pub part_cells : Product → List ℕ → List ℕ
part_cells s e = grid (length e) (length e) (renumbered s e)

-- The questions about a table, a list of chosen elements that generates k of them, and the lengths of two buffers: the table's four; then 60, is the list not
-- empty, and every entry 1 to n? 61, has the cell buffer at least k × k bytes? 62, has the element buffer at least k bytes?
abbrev pub subsemigroup_questions : ℕ → List ℕ → List ℕ → ℕ → ℕ → List Question
subsemigroup_questions n cells l cellsLength elementsLength =
    let k = length (generated n (product n cells) l) in
    table_questions n cells ++ ask 60 (leb 1 (length l) && all (is_element n) l) ∷ ask 61 (leb (k * k) cellsLength) ∷ ask 62 (leb k elementsLength) ∷ []

-- The refusal of a call that makes a table of a part, if a question fails.
unfoldable pub subsemigroup_refusal : ℕ → List ℕ → List ℕ → ℕ → ℕ → Option Refusal
subsemigroup_refusal n cells l cellsLength elementsLength = first_no (subsemigroup_questions n cells l cellsLength elementsLength)
