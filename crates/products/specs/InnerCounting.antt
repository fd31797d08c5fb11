-- Counting in a list (arXiv 1603.06204, section 4: counts over a table, its diagonal, a row, a column): how often a number stands among cells that are a step
-- apart. Assumes nothing.
use Rattle.std.specs.Prelude.{List, ℕ, ◌*◌, ◌<◌, eqb, length, get_or}
use Rattle.semigroups.specs.Lists.{range, count}

-- How often a stands among k cells: the first, and then each that is a step after the one before.
unfoldable pub occurrences : ℕ → ℕ → ℕ → List ℕ → ℕ
occurrences a step k cells = count (λ i. eqb (get_or cells (i * step) 0) a) (range 0 k)

-- The list is long enough to have these k cells.
abbrev pub InRange : ℕ → ℕ → List ℕ → Type 0
InRange k step cells = (i : ℕ) → i < k → i * step < length cells
