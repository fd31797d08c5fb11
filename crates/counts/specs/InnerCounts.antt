-- Which counts stand in the arrays that have a place for each element of a table. Assumes nothing.
use Rattle.std.specs.Prelude.{◌≡◌, ℕ}
use Rattle.semigroups.specs.Tables.{Product}
use Rattle.semigroups.specs.Invariants as marks
use Rattle.products.specs.InnerPerElement.{per_element}
use Rattle.counts.specs.declared.ElementCounts.{ElementCounts}

-- The counts of every element's profile.
pub record AllCounts (n : ℕ) (s : Product) (r : ElementCounts) : Type 0 where
  pub frequency : r.frequency ≡ per_element n (marks.frequency n s)
  pub diagonal : r.diagonal ≡ per_element n (marks.diagonal_frequency n s)
  pub row : r.row ≡ per_element n (marks.row_frequency n s)
  pub column : r.column ≡ per_element n (marks.column_frequency n s)
  pub commuting : r.commuting ≡ per_element n (marks.commuting n s)
